-- Texts that are not hexadecimal, as ASCII codes.
use Rattle.std.specs.Prelude.{ℕ, ◌+◌, ◌%◌, Bool, false, ◌&&◌, ◌||◌, not, ◌==◌, nat_le, nat_lt, if◌then◌else◌, List, [], ◌∷◌, length, take, slice_index, Option, Some, None, codes}
use Rattle.std.specs.Option.{option_map_or}
use Rattle.std.specs.List.{list_all, position_from}
use Rattle.warnings.specs.Parts.{has_at, has_part}
use Rattle.warnings.specs.declared.text_faults.TextFault.{TextFault}
use Rattle.warnings.specs.declared.text_faults.TextFault.TheVariants.{PrivateKey, Psbt, Address, Descriptor, Assembly, Prefix, Blank, NoDigit, Odd}

-- 0 to 9, A to F, a to f
abbrev pub is_digit : ℕ → Bool
is_digit b = (nat_le 48 b && nat_le b 57) || (nat_le 65 b && nat_le b 70) || (nat_le 97 b && nat_le b 102)

-- a blank, a tab, or the end of a line
abbrev pub is_blank : ℕ → Bool
is_blank b = b == 32 || b == 9 || b == 10 || b == 13

-- the digits and letters of Base58: all but 0, O, I and l
abbrev pub is_base58 : ℕ → Bool
is_base58 b =
    (nat_le 49 b && nat_le b 57) || (nat_le 65 b && nat_le b 90 && not (b == 73) && not (b == 79)) || (nat_le 97 b && nat_le b 122 && not (b == 108))

-- 26 to 35 of them, of which the first is 1 or 3, or m, n or 2 in networks for tests
unfoldable pub is_base58_address : List ℕ → Bool
is_base58_address text =
    nat_le 26 (length text) && nat_le (length text) 35
    && (has_at 0 (codes "1") text || has_at 0 (codes "3") text || has_at 0 (codes "m") text || has_at 0 (codes "n") text || has_at 0 (codes "2") text)
    && list_all is_base58 text

-- the first letters of an address, in one letter case (BIP 173)
unfoldable pub is_segwit_address : List ℕ → Bool
is_segwit_address text =
    has_at 0 (codes "bc1") text || has_at 0 (codes "BC1") text || has_at 0 (codes "tb1") text
    || has_at 0 (codes "TB1") text || has_at 0 (codes "bcrt1") text || has_at 0 (codes "BCRT1") text

-- 51 or 52 of them, of which the first is 5, K or L, or 9 or c in networks for tests: a private key in WIF
unfoldable pub is_wif : List ℕ → Bool
is_wif text =
    nat_le 51 (length text) && nat_le (length text) 52
    && (has_at 0 (codes "5") text || has_at 0 (codes "K") text || has_at 0 (codes "L") text || has_at 0 (codes "9") text || has_at 0 (codes "c") text)
    && list_all is_base58 text

-- 58 of them, of which the first are 6P: an encrypted one (BIP 38)
unfoldable pub is_encrypted_key : List ℕ → Bool
is_encrypted_key text = length text == 58 && has_at 0 (codes "6P") text && list_all is_base58 text

abbrev pub is_key_text : List ℕ → Bool
is_key_text text = is_wif text || is_encrypted_key text

-- a letter
abbrev pub is_letter : ℕ → Bool
is_letter b = (nat_le 65 b && nat_le b 90) || (nat_le 97 b && nat_le b 122)

-- the letters of a word of a seed (BIP 39)
abbrev pub is_word_size : ℕ → Bool
is_word_size n = nat_le 3 n && nat_le n 8

-- the rest of a text ends 12 words or more, before which `size` letters of a word stand, and `count` words ended; no other words stand there
abbrev pub has_words : ℕ → ℕ → List ℕ → Bool
has_words size count [] = if is_word_size size then nat_le 11 count else size == 0 && nat_le 12 count
has_words size count (b ∷ text) =
    if is_letter b then has_words (size + 1) count text
    else if is_word_size size then has_words 0 (count + 1) text
    else size == 0 && has_words 0 count text

-- the words of a seed, with whatever stands between them that is no letter
unfoldable pub is_seed : List ℕ → Bool
is_seed text = has_words 0 0 text

-- a digit or a letter
abbrev pub is_alphanumeric : ℕ → Bool
is_alphanumeric b = (nat_le 48 b && nat_le b 57) || (nat_le 65 b && nat_le b 90) || (nat_le 97 b && nat_le b 122)

-- the digits and letters at the front are such a key
unfoldable pub begins_with_key : List ℕ → Bool
begins_with_key text =
    option_map_or (λ end. nat_le end (length text) && is_key_text (take end text)) (position_from (λ b. not (is_alphanumeric b)) 0 text) (is_key_text text)

-- such a key anywhere, as in quotes, after a prefix or in a descriptor: no digit or letter stands right before it or right after it. `inside` says whether one stands before the text
abbrev pub has_key_after : Bool → List ℕ → Bool
has_key_after inside [] = false
has_key_after inside (b ∷ text) = (not inside && begins_with_key (b ∷ text)) || has_key_after (is_alphanumeric b) text

-- such a key, or an extended private key anywhere: after the first letter it has prv (BIP 32, SLIP 132); or the words of a seed
unfoldable pub has_private_key : List ℕ → Bool
has_private_key text = has_key_after false text || has_part (codes "prv") text || is_seed text

-- what the text looks like; the first letters of a PSBT are those of its magic bytes in Base64 (BIP 174)
unfoldable pub form_of : List ℕ → Option TextFault
form_of text =
    if has_at 0 (codes "cHNidP") text then Some Psbt
    else if has_private_key text then Some PrivateKey
    else if is_segwit_address text || is_base58_address text then Some Address
    else if has_part (codes "(") text then Some Descriptor
    else if has_part (codes "OP_") text then Some Assembly
    else if has_at 0 (codes "0x") text || has_at 0 (codes "0X") text then Some Prefix
    else None

-- an odd number of digits
abbrev pub odd_of : ℕ → Option TextFault
odd_of n = if n % 2 == 1 then Some (Odd n) else None

-- what the text looks like, or else its first byte that is no digit
unfoldable pub fault_at : List ℕ → ℕ → TextFault
fault_at text at =
    option_map_or (λ form. form) (form_of text)
    (if nat_lt at (length text) && is_blank (slice_index text at) then Blank at else NoDigit at)

-- why a text is not hexadecimal
abbrev pub text_fault : List ℕ → Option TextFault
text_fault text = option_map_or (λ at. Some (fault_at text at)) (position_from (λ b. not (is_digit b)) 0 text) (odd_of (length text))
