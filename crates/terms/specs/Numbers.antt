-- The numbers of commitments, and the fields of their transactions that carry them (BOLT 3, "Commitment Transaction").
use Rattle.std.specs.Prelude.{◌≡◌, ℕ, ◌+◌, ◌*◌, ◌/◌, ◌%◌, ◌^◌, ◌<◌, ◌==◌, ◌&&◌, if◌then◌else◌, List, [], ◌∷◌, ◌++◌, Option, Some, None, bit_xor, slice_index}
use Rattle.sha2.specs.Sha256.{sha256}
use Rattle.tx.specs.Fields.{Transaction}
use Rattle.tx.specs.declared.input.TxIn.{TxIn}
use Rattle.terms.specs.declared.agreement.Terms.{Terms}
use Rattle.terms.specs.declared.numbers.Obscured.{Obscured}
use Rattle.terms.specs.Sides.{other}
use Rattle.terms.specs.Agreement.{party}

-- the last six bytes of a hash, as a big-endian number
abbrev pub low_48_bits : List ℕ → ℕ
low_48_bits h = 2 ^ 40 * slice_index h 26 + 2 ^ 32 * slice_index h 27 + 2 ^ 24 * slice_index h 28
    + 2 ^ 16 * slice_index h 29 + 2 ^ 8 * slice_index h 30 + slice_index h 31

-- the mask of a channel's commitment numbers: the low 48 bits of SHA-256 of the opener's payment base key, then the
-- accepter's
unfoldable pub mask_of : Terms → ℕ
mask_of t = low_48_bits (sha256 ((party t.opener t).bases.payment.bytes
    ++ (party (other t.opener) t).bases.payment.bytes))

-- the fields that carry 48 bits: the low half under the top byte 20 (hexadecimal), and the high half under the top
-- byte 80
abbrev pub fields_of : ℕ → Obscured
fields_of n =
    record { lock_time = 0x20000000 + n % 2 ^ 24; sequence = 0x80000000 + n / 2 ^ 24 % 2 ^ 24 }

-- the fields that carry a number under a mask
abbrev pub obscured : ℕ → ℕ → Obscured
obscured mask n = fields_of (bit_xor n mask)

-- the number that fields carry under a mask
abbrev pub revealed : ℕ → ℕ → ℕ → Option ℕ
revealed mask lock_time sequence =
    if lock_time / 2 ^ 24 == 0x20 && sequence / 2 ^ 24 == 0x80
    then Some (bit_xor (sequence % 2 ^ 24 * 2 ^ 24 + lock_time % 2 ^ 24) mask)
    else None

-- a transaction is, by its form, the channel's commitment of this number
pub record HasNumber (terms : Terms) (t : Transaction) (n : ℕ) : Type 0 where
  pub range : n < 2 ^ 48
  pub input : TxIn
  pub alone : t.inputs ≡ input ∷ []
  pub spends : input.outpoint ≡ terms.funding
  pub carries : obscured (mask_of terms) n ≡ record { lock_time = t.lock_time; sequence = input.sequence }

-- each number is found in its fields
abbrev pub NumbersComeBack : Type 0
NumbersComeBack = (mask n : ℕ) → mask < 2 ^ 48 → n < 2 ^ 48 → revealed mask (obscured mask n).lock_time (obscured mask n).sequence ≡ Some n

-- fields that carry a number are those of that number, which is below 2^48
abbrev pub FieldsComeBack : Type 0
FieldsComeBack =
    (mask n lock_time sequence : ℕ) → mask < 2 ^ 48 → revealed mask lock_time sequence ≡ Some n
    → (n < 2 ^ 48) × (obscured mask n ≡ record { lock_time = lock_time; sequence = sequence })
