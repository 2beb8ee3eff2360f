-- Texts that are not hexadecimal: addresses of BIP 173 and of the first block, the beginning of a PSBT of BIP 174, and slips of the hand.
use Rattle.std.proofs.Common.{◌≡◌, [], ◌∷◌, ◌++◌, map, refl, Some, None}
use Rattle.std.specs.Prelude.{codes}
use Rattle.warnings.specs.declared.text_faults.TextFault.TheVariants.{PrivateKey, Psbt, Address, Descriptor, Assembly, Prefix, Blank, NoDigit, Odd}
use Rattle.warnings.specs.TextFaults.{text_fault, is_base58_address, is_segwit_address, is_wif, is_encrypted_key, begins_with_key, is_seed, has_private_key, form_of, fault_at}

looks : map text_fault (
    codes "cHNidP8BAHECAAAAASaB" ∷ codes "bc1qw508d6qejxtdg4y5r3zarvary0c5xw7kv8f3t4" ∷ codes "BC1QW508D6QEJXTDG4Y5R3ZARVARY0C5XW7KV8F3T4"
    ∷ codes "tb1qrp33g0q5c5txsp9arysrx4k6zdkfs4nce4xj0gdcccefvpysxf3q0sl5k7" ∷ codes "1A1zP1eP5QGefi2DMPTfTL5SLmv7DivfNa"
    ∷ codes "3P14159f73E4gFr7JterCCQh9QjiTjiZrG" ∷ codes "mipcBbFg9gMiCh81Kj8tqqdgoZub1ZJRfn" ∷ codes "wsh(pk(02aa))" ∷ codes "OP_DUP OP_HASH160"
    ∷ codes "2 02aa OP_CHECKSIG" ∷ []) ≡
    Some Psbt ∷ Some Address ∷ Some Address ∷ Some Address ∷ Some Address ∷ Some Address ∷ Some Address ∷ Some Descriptor ∷ Some Assembly ∷ Some Assembly ∷ []
unfolding is_base58_address is_segwit_address is_wif is_encrypted_key begins_with_key is_seed has_private_key form_of fault_at
looks = refl

-- what is hexadecimal, in either letter case, has no fault; else the first byte that is no digit is named, and of digits alone their number where it is odd
slips : map text_fault (
    [] ∷ codes "51" ∷ codes "aF09" ∷ codes "5" ∷ codes "bc1" ∷ codes "0x51" ∷ codes "0X51" ∷ codes " 51" ∷ codes "51 " ∷ (53 ∷ 49 ∷ 10 ∷ []) ∷ (53 ∷ 9 ∷ []) ∷ (53 ∷ 13 ∷ [])
    ∷ codes "5g" ∷ codes "g5" ∷ codes "5/" ∷ codes "5:" ∷ codes "5@" ∷ codes "5G" ∷ codes "5`" ∷ (0xef ∷ 0xbc ∷ 0x95 ∷ []) ∷ []) ≡
    None ∷ None ∷ None ∷ Some (Odd 1) ∷ Some (Odd 3) ∷ Some Prefix ∷ Some Prefix ∷ Some (Blank 0) ∷ Some (Blank 2) ∷ Some (Blank 2) ∷ Some (Blank 1) ∷ Some (Blank 1)
    ∷ Some (NoDigit 1) ∷ Some (NoDigit 0) ∷ Some (NoDigit 1) ∷ Some (NoDigit 1) ∷ Some (NoDigit 1) ∷ Some (NoDigit 1) ∷ Some (NoDigit 1) ∷ Some (NoDigit 0) ∷ []
unfolding is_base58_address is_segwit_address is_wif is_encrypted_key begins_with_key is_seed has_private_key form_of fault_at
slips = refl

-- an address has 26 to 35 characters, none of them 0, O, I or l
near_addresses : map text_fault (
    codes "1zzzzzzzzzzzzzzzzzzzzzzzzz" ∷ codes "1zzzzzzzzzzzzzzzzzzzzzzzz" ∷ codes "1zzzzzzzzzzzzzzzzzzzzzzzzzzzzzzzzzz" ∷ codes "1zzzzzzzzzzzzzzzzzzzzzzzzzzzzzzzzzzz"
    ∷ codes "1zzzzzzzzzzzzzzzzzzzzzzzz0" ∷ codes "1zzzzzzzzzzzzzzzzzzzzzzzzO" ∷ codes "1zzzzzzzzzzzzzzzzzzzzzzzzI" ∷ codes "1zzzzzzzzzzzzzzzzzzzzzzzzl"
    ∷ codes "4zzzzzzzzzzzzzzzzzzzzzzzzz" ∷ []) ≡
    Some Address ∷ Some (NoDigit 1) ∷ Some Address ∷ Some (NoDigit 1) ∷ Some (NoDigit 1) ∷ Some (NoDigit 1) ∷ Some (NoDigit 1) ∷ Some (NoDigit 1) ∷ Some (NoDigit 1) ∷ []
unfolding is_base58_address is_segwit_address is_wif is_encrypted_key begins_with_key is_seed has_private_key form_of fault_at
near_addresses = refl

-- keys in WIF, uncompressed and compressed, of Bitcoin and of its test network; an extended one (BIP 32), also in a descriptor; 50 and 53 characters, one that is none of Base58, and another first one
private_keys : map text_fault (
    codes "5HueCGU8rMjxEXxiPuD5BDku4MkFqeZyd4dZ1jvhTVqvbTLvyTJ" ∷ codes "KwdMAjGmerYanjeui5SHS7JkmpZvVipYvB2LJGU1ZxJwYvP98617" ∷ codes "L1aW4aubDFB7yfras2S1mN3bqg9nwySY8nkoLmJebSLD5BWv3ENZ"
    ∷ codes "9zzzzzzzzzzzzzzzzzzzzzzzzzzzzzzzzzzzzzzzzzzzzzzzzzz" ∷ codes "czzzzzzzzzzzzzzzzzzzzzzzzzzzzzzzzzzzzzzzzzzzzzzzzzzz" ∷ codes "xprv9s21ZrQH143K3QTDL4LXw2F7HEK3wJUD2nW2nRk4stbPy6cq3jPPqjiChkVvvNKmPGJxWUtg6LnF5kejMRNNU3TGtRBeJgk33yuGBxrMPHi"
    ∷ codes "wpkh(tprv8Zgx)" ∷ codes "Kzzzzzzzzzzzzzzzzzzzzzzzzzzzzzzzzzzzzzzzzzzzzzzzzz" ∷ codes "Kzzzzzzzzzzzzzzzzzzzzzzzzzzzzzzzzzzzzzzzzzzzzzzzzzzzz" ∷ codes "Kzzzzzzzzzzzzzzzzzzzzzzzzzzzzzzzzzzzzzzzzzzzzzzzzzz0"
    ∷ codes "Mzzzzzzzzzzzzzzzzzzzzzzzzzzzzzzzzzzzzzzzzzzzzzzzzzzz" ∷ []) ≡
    Some PrivateKey ∷ Some PrivateKey ∷ Some PrivateKey ∷ Some PrivateKey ∷ Some PrivateKey ∷ Some PrivateKey ∷ Some PrivateKey ∷ Some (NoDigit 0) ∷ Some (NoDigit 0) ∷ Some (NoDigit 0) ∷ Some (NoDigit 0) ∷ []
unfolding is_base58_address is_segwit_address is_wif is_encrypted_key begins_with_key is_seed has_private_key form_of fault_at
private_keys = refl

-- a key in quotes, after a prefix, after a blank, before the end of a line, and in a descriptor; the other letters of an extended one (SLIP 132); a key with a letter on either side; a PSBT with the
-- letters of an extended one
keys_in_texts : map text_fault (
    codes "'L1aW4aubDFB7yfras2S1mN3bqg9nwySY8nkoLmJebSLD5BWv3ENZ'" ∷ codes "wif:L1aW4aubDFB7yfras2S1mN3bqg9nwySY8nkoLmJebSLD5BWv3ENZ" ∷ codes " 5HueCGU8rMjxEXxiPuD5BDku4MkFqeZyd4dZ1jvhTVqvbTLvyTJ"
    ∷ (codes "5HueCGU8rMjxEXxiPuD5BDku4MkFqeZyd4dZ1jvhTVqvbTLvyTJ" ++ 10 ∷ []) ∷ codes "wpkh(L1aW4aubDFB7yfras2S1mN3bqg9nwySY8nkoLmJebSLD5BWv3ENZ)"
    ∷ codes "yprvABrGsX5C9jantZVwdwcQhDXkqsu4RoSAZKBwPnLA3uyeVM3C3fvTuqzru4fovMSLqYSqALGe9MBqCf7Pg7Y7CTsjoNnLYg6HxR2Xo44NX7E" ∷ codes "zprvA" ∷ codes "uprv8" ∷ codes "vprv9" ∷ codes "wsh(Zprv)"
    ∷ codes "IL1aW4aubDFB7yfras2S1mN3bqg9nwySY8nkoLmJebSLD5BWv3ENZ" ∷ codes "L1aW4aubDFB7yfras2S1mN3bqg9nwySY8nkoLmJebSLD5BWv3ENZz" ∷ codes "cHNidPxprv" ∷ []) ≡
    Some PrivateKey ∷ Some PrivateKey ∷ Some PrivateKey ∷ Some PrivateKey ∷ Some PrivateKey ∷ Some PrivateKey ∷ Some PrivateKey ∷ Some PrivateKey ∷ Some PrivateKey ∷ Some PrivateKey
    ∷ Some (NoDigit 0) ∷ Some (NoDigit 0) ∷ Some Psbt ∷ []
unfolding is_base58_address is_segwit_address is_wif is_encrypted_key begins_with_key is_seed has_private_key form_of fault_at
keys_in_texts = refl

-- the first encrypted key of BIP 38 in quotes, one character more, one that is none of Base58, and another first letter
encrypted_keys : map text_fault (
    codes "'6PRVWUbkzzsbcVac2qwfssoUJAN1Xhrg6bNk8J7Nzm5H7kxEbn2Nh2ZoGg'" ∷ codes "6PRVWUbkzzsbcVac2qwfssoUJAN1Xhrg6bNk8J7Nzm5H7kxEbn2Nh2ZoGgg" ∷ codes "6PRVWUbkzzsbcVac2qwfssoUJAN1Xhrg6bNk8J7Nzm5H7kxEbn2Nh2ZoG0"
    ∷ codes "7PRVWUbkzzsbcVac2qwfssoUJAN1Xhrg6bNk8J7Nzm5H7kxEbn2Nh2ZoGg" ∷ []) ≡
    Some PrivateKey ∷ Some (NoDigit 1) ∷ Some (NoDigit 1) ∷ Some (NoDigit 1) ∷ []
unfolding is_base58_address is_segwit_address is_wif is_encrypted_key begins_with_key is_seed has_private_key form_of fault_at
encrypted_keys = refl

-- the first seed of BIP 39's vectors, in capitals with commas and in lines with numbers; 12 words of three letters and of eight, 11, one of two letters and one of nine, and no word's end
seeds : map text_fault (
    codes "abandon abandon abandon abandon abandon abandon abandon abandon abandon abandon abandon about" ∷ codes "Abandon,ABANDON, abandon,abandon,abandon,abandon,abandon,abandon,abandon,abandon,abandon,about."
    ∷ (codes "1. act act act act act act" ++ 10 ∷ codes "7. act act act act act act" ++ 10 ∷ []) ∷ codes "act act act act act act act act act act act act" ∷ codes "absolute act act act act act act act act act act absolute"
    ∷ codes "act act act act act act act act act act act" ∷ codes "act act act act act act act act act act act act ac" ∷ codes "act act act act act act act act act act act act absolutes"
    ∷ codes "actactactactactactactactactactactactactactactact" ∷ []) ≡
    Some PrivateKey ∷ Some PrivateKey ∷ Some PrivateKey ∷ Some PrivateKey ∷ Some PrivateKey ∷ Some (NoDigit 2) ∷ Some (NoDigit 2) ∷ Some (NoDigit 2) ∷ Some (NoDigit 2) ∷ []
unfolding is_base58_address is_segwit_address is_wif is_encrypted_key begins_with_key is_seed has_private_key form_of fault_at
seeds = refl
