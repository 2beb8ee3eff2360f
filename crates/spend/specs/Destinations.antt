-- Which programs are paid: those that wallets have an address for, and that have a rule.
use Rattle.std.specs.Prelude.{ℕ, ◌==◌, ◌&&◌, ◌||◌, Bool, if◌then◌else◌, List, length, slice_index}
use Rattle.spend.specs.Dust.{is_witness_program}

-- P2PKH: the hash of a key between DUP HASH160 and EQUALVERIFY CHECKSIG
abbrev pub is_public_key_hash : List ℕ → Bool
is_public_key_hash program = length program == 25 && slice_index program 0 == 0x76 && slice_index program 1 == 0xa9 && slice_index program 2 == 20
    && slice_index program 23 == 0x88 && slice_index program 24 == 0xac

-- P2SH (BIP 16): the hash of a script between HASH160 and EQUAL
abbrev pub is_script_hash : List ℕ → Bool
is_script_hash program = length program == 23 && slice_index program 0 == 0xa9 && slice_index program 1 == 20 && slice_index program 22 == 0x87

-- BIP 141: version 0 has 20 or 32 bytes. BIP 341: version 1 has 32. No rule stands yet for what else a witness program is, so anyone can spend from it
abbrev pub has_rule : List ℕ → Bool
has_rule program = is_witness_program program && (if slice_index program 0 == 0 then length program == 22 || length program == 34 else slice_index program 0 == 0x51 && length program == 34)

abbrev pub is_destination : List ℕ → Bool
is_destination program = is_public_key_hash program || is_script_hash program || has_rule program
