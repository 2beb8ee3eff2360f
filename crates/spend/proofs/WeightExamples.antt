-- Weights that BOLT 3 has, and fees on both sides of a satoshi.
use Rattle.std.proofs.Common.{◌≡◌, ℕ, List, [], ◌∷◌, replicate, map, refl}
use Rattle.script.specs.Token.{is_key}
use Rattle.tx.specs.Fields.{Transaction}
use Rattle.tx.specs.Spelling.{number, compact_size, bytes_with_length, outpoint, input, output, witness, body, witnesses, spelling, stripped_spelling}
use Rattle.keys.specs.declared.compressed.Key.{Key}
use Rattle.filling.specs.declared.missing.MissingSignature.{MissingSignature}
use Rattle.spend.specs.Weights.{weight_of, greatest_weight, fee_at}

-- a commitment of BOLT 3 with this many HTLC outputs beside one to each side, and with this witness
abbrev commitment : List (List ℕ) → ℕ → Transaction
commitment items htlcs = record {
  version = 2;
  inputs = record { outpoint = record { txid = replicate 32 7; index = 1 }; sequence = 0x80000000; witness = items } ∷ [];
  outputs = record { value = 3000000; script = replicate 22 1 } ∷ record { value = 6989140; script = replicate 34 2 } ∷ replicate htlcs (record { value = 1000; script = replicate 34 3 });
  lock_time = 0x20000000;
}

-- signatures of 73 bytes, and the script of two keys
abbrev signed : List (List ℕ)
signed = [] ∷ replicate 73 4 ∷ replicate 73 5 ∷ replicate 71 6 ∷ []

abbrev key : Key
unfolding is_key
key = record { bytes = 2 ∷ replicate 32 17; form = refl }

abbrev missing : MissingSignature
missing = record { input = 0; item = 1; key = key; digest = [] }

-- BOLT 3, Appendix A: 724 units, and 172 for each HTLC output. Of them 224 are of the witness. The same for empty items in the place of both signatures
weights : (weight_of (commitment signed 0) ≡ 724)
    × (weight_of (commitment signed 1) ≡ 896)
    × (weight_of (commitment signed 3) ≡ 1240)
    × (weight_of (commitment [] 0) ≡ 500)
    × (weight_of (commitment ([] ∷ [] ∷ [] ∷ replicate 71 6 ∷ []) 0) ≡ 578)
    × (greatest_weight (commitment ([] ∷ [] ∷ [] ∷ replicate 71 6 ∷ []) 0) (missing ∷ missing ∷ []) ≡ 724)
    × (greatest_weight (commitment signed 0) [] ≡ 724)
unfolding number compact_size bytes_with_length outpoint input output witness body witnesses spelling stripped_spelling
weights = (refl, refl, refl, refl, refl, refl, refl)

-- rounded up: never below the feerate
fees : (map (fee_at 1) (0 ∷ 1 ∷ 1000 ∷ 1001 ∷ []) ≡ 0 ∷ 1 ∷ 1 ∷ 2 ∷ [])
    × (map (fee_at 253) (0 ∷ 724 ∷ 1000 ∷ []) ≡ 0 ∷ 184 ∷ 253 ∷ [])
    × (fee_at 0 724 ≡ 0)
fees = (refl, refl, refl)
