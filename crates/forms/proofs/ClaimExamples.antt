-- The witnesses that BOLT 3 gives under each output, the deepest item first as it writes them, without the script.
use Rattle.std.proofs.Common.{◌≡◌, ℕ, List, [], ◌∷◌, map, replicate, reverse, refl}
use Rattle.std.specs.Prelude.{IsTrue}
use Rattle.script.specs.Token.{is_key}
use Rattle.keys.specs.declared.compressed.Key.{Key}
use Rattle.forms.specs.declared.kinds.ClaimKind.{ClaimKind}
use Rattle.forms.specs.declared.kinds.ClaimKind.TheVariants.{Penalty, Delayed, HtlcPenalty, DirectPreimage, DirectTimeout, KeyHash, HtlcTimeout, HtlcSuccess}
use Rattle.forms.specs.Fillings.{Filling, Signature, PreimageOf, Bytes, fillings_of}
use Rattle.forms.specs.Claims.{path_taken_by}

key_form : (b : ℕ) → IsTrue (is_key (2 ∷ replicate 32 b))
unfolding is_key
key_form b = refl

abbrev key : ℕ → Key
key b = record { bytes = 2 ∷ replicate 32 b; form = key_form b }

abbrev witness : ClaimKind → List Filling
witness kind = reverse (fillings_of kind)

-- "Commitment Transaction Outputs": to_local, and a key's hash (BIP 141)
outputs : map witness (Penalty (key 1) ∷ Delayed (key 2) ∷ KeyHash (key 3) ∷ []) ≡
    (Signature (key 1).bytes ∷ Bytes (1 ∷ []) ∷ []) ∷ (Signature (key 2).bytes ∷ Bytes [] ∷ []) ∷ (Signature (key 3).bytes ∷ Bytes (key 3).bytes ∷ []) ∷ []
outputs = refl

-- "Offered HTLC Outputs", "Received HTLC Outputs", and "HTLC-Timeout and HTLC-Success Transactions"
htlcs : (hash token : List ℕ) → map witness (HtlcPenalty (key 1) ∷ DirectPreimage hash (key 2) ∷ DirectTimeout (key 2) ∷ HtlcTimeout (key 3) token ∷ HtlcSuccess hash (key 3) token ∷ []) ≡
    (Signature (key 1).bytes ∷ Bytes (key 1).bytes ∷ [])
    ∷ (Signature (key 2).bytes ∷ PreimageOf hash ∷ [])
    ∷ (Signature (key 2).bytes ∷ Bytes [] ∷ [])
    ∷ (Bytes [] ∷ Bytes token ∷ Signature (key 3).bytes ∷ Bytes [] ∷ [])
    ∷ (Bytes [] ∷ Bytes token ∷ Signature (key 3).bytes ∷ PreimageOf hash ∷ [])
    ∷ []
htlcs hash token = refl

-- the branches in the order of their text: the revocation key first, then what stands before the second ELSE, then what stands after it
paths : (hash token : List ℕ) → map path_taken_by (Penalty (key 1) ∷ Delayed (key 2) ∷ KeyHash (key 3) ∷ HtlcPenalty (key 1) ∷ HtlcTimeout (key 3) token ∷ HtlcSuccess hash (key 3) token ∷ DirectPreimage hash (key 2) ∷ DirectTimeout (key 2) ∷ []) ≡ 0 ∷ 1 ∷ 0 ∷ 0 ∷ 1 ∷ 1 ∷ 2 ∷ 2 ∷ []
paths hash token = refl
