-- The order of outputs at each of its keys, and the limits at both sides.
use Rattle.std.proofs.Common.{◌≡◌, ℕ, List, [], ◌∷◌, map, Some, None, refl}
use Rattle.tx.specs.declared.limits.TheConstants.{MAX_VALUE}
use Rattle.commit.specs.declared.fees.Direction.TheVariants.{Offered, Received}
use Rattle.commit.specs.declared.outputs.OutputKind.{OutputKind}
use Rattle.commit.specs.declared.outputs.OutputKind.TheVariants.{ToLocal, ToRemote, ToHtlc}
use Rattle.commit.specs.declared.outputs.CommitmentOutput.{CommitmentOutput}
use Rattle.commit.specs.declared.outputs.HtlcOutput.{HtlcOutput}
use Rattle.commit.specs.declared.errors.BuildError.TheVariants.{ValueTooLarge}
use Rattle.commit.specs.Order.{output_cmp, in_order}
use Rattle.commit.specs.Commitments.{htlcs_from, lock_time_of}
use Rattle.commit.specs.Building.{refusal_of}

abbrev output : ℕ → List ℕ → OutputKind → CommitmentOutput
output value program kind = record { value = value; script = []; program = program; kind = kind }

-- an HTLC's output, told apart by its id
abbrev htlc : ℕ → List ℕ → ℕ → ℕ → CommitmentOutput
htlc value program expiry_height id = output value program (ToHtlc Offered (record { id = id; amount_msat = 0; hash = []; expiry_height = expiry_height }))

-- by value, then by the bytes of the program in lexicographic order, then by expiry; outputs equal in all three stay as
-- they stood
ordered : in_order (htlc 2 (9 ∷ []) 5 0 ∷ htlc 1 (2 ∷ []) 7 1 ∷ htlc 1 (2 ∷ 0 ∷ []) 1 2 ∷ htlc 1 (1 ∷ 255 ∷ []) 9 3 ∷ htlc 1 (2 ∷ []) 6 5 ∷ htlc 1 (2 ∷ []) 6 4 ∷ output 1 (2 ∷ []) ToLocal ∷ [])
    ≡ htlc 1 (1 ∷ 255 ∷ []) 9 3 ∷ output 1 (2 ∷ []) ToLocal ∷ htlc 1 (2 ∷ []) 6 5 ∷ htlc 1 (2 ∷ []) 6 4 ∷ htlc 1 (2 ∷ []) 7 1 ∷ htlc 1 (2 ∷ 0 ∷ []) 1 2 ∷ htlc 2 (9 ∷ []) 5 0 ∷ []
unfolding in_order output_cmp
ordered = refl

-- the places of HTLCs are those of their outputs
places : map (λ (h : HtlcOutput). h.index) (htlcs_from 0 (output 1 [] ToRemote ∷ htlc 1 [] 0 0 ∷ output 1 [] ToLocal ∷ htlc 1 [] 0 1 ∷ [])) ≡ 1 ∷ 3 ∷ []
unfolding htlcs_from
places = refl

-- HTLC-timeout has the expiry as its lock time, HTLC-success has 0
waits : map (λ d. lock_time_of d (record { id = 0; amount_msat = 0; hash = []; expiry_height = 500 })) (Offered ∷ Received ∷ []) ≡ 500 ∷ 0 ∷ []
waits = refl

-- a value at the limit is taken, one above is refused
limits : map (λ v. refusal_of (output 1 [] ToRemote ∷ output v [] ToLocal ∷ [])) (MAX_VALUE ∷ 2100000000000001 ∷ []) ≡ None ∷ Some ValueTooLarge ∷ []
unfolding refusal_of
limits = refl
