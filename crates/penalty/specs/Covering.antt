-- That nothing is left out of what a revoked state lets the owner's peer claim.
use Rattle.std.specs.Prelude.{◌≡◌, ℕ, List, Some, slice_get, Contains}
use Rattle.tx.specs.Parts.{Output}
use Rattle.tx.specs.Fields.{Transaction}
use Rattle.claim.specs.declared.parts.Place.{Place}
use Rattle.commit.specs.Commitments.{transaction_of, htlc_tx_at}
use Rattle.penalty.specs.declared.states.RevokedState.{RevokedState}
use Rattle.penalty.specs.Claimable.{Claimable, place_in, commitment_in, claimable_of}

-- one of the claimable outputs is at the place
abbrev pub IsClaimedAt : List Claimable → Place → Type 0
IsClaimedAt os place = (o : Claimable) × Contains os o × (o.place ≡ place)

-- each output of the commitment is claimed
abbrev pub EachOutputIsClaimed : Type 0
EachOutputIsClaimed =
    (state : RevokedState) (index : ℕ) (o : Output) → slice_get (transaction_of (commitment_in state)).outputs index ≡ Some o
    → IsClaimedAt (claimable_of state) (place_in (transaction_of (commitment_in state)) index o)

-- and so is the output of each of its HTLC transactions
abbrev pub EachSecondStageIsClaimed : Type 0
EachSecondStageIsClaimed =
    (state : RevokedState) (k : ℕ) (t : Transaction) (o : Output) → htlc_tx_at (commitment_in state) k ≡ Some t → slice_get t.outputs 0 ≡ Some o
    → IsClaimedAt (claimable_of state) (place_in t 0 o)
