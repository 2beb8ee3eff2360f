-- What the claims on a revoked commitment are worth, which is the whole channel
-- (BOLT 3, "Fees" and "Trimmed Outputs"; BOLT 5, "Revoked Transaction Close Handling").
use Rattle.std.specs.Prelude.{◌≡◌, ℕ, ◌+◌, ◌*◌, Bool, false, if◌then◌else◌, List, [], ◌∷◌, sum_by, Contains}
use Rattle.std.specs.List.{AllByRecursion}
use Rattle.terms.specs.declared.amounts.TheConstants.{MSAT_PER_SAT}
use Rattle.claim.specs.declared.parts.Place.{Place}
use Rattle.commit.specs.declared.outputs.OutputKind.{OutputKind}
use Rattle.commit.specs.declared.outputs.OutputKind.TheVariants.{ToLocal, ToRemote, ToHtlc}
use Rattle.commit.specs.declared.outputs.HtlcOutput.{HtlcOutput}
use Rattle.commit.specs.Fees.{fee_sat_of, htlc_weight}
use Rattle.commit.specs.Sums.{fee_paid_sat, left_out_sat, rounded_off_msat}
use Rattle.commit.specs.Commitments.{Contents, htlcs_of}
use Rattle.penalty.specs.declared.states.RevokedState.{RevokedState}
use Rattle.penalty.specs.Claimable.{Claimable, penalty_on, payment_on, htlc_penalty_on, second_stage_penalty, claims_by, commitment_in, claimable_of}

-- Below, `stands` says of an output's index whether the HTLC transaction that spends the output is on the chain.

-- what the peer claims for an output: for an HTLC, the output itself or that of its HTLC transaction
abbrev pub stage_on : (ℕ → Bool) → Contents → ℕ → Place → OutputKind → List Claimable
stage_on stands c index place ToLocal = penalty_on c place ∷ []
stage_on stands c index place ToRemote = payment_on c place ∷ []
stage_on stands c index place (ToHtlc direction h) =
    (if stands index
    then second_stage_penalty c (record { index = index; direction = direction; htlc = h })
    else htlc_penalty_on c direction h place)
    ∷ []

-- one claim for each output of a commitment
abbrev pub staged : (ℕ → Bool) → Contents → List Claimable
staged stands c = claims_by (stage_on stands c) c 0 c.outputs

-- the claims while no HTLC transaction is on the chain
abbrev pub first_stage : Contents → List Claimable
first_stage c = staged (λ _. false) c

-- the satoshis of claimable outputs
abbrev pub value_of : List Claimable → ℕ
value_of os = sum_by (λ o. o.place.value) os

-- the fee of an HTLC's transaction, if it is on the chain; and the fees of all that are
abbrev pub fee_with : (ℕ → Bool) → ℕ → HtlcOutput → ℕ
fee_with stands feerate_per_kw h = if stands h.index then fee_sat_of (htlc_weight h.direction) feerate_per_kw else 0

abbrev pub fees_with : (ℕ → Bool) → Contents → ℕ
fees_with stands c = sum_by (λ h. fee_with stands c.feerate_per_kw h) (htlcs_of c)

-- satoshis are the capacity together with three amounts. These are the commitment's fee, of which the opener pays no
-- more than it has, what was left out as dust, and the millisatoshis that were rounded off
abbrev pub IsCapacityWith : RevokedState → ℕ → Type 0
IsCapacityWith s satoshis =
    MSAT_PER_SAT * (satoshis + fee_paid_sat s.terms s.view s.owner + left_out_sat s.terms s.view s.owner)
    + rounded_off_msat s.view
    ≡ MSAT_PER_SAT * s.terms.capacity_sat

-- the outputs of the commitment are worth that; all of them are claimable, and the peer's own is among them
abbrev pub FirstStageIsWorthTheCapacity : Type 0
FirstStageIsWorthTheCapacity =
    (s : RevokedState) → IsCapacityWith s (value_of (first_stage (commitment_in s)))

-- so is what is claimable with any HTLC transactions on the chain, together with their fees
abbrev pub EachStageIsWorthTheCapacity : Type 0
EachStageIsWorthTheCapacity =
    (s : RevokedState) (stands : ℕ → Bool)
    → (let c = commitment_in s in IsCapacityWith s (value_of (staged stands c) + fees_with stands c))

-- each of these claims is among those that the revoked state gives
abbrev pub EachStageIsClaimable : Type 0
EachStageIsClaimable =
    (s : RevokedState) (stands : ℕ → Bool)
    → AllByRecursion (Contains (claimable_of s)) (staged stands (commitment_in s))
