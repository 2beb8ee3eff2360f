-- Which views have a commitment whose transaction keeps the limits, and what `build` answers.
use Rattle.std.specs.Prelude.{◌≡◌, ℕ, ◌+◌, ◌*◌, ◌≤◌, nat_lt, if◌then◌else◌, List, length, Option, Some, None, Result, Ok, Err}
use Rattle.std.specs.List.{list_any}
use Rattle.tx.specs.declared.limits.TheConstants.{MAX_VALUE, MAX_OUTPUTS}
use Rattle.terms.specs.declared.sides.Side.{Side}
use Rattle.terms.specs.declared.agreement.Terms.{Terms}
use Rattle.terms.specs.declared.views.View.{View}
use Rattle.commit.specs.declared.outputs.CommitmentOutput.{CommitmentOutput}
use Rattle.commit.specs.declared.errors.BuildError.{BuildError}
use Rattle.commit.specs.declared.errors.BuildError.TheVariants.{NoMemory, TooManyOutputs, ValueTooLarge}
use Rattle.terms.specs.declared.amounts.TheConstants.{MSAT_PER_SAT}
use Rattle.commit.specs.Sums.{total_msat_of}
use Rattle.commit.specs.Commitments.{Contents, commitment_of}

-- the refusals by their numbers
abbrev pub refusal_number : BuildError → ℕ
refusal_number NoMemory = 0
refusal_number TooManyOutputs = 1
refusal_number ValueTooLarge = 2

-- why outputs make no transaction: the first refusal that holds, barring out-of-memory
unfoldable pub refusal_of : List CommitmentOutput → Option BuildError
refusal_of outputs =
    if nat_lt MAX_OUTPUTS (length outputs) then Some TooManyOutputs
    else if list_any (λ o. nat_lt MAX_VALUE o.value) outputs then Some ValueTooLarge
    else None

-- an answer gives the contents, or their refusal
abbrev pub Gives : Contents → Result Contents BuildError → Type 0
Gives c (Ok built) = (built ≡ c) × (refusal_of c.outputs ≡ None)
Gives c (Err NoMemory) = Unit {0}
Gives c (Err TooManyOutputs) = refusal_of c.outputs ≡ Some TooManyOutputs
Gives c (Err ValueTooLarge) = refusal_of c.outputs ≡ Some ValueTooLarge

-- a view that shares out the capacity, with at most 3,998 HTLCs, has a commitment
abbrev pub SharedViewsHaveCommitments : Type 0
SharedViewsHaveCommitments =
    (terms : Terms) (view : View) (owner : Side) (n : ℕ) (point : List ℕ) → total_msat_of view ≡ MSAT_PER_SAT * terms.capacity_sat
    → length view.a.offered + length view.b.offered ≤ 3998 → refusal_of (commitment_of terms view owner n point).outputs ≡ None
