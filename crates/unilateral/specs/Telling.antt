-- That a transaction is read whole (BOLT 5, "Unilateral Close Handling").
use Rattle.std.specs.Prelude.{◌≡◌, ℕ, ◌+◌, ◌≤◌, List, [], ◌∷◌, Some, slice_get, Contains}
use Rattle.std.specs.List.{AllByRecursion}
use Rattle.tx.specs.Parts.{Output}
use Rattle.tx.specs.Fields.{Transaction}
use Rattle.penalty.specs.Claimable.{Claimable, place_in}
use Rattle.revoked.specs.declared.outputs.RevokedOutput.{RevokedOutput}
use Rattle.revoked.specs.Programs.{output_with}
use Rattle.revoked.specs.Telling.{RisesFrom}
use Rattle.unilateral.specs.declared.closes.Close.{Close}
use Rattle.unilateral.specs.Claims.{claims_on}
use Rattle.unilateral.specs.Reading.{claims_at, claimed_in, others_in}

-- each claim that an output of a transaction lets one make is among the claims. If there is none, the output's index is among the others
pub record IsTold (c : Close) (t : Transaction) (index : ℕ) (o : Output) : Type 0 where
  pub claimed : AllByRecursion (Contains (claimed_in c t)) (claims_at c (place_in t index o))
  pub named : claims_at c (place_in t index o) ≡ [] → Contains (others_in c t) index

abbrev pub EachOutputIsTold : Type 0
EachOutputIsTold =
    (c : Close) (t : Transaction) (index : ℕ) (o : Output) → slice_get t.outputs index ≡ Some o → IsTold c t index o

-- a claim is on an output of the transaction that has a program of the commitment, and is one of that output's own: at its outpoint, with its value
pub record IsOnOutput (c : Close) (t : Transaction) (claim : Claimable) : Type 0 where
  pub index : ℕ
  pub output : Output
  pub known : RevokedOutput
  pub among : slice_get t.outputs index ≡ Some output
  pub found : output_with c.commitment output.script ≡ Some known
  pub own : Contains (claims_on c known (place_in t index output)) claim

abbrev pub EachClaimIsOnItsOutput : Type 0
EachClaimIsOnItsOutput = (c : Close) (t : Transaction) → AllByRecursion (IsOnOutput c t) (claimed_in c t)

-- an index is that of an output which lets one claim nothing
pub record IsWithoutClaim (c : Close) (t : Transaction) (index : ℕ) : Type 0 where
  pub output : Output
  pub among : slice_get t.outputs index ≡ Some output
  pub none : claims_at c (place_in t index output) ≡ []

-- the others rise, so none is there twice, and none of them is claimed
pub record AreWithoutClaims (c : Close) (t : Transaction) : Type 0 where
  pub rise : RisesFrom 0 (others_in c t)
  pub each : AllByRecursion (IsWithoutClaim c t) (others_in c t)

abbrev pub OthersAreWithoutClaims : Type 0
OthersAreWithoutClaims = (c : Close) (t : Transaction) → AreWithoutClaims c t
