-- What the transaction of claims satisfies before it is signed.
use Rattle.std.specs.Prelude.{◌≡◌, List, [], ◌∷◌, map, Some}
use Rattle.tx.specs.Fields.{Transaction}
use Rattle.paths.specs.declared.state.Path.{Path}
use Rattle.claim.specs.Fitting.{StandsRound}
use Rattle.claim.specs.Claims.{ClaimParts, path_of, TakesPath, IsSpending}
use Rattle.filling.specs.Filling.{unsigned_input}

-- the transaction may stand round a claim
abbrev pub Stands : Transaction → ClaimParts → Type 0
Stands t c = (p : Path) → path_of c ≡ Some p → StandsRound p c.shell t

abbrev pub AllStand : Transaction → List ClaimParts → Type 0
AllStand t [] = Unit {0}
AllStand t (c ∷ claims) = Stands t c × AllStand t claims

-- the transaction has the inputs of the claims without witnesses, and may stand round each
pub record IsUnsigned (claims : List ClaimParts) (t : Transaction) : Type 0 where
  pub inputs : t.inputs ≡ map unsigned_input claims
  pub stands : AllStand t claims

-- a claim takes a path, and whatever fits it spends its output
pub record CanSpend (c : ClaimParts) : Type 0 where
  pub path : Path
  pub at : path_of c ≡ Some path
  pub taken : TakesPath c path
  pub opens : IsSpending c

abbrev pub AllCanSpend : List ClaimParts → Type 0
AllCanSpend [] = Unit {0}
AllCanSpend (c ∷ claims) = CanSpend c × AllCanSpend claims
