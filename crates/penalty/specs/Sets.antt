-- Sets of penalties.
use Rattle.std.specs.Prelude.{◌≡◌, List, [], ◌∷◌, map}
use Rattle.claim.specs.Claims.{ClaimParts, IsAccepted}
use Rattle.forms.specs.Fillings.{filling_of}
use Rattle.penalty.specs.declared.states.RevokedState.{RevokedState}
use Rattle.penalty.specs.Claimable.{Claimable, claimable_with}

-- what a claim claims
abbrev pub claimed_by : ClaimParts → Claimable
claimed_by c = claimable_with c.place c.ways c.index (map filling_of c.slots) c.shell

-- an accepted claim on an output
pub record IsClaimOn (output : Claimable) (c : ClaimParts) : Type 0 where
  pub exact : claimed_by c ≡ output
  pub accepted : IsAccepted c

-- one accepted claim for each output, in order
abbrev pub AreClaimsOn : List Claimable → List ClaimParts → Type 0
AreClaimsOn [] [] = Unit {0}
AreClaimsOn (o ∷ os) (c ∷ cs) = IsClaimOn o c × AreClaimsOn os cs
AreClaimsOn os cs = ⊥

-- a revoked state, with its claims
pub record Penalties : Type 0 where
  pub state : RevokedState
  pub claims : List ClaimParts
