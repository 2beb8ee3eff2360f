-- What is true of each batch.
use Rattle.std.specs.Prelude.{◌≤◌, List, length}
use Rattle.tx.specs.Parts.{Output}
use Rattle.tx.specs.declared.limits.TheConstants.{MAX_INPUTS, MAX_OUTPUTS}
use Rattle.claim.specs.Claims.{ClaimParts}

-- one transaction can take the claims and make the outputs
pub record CanRelease (claims : List ClaimParts) (outputs : List Output) : Type 0 where
  pub some : 1 ≤ length claims
  pub inputs : length claims ≤ MAX_INPUTS
  pub given : length outputs ≤ MAX_OUTPUTS
