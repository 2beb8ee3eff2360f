-- The numbers of the refusals.
use Rattle.std.specs.Prelude.{ℕ}
use Rattle.plain_claims.specs.declared.errors.ClaimError.{ClaimError}
use Rattle.plain_claims.specs.declared.errors.ClaimError.TheVariants.{NoMemory, BadClaim}

abbrev pub claim_error_number : ClaimError → ℕ
claim_error_number NoMemory = 0
claim_error_number BadClaim = 1
