-- A listing that is exact is exhaustive.
use Rattle.std.proofs.Common.{List, Result, Ok, Err, ap, ◌∙◌}
use Rattle.std.specs.Prelude.{IfOk}
use Rattle.script.specs.declared.opcode.Op.{Op}
use Rattle.paths.specs.declared.errors.CheckError.{CheckError}
use Rattle.paths.specs.Listing.{CheckedScript, listing}
use Rattle.paths.specs.Exhaustive.{IsExhaustive}
use Rattle.paths.specs.Outcome.{IsListing}
use Rattle.paths.proofs.ForcedWalk.{listing-exhaustive}

pub exact_exhaustive : (ops : List Op) (r : Result CheckedScript CheckError) → IsListing ops r → IfOk r (λ c. IsExhaustive c.ops c.paths)
exact_exhaustive ops (Ok c) e = listing-exhaustive c.ops c.paths (ap listing e.0 ∙ e.1)
exact_exhaustive ops (Err e) h = tt
