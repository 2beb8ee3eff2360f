-- A listing that is exact is sound.
use Rattle.std.proofs.Common.{List, Result, Ok, Err, ap, ◌∙◌}
use Rattle.std.specs.Prelude.{All, IfOk}
use Rattle.script.specs.declared.opcode.Op.{Op}
use Rattle.paths.specs.declared.errors.CheckError.{CheckError}
use Rattle.paths.specs.Listing.{CheckedScript, listing}
use Rattle.paths.specs.Sound.{IsSound}
use Rattle.paths.specs.Outcome.{IsListing}
use Rattle.paths.proofs.SoundWalk.{listing-sound}

pub exact_sound : (ops : List Op) (r : Result CheckedScript CheckError) → IsListing ops r → IfOk r (λ c. All (IsSound c.ops) c.paths)
exact_sound ops (Ok c) e = listing-sound c.ops c.paths (ap listing e.0 ∙ e.1)
exact_sound ops (Err e) h = tt
