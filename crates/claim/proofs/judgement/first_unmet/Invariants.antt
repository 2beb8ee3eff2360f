use Rattle.std.proofs.Common.{◌≡◌, drop}
use Rattle.paths.specs.declared.state.Path.{Path}
use Rattle.claim.specs.Judgement.{first_unmet_or}
use Rattle.claim.proofs.judgement.first_unmet.Given as goal

abbrev pub invariant-loop-stated : goal.invariant-loop-stated
invariant-loop-stated l = (p : Path) → first_unmet_or l.known l.slots (drop l.stated-index l.facts) p ≡ first_unmet_or l.known l.slots l.facts p
