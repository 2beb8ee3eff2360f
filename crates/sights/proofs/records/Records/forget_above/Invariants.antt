use Rattle.std.proofs.Common.{◌≡◌, length}
use Rattle.sights.specs.Sights.{up_to}
use Rattle.sights.proofs.records.Records.forget_above.Given as goal

abbrev pub invariant-loop-self : goal.invariant-loop-self
invariant-loop-self l = up_to l.height l.self ≡ up_to l.height l.initial.self

abbrev pub decreases-loop-self : goal.decreases-loop-self
decreases-loop-self l = length l.self
