use Rattle.std.proofs.Common.{◌≡◌, length}
use Rattle.sights.specs.Sights.{oldest}
use Rattle.sights.proofs.records.Records.keep.Given as goal

abbrev pub invariant-loop-self : goal.invariant-loop-self
invariant-loop-self l = oldest l.count l.self ≡ oldest l.count l.initial.self

abbrev pub decreases-loop-self : goal.decreases-loop-self
decreases-loop-self l = length l.self
