use Rattle.std.proofs.Common.{◌≡◌, drop}
use Rattle.facts.specs.Sameness.{contradicts}
use Rattle.claim.proofs.judgement.contradicts.Given as goal

abbrev pub invariant-loop-i : goal.invariant-loop-i
invariant-loop-i l = contradicts (drop l.i l.facts) ≡ contradicts l.facts
