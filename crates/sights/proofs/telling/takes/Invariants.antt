use Rattle.std.proofs.Common.{◌≡◌, drop}
use Rattle.sights.specs.Sights.{among}
use Rattle.sights.proofs.telling.takes.Given as goal

-- what is left decides
abbrev pub invariant-loop-input : goal.invariant-loop-input
invariant-loop-input l = among l.outpoint (drop l.input-index l.inputs) ≡ among l.outpoint l.inputs
