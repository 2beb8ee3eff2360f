use Rattle.std.proofs.Common.{◌≡◌, drop, fold}
use Rattle.side.specs.Batches.{with_new}
use Rattle.side.proofs.batches.push_each_once.Given as goal

abbrev pub invariant-loop-preimage : goal.invariant-loop-preimage
invariant-loop-preimage l = fold with_new l.preimages (drop l.preimage-index l.wanted) ≡ fold with_new l.initial.preimages l.wanted
