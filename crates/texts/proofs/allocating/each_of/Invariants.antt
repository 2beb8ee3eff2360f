use Rattle.texts.proofs.Elements.{SoFar}
use Rattle.texts.proofs.allocating.each_of.Given as goal

abbrev pub invariant-loop-value : goal.invariant-loop-value
invariant-loop-value g l = SoFar g.T.ReadValue.reads l.list.items l.values l.value-index
