use Rattle.spend.specs.Outputs.{output_of}
use Rattle.spend.proofs.Elements.{SoFar}
use Rattle.spend.proofs.outputs.outputs_of.Given as goal

abbrev pub invariant-loop-value : goal.invariant-loop-value
invariant-loop-value l = SoFar output_of l.outputs.items l.values l.value-index
