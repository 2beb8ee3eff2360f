use Rattle.std.proofs.Common.{◌≡◌, drop}
use Rattle.std.specs.List.{list_any}
use Rattle.tx.specs.Fields.{same_outpoint}
use Rattle.chain.proofs.checking.some_input_names.Given as goal

abbrev pub invariant-loop-input : goal.invariant-loop-input
invariant-loop-input l = list_any (λ i. same_outpoint i.outpoint l.outpoint) (drop l.input-index l.inputs) ≡ list_any (λ i. same_outpoint i.outpoint l.outpoint) l.inputs
