use Rattle.std.proofs.Common.{◌≡◌, drop}
use Rattle.std.specs.Prelude.{◌==◌}
use Rattle.std.specs.List.{list_all}
use Rattle.chain.proofs.locks.are_final.Given as goal

abbrev pub invariant-loop-input : goal.invariant-loop-input
invariant-loop-input l = list_all (λ i. i.sequence == 0xffffffff) (drop l.input-index l.inputs) ≡ list_all (λ i. i.sequence == 0xffffffff) l.inputs
