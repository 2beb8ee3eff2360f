use Rattle.std.proofs.Common.{◌≡◌}
use Rattle.tx.specs.declared.input.OutPoint.{OutPoint}
use Rattle.chain.specs.Indexing.{noted, is_output_below, without}
use Rattle.chain.proofs.coin_map.forget_outputs.Given as goal

abbrev pub invariant-loop-index : goal.invariant-loop-index
invariant-loop-index l = (q : OutPoint) → noted l.coins q ≡ without (is_output_below l.id l.index q) l.height (noted l.fn.coins q)
