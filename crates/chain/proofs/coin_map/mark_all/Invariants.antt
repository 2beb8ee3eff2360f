use Rattle.std.proofs.Common.{◌≡◌, take}
use Rattle.std.specs.List.{list_any}
use Rattle.tx.specs.declared.input.OutPoint.{OutPoint}
use Rattle.tx.specs.Fields.{same_outpoint}
use Rattle.chain.specs.Indexing.{noted, with_mark}
use Rattle.chain.proofs.coin_map.mark_all.Given as goal

abbrev pub invariant-loop-input : goal.invariant-loop-input
invariant-loop-input l = (q : OutPoint) → noted l.coins q ≡ with_mark (list_any (λ i. same_outpoint i.outpoint q) (take l.input-index l.inputs)) l.spent (noted l.fn.coins q)
