use Rattle.std.proofs.Common.{◌≡◌, drop}
use Rattle.std.specs.Option.{option_or}
use Rattle.tx.specs.declared.input.OutPoint.{OutPoint}
use Rattle.tx.specs.Spelling.{transaction_id}
use Rattle.chain.specs.Blocks.{created_by, creations_from}
use Rattle.chain.specs.Indexing.{noted, first_new, is_output_below, without}
use Rattle.chain.proofs.coin_map.note_outputs.Given as goal

abbrev pub invariant-loop-index : goal.invariant-loop-index
invariant-loop-index l =
    let id = transaction_id l.confirmed in
    record {
      left : (q : OutPoint) → option_or (noted l.coins q) (first_new (creations_from id l.height l.index (drop l.index l.outputs)) q) ≡ option_or (noted l.fn.coins q) (first_new (created_by l.height l.confirmed) q);
      undone : (q : OutPoint) → without (is_output_below id l.index q) l.height (noted l.coins q) ≡ noted l.fn.coins q;
    }
