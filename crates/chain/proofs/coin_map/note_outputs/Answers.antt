use Rattle.std.proofs.Common.{arith}
use Rattle.tx.specs.declared.input.OutPoint.{OutPoint}
use Rattle.tx.specs.Spelling.{transaction_id}
use Rattle.chain.specs.Indexing.{noted}
use Rattle.chain.proofs.Noting.{note_next, undo_next, one_at}
use Rattle.chain.proofs.coin_map.note_outputs.Goals as goal

pub loop-index-preserved : goal.loop-index-preserved
loop-index-preserved c =
    let id = transaction_id c.args.confirmed.now in
    let i = c.loop-index.index in
    let x = c.index-outputs-index.result in
    let f = noted c.loop-index.coins in
    let g = noted c.note_output.new.coins in
    let u = λ (q : OutPoint). one_at id c.id.result.now i c.args.height x (f q) (g q) q c.id.ensures (c.in_default.ensures.ok q) in
    record {
      left = λ q. note_next id c.args.height i c.outputs-outputs.result.now x f g _ q c.index-outputs-index.is (omega arith) (u q) (c.loop-index.invariant.left q);
      undone = λ q. undo_next id c.args.height i x (noted c.args.coins.now) f g q (c.requires q) (u q) (c.loop-index.invariant.undone q);
    }
