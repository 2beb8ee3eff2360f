use Rattle.std.proofs.Common.{List, nat_cmp, false, cond, ap, ◌∙◌, length}
use Rattle.std.specs.Ordering.{is_eq}
use Rattle.std.specs.Cmp.Lexicographic.{slice_cmp}
use Rattle.std.specs.List.{list_any}
use Rattle.std.specs.BTreeSet.{contains}
use Rattle.tx.specs.Parts.{Output}
use Rattle.tx.specs.Fields.{Transaction, same_outpoint}
use Rattle.tx.specs.Spelling.{transaction_id}
use Rattle.chain.specs.Indexing.{noted, with_mark, without, is_output_below}
use Rattle.chain.proofs.Indexed.{follows_back}
use Rattle.chain.proofs.indexing.unindex_transaction.Goals as goal

pub returns : goal.returns
returns c =
    let id = transaction_id c.args.confirmed.now in
    λ blocks may at i.
    follows_back blocks c.args.confirmed.now (noted c.args.coins.now) (noted c.forget_outputs.new.coins) (contains (slice_cmp nat_cmp) c.args.ids.now) (contains (slice_cmp nat_cmp) c.remove.new.self) c.args.height may at
    (λ q.
    c.forget_outputs.ensures q
    ∙ ap (λ id. without (is_output_below id (length c.outputs.result.now) q) c.args.height (noted c.mark_all.new.coins q)) c.id-id.ensures
    ∙ ap (λ (os : List Output). without (is_output_below id (length os) q) c.args.height (noted c.mark_all.new.coins q)) (c.outputs.ensures.value ∙ ap (λ (t : Transaction). t.outputs) c.tx-tx.ensures)
    ∙ ap (without (is_output_below id (length c.args.confirmed.now.outputs) q) c.args.height)
    (c.mark_all.ensures q ∙ ap (λ xs. with_mark (list_any (λ i. same_outpoint i.outpoint q) xs) false (noted c.args.coins.now q)) (c.inputs.ensures.value ∙ ap (λ (t : Transaction). t.inputs) c.tx-tx.ensures)))
    (λ id. c.remove.ensures.updates.0 id ∙ ap (λ key. cond (is_eq (slice_cmp nat_cmp key id)) false (contains (slice_cmp nat_cmp) c.args.ids.now id)) c.id-id.ensures)
    i
