use Rattle.std.proofs.Common.{ℕ, List, nat_cmp, true, sym, ap, ◌∙◌, length}
use Rattle.std.specs.Cmp.Lexicographic.{slice_cmp}
use Rattle.std.specs.List.{list_any}
use Rattle.std.specs.BTreeSet.{contains, BTreeSet}
use Rattle.tx.specs.Parts.{Output}
use Rattle.tx.specs.Fields.{Transaction, same_outpoint}
use Rattle.tx.specs.Spelling.{transaction_id}
use Rattle.chain.specs.Indexing.{noted, with_mark, without, is_output_below}
use Rattle.chain.proofs.Indexed.{follows, lower, same_index, forgotten, id_added}
use Rattle.chain.proofs.indexing.index_transaction.Goals as goal

pub note_outputs-requires : goal.note_outputs-requires
note_outputs-requires c =
    let (blocks, at, may, passes, index) = c.requires in
    λ q e. lower blocks c.args.confirmed.now (noted c.args.coins.now) (contains (slice_cmp nat_cmp) c.args.ids.now) c.args.height q may at passes index e

pub returns-clause-ok : goal.returns-clause-ok
returns-clause-ok c =
    λ blocks may at passes i.
    follows blocks c.args.confirmed.now (noted c.args.coins.now) (noted c.mark_all.new.coins) (contains (slice_cmp nat_cmp) c.args.ids.now) (contains (slice_cmp nat_cmp) c.insert.new.self) c.args.height may at passes
    (λ q.
    c.mark_all.ensures q
    ∙ ap (λ xs. with_mark (list_any (λ i. same_outpoint i.outpoint q) xs) true (noted c.note_outputs.new.coins q)) (c.inputs.ensures.value ∙ ap (λ (t : Transaction). t.inputs) c.tx-tx.ensures)
    ∙ ap (with_mark (list_any (λ i. same_outpoint i.outpoint q) c.args.confirmed.now.inputs) true) (c.in_ok-note_outputs.ensures.ok q))
    (λ id. id_added (transaction_id c.args.confirmed.now) id _ _ (rw (sym c.id-id.ensures) (c.in_default.ensures.updates.0 id)))
    i

pub returns-in-Err-clause-err : goal.returns-in-Err-clause-err
returns-in-Err-clause-err c =
    let id = transaction_id c.args.confirmed.now in
    let (given, at, may, passes, index) = c.requires in
    λ blocks i.
    same_index blocks (noted c.args.coins.now) (noted c.forget_outputs.new.coins) (contains (slice_cmp nat_cmp) c.args.ids.now) (contains (slice_cmp nat_cmp) c.insert.new.self)
    (λ q.
    c.forget_outputs.ensures q
    ∙ ap (λ id. without (is_output_below id (length c.outputs.result.now) q) c.args.height (noted c.note_outputs.new.coins q)) c.id-id.ensures
    ∙ ap (λ (os : List Output). without (is_output_below id (length os) q) c.args.height (noted c.note_outputs.new.coins q)) (c.outputs.ensures.value ∙ ap (λ (t : Transaction). t.outputs) c.tx-tx.ensures)
    ∙ ap (without (is_output_below id (length c.args.confirmed.now.outputs) q) c.args.height) (c.in_ok-note_outputs.ensures.ok q)
    ∙ forgotten id c.args.height c.args.confirmed.now.outputs (noted c.args.coins.now q) q (λ e. lower given c.args.confirmed.now (noted c.args.coins.now) (contains (slice_cmp nat_cmp) c.args.ids.now) c.args.height q may at passes index e))
    (λ id. ap (λ (ks : List (List ℕ)). let s : BTreeSet (List ℕ) = record { keys = ks } in contains (slice_cmp nat_cmp) s id) c.in-Err.ensures.err)
    i
