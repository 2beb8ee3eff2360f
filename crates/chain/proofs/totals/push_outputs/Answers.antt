use Rattle.std.proofs.Common.{ℕ, List, ◌++◌, drop, ap, ◌∙◌, arith}
use Rattle.tx.specs.Parts.{Output}
use Rattle.tx.specs.Fields.{Transaction}
use Rattle.tx.specs.Spelling.{transaction_id}
use Rattle.chain.specs.Blocks.{creations_from}
use Rattle.chain.specs.Totals.{unspent_value, unspent_values}
use Rattle.chain.proofs.Finding.{drop-past}
use Rattle.chain.proofs.Sums.{outputs_on, nothing_left}
use Rattle.chain.proofs.totals.push_outputs.Goals as goal

pub loop-index-preserved : goal.loop-index-preserved
loop-index-preserved g c =
    let blocks = (g.S.Store.standing c.args.store.now).blocks in
    let i = c.loop-index.index in
    let values = c.loop-index.values.items in
    λ height.
    outputs_on blocks (transaction_id c.args.confirmed.now) height i c.outputs-outputs.result.now c.index-outputs-index.result values c.push_unless_named.new.values.items _ c.index-outputs-index.is (omega arith)
    (c.in_ok-push_unless_named.ensures
    ∙ ap (λ (id : List ℕ). values ++ unspent_value blocks (record { txid = id; index = i }) c.value.result) c.id.ensures
    ∙ ap (λ (n : ℕ). values ++ unspent_value blocks (record { txid = transaction_id c.args.confirmed.now; index = i }) n) c.value.ensures.value)
    (c.loop-index.invariant height)

pub returns : goal.returns
returns g c =
    let blocks = (g.S.Store.standing c.args.store.now).blocks in
    let id = transaction_id c.args.confirmed.now in
    let outputs = c.outputs-outputs.result.now in
    let i = c.loop-index.index in
    λ height.
    nothing_left blocks c.loop-index.values.items _ (creations_from id height i (drop i outputs)) (ap (creations_from id height i) (drop-past outputs i (omega arith))) (c.loop-index.invariant height)
    ∙ ap (λ (os : List Output). c.args.values.now.items ++ unspent_values blocks (creations_from id height 0 os)) (c.outputs-outputs.ensures.value ∙ ap (λ (t : Transaction). t.outputs) c.tx.ensures)
