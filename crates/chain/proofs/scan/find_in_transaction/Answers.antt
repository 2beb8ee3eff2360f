use Rattle.std.proofs.Common.{◌≡◌, true, false, slice_get, sym, ap, ◌∙◌, rules}
use Rattle.std.specs.Str.{bytes_eq}
use Rattle.tx.specs.Spelling.{transaction_id}
use Rattle.chain.proofs.Finding.{none_by_others, found_here}
use Rattle.chain.proofs.scan.find_in_transaction.Goals as goal

pub returns-then-ne : goal.returns-then-ne
returns-then-ne c = λ height.
    let other : bytes_eq (transaction_id c.args.confirmed.now) c.args.outpoint.now.txid ≡ false = search rules in
    sym (none_by_others c.args.outpoint.now (transaction_id c.args.confirmed.now) height 0 c.args.confirmed.now.outputs other)

pub returns : goal.returns
returns c = λ height.
    let same : bytes_eq (transaction_id c.args.confirmed.now) c.args.outpoint.now.txid ≡ true = search rules in
    let outputs : c.outputs.result.now ≡ c.args.confirmed.now.outputs = cc in
    found_here c.args.outpoint.now height (transaction_id c.args.confirmed.now) c.args.confirmed.now.outputs c.output_at.result same (c.output_at.ensures ∙ ap (λ xs. slice_get xs c.args.outpoint.now.index) outputs)
