use Rattle.std.proofs.Common.{sym, ap, ◌∙◌, arith}
use Rattle.chain.specs.Scanning.{found_in}
use Rattle.chain.proofs.Finding.{created_in_order, transactions_later, transactions_here, transactions_end}
use Rattle.chain.proofs.scan.find_in_transactions.Goals as goal

pub returns-in-Some : goal.returns-in-Some
returns-in-Some c = λ height.
    sym (ap (found_in c.args.outpoint.now) (created_in_order height c.args.transactions.now)
    ∙ sym (c.loop-confirmed.invariant height)
    ∙ transactions_here c.args.outpoint.now height c.args.transactions.now c.loop-confirmed.confirmed-index c.confirmed-item.result (c.in-Some.output.now, height) c.confirmed-item.is (omega arith) (sym (c.in-Some.ensures height)))

pub loop-confirmed-preserved : goal.loop-confirmed-preserved
loop-confirmed-preserved c = λ height.
    transactions_later c.args.outpoint.now height c.args.transactions.now c.loop-confirmed.confirmed-index c.confirmed-item.result c.confirmed-item.is (omega arith) (sym (c.in_default.ensures height))
    ∙ c.loop-confirmed.invariant height

pub returns : goal.returns
returns c = λ height.
    sym (ap (found_in c.args.outpoint.now) (created_in_order height c.args.transactions.now)
    ∙ sym (c.loop-confirmed.invariant height)
    ∙ transactions_end c.args.outpoint.now height c.args.transactions.now c.loop-confirmed.confirmed-index (omega arith))
