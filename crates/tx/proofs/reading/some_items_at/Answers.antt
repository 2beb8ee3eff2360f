use Rattle.std.proofs.lemmas.Result.{err_from_is_err_and}
use Rattle.tx.specs.Reading.{byte_string_at}
use Rattle.tx.proofs.Loop.{goes_on, ends, is_done}
use Rattle.tx.proofs.reading.some_items_at.Goals as goal

pub returns-in_err-item : goal.returns-in_err-item
returns-in_err-item c =
    let p = err_from_is_err_and c.from_residual.result c.from_residual.ensures.1 in
    rw (p.1, p.2) (ends c.in_err-item.field-0.0 byte_string_at c.loop.items c.args.count c.loop.counter c.loop.rest.now c.args.bytes.now c.loop-test.true c.in_err-item.ensures.value c.loop.invariant)

pub loop-preserved : goal.loop-preserved
loop-preserved c = rw c.in_ok-push_within_limit.ensures.ok (goes_on byte_string_at c.loop.items c.args.count c.loop.counter c.loop.rest.now c.args.bytes.now c.in_ok-item.item c.in_ok-item.after.now c.loop-test.true c.in_ok-item.ensures.value c.loop.invariant)

pub returns : goal.returns
returns c = is_done byte_string_at c.loop.items c.args.count c.loop.counter c.loop.rest.now c.args.bytes.now c.loop-test.false c.loop.invariant
