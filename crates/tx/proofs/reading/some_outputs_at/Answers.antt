use Rattle.std.proofs.lemmas.Result.{err_from_is_err_and}
use Rattle.tx.specs.Reading.{output_at}
use Rattle.tx.proofs.Loop.{goes_on, ends, is_done}
use Rattle.tx.proofs.reading.some_outputs_at.Goals as goal

pub returns-in_err-output : goal.returns-in_err-output
returns-in_err-output c =
    let p = err_from_is_err_and c.from_residual.result c.from_residual.ensures.1 in
    rw (p.1, p.2) (ends c.in_err-output.field-0.0 output_at c.loop.outputs c.args.count c.loop.counter c.loop.rest.now c.args.bytes.now c.loop-test.true c.in_err-output.ensures c.loop.invariant)

pub loop-preserved : goal.loop-preserved
loop-preserved c = rw c.in_ok-push_within_limit.ensures.ok (goes_on output_at c.loop.outputs c.args.count c.loop.counter c.loop.rest.now c.args.bytes.now c.in_ok-output.output c.in_ok-output.after.now c.loop-test.true c.in_ok-output.ensures c.loop.invariant)

pub returns : goal.returns
returns c = is_done output_at c.loop.outputs c.args.count c.loop.counter c.loop.rest.now c.args.bytes.now c.loop-test.false c.loop.invariant
