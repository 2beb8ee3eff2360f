use Rattle.std.proofs.lemmas.Result.{err_from_is_err_and}
use Rattle.tx.specs.Reading.{input_at}
use Rattle.tx.proofs.Loop.{goes_on, ends, is_done}
use Rattle.tx.proofs.reading.some_inputs_at.Goals as goal

pub returns-in_err-input-clause-value : goal.returns-in_err-input-clause-value
returns-in_err-input-clause-value c =
    let p = err_from_is_err_and c.from_residual.result c.from_residual.ensures.1 in
    rw (p.1, p.2) (ends c.in_err-input.field-0.0 input_at c.loop.inputs.items c.args.count c.loop.counter c.loop.rest.now c.args.bytes.now c.loop-test.true c.in_err-input.ensures c.loop.invariant)

pub loop-preserved : goal.loop-preserved
loop-preserved c = rw c.in_ok-push.ensures.items (goes_on input_at c.loop.inputs.items c.args.count c.loop.counter c.loop.rest.now c.args.bytes.now c.in_ok-input.input c.in_ok-input.after.now c.loop-test.true c.in_ok-input.ensures c.loop.invariant)

pub returns-clause-value : goal.returns-clause-value
returns-clause-value c = is_done input_at c.loop.inputs.items c.args.count c.loop.counter c.loop.rest.now c.args.bytes.now c.loop-test.false c.loop.invariant
