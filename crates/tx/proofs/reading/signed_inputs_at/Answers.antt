use Rattle.std.proofs.lemmas.Result.{err_from_is_err_and}
use Rattle.tx.proofs.Loop.{signed_goes_on, signed_ends, signed_is_done}
use Rattle.tx.proofs.reading.signed_inputs_at.Goals as goal

pub returns-in_err-signed : goal.returns-in_err-signed
returns-in_err-signed c =
    let p = err_from_is_err_and c.from_residual.result c.from_residual.ensures.1 in
    rw (p.1, p.2) (signed_ends c.in_err-signed.field-0.0 c.loop-input.inputs c.args.unsigned.now c.loop-input.input-index c.loop-input.rest.now c.args.bytes.now c.input-item.result c.loop-input-test.true c.input-item.is c.in_err-signed.ensures c.loop-input.invariant)

pub loop-input-preserved : goal.loop-input-preserved
loop-input-preserved c = rw c.in_ok-push_within_limit.ensures.ok (signed_goes_on c.loop-input.inputs c.args.unsigned.now c.loop-input.input-index c.loop-input.rest.now c.args.bytes.now c.input-item.result c.in_ok-signed.signed c.in_ok-signed.after.now c.loop-input-test.true c.input-item.is c.in_ok-signed.ensures c.loop-input.invariant)

pub returns : goal.returns
returns c = signed_is_done c.loop-input.inputs c.args.unsigned.now c.loop-input.input-index c.loop-input.rest.now c.args.bytes.now c.loop-input-test.false c.loop-input.invariant
