use Rattle.std.proofs.Common.{Err, sym, ap, ◌∙◌, arith}
use Rattle.std.proofs.lemmas.Result.{err_from_is_err_and}
use Rattle.enforce_c.specs.declared.statuses.Refusal.TheVariants.{NoSignature, NotAsked}
use Rattle.enforce_c.proofs.SignedSpends.{refused_here, none_here, one_left, all_signed}
use Rattle.enforce_c.proofs.finishing.sign.Goals as goal

pub returns-in_default : goal.returns-in_default
returns-in_default c =
    none_here c.args.bytes.now c.args.missing.now c.args.rows.now c.loop-index.index _ _ c.loop-index.tx.inputs c.args.tx.now.inputs c.loop-index-test.true c.index-missing-index.is c.in_default.ensures c.loop-index.invariant.inputs
    ∙ ap (λ p. Err (NoSignature p)) (sym c.place_of.ensures)

pub returns-in_err-signature : goal.returns-in_err-signature
returns-in_err-signature c =
    let p = err_from_is_err_and c.from_residual.result c.from_residual.ensures.1 in
    rw (p.1, p.2) (refused_here c.args.bytes.now c.args.missing.now c.args.rows.now c.loop-index.index _ _ c.in-Some.row.now c.loop-index.tx.inputs c.args.tx.now.inputs c.in_err-signature.field-0.0 c.loop-index-test.true c.index-missing-index.is
    c.in-Some.ensures c.in_err-signature.ensures.value c.loop-index.invariant.inputs)

pub returns-in-Some-row_at : goal.returns-in-Some-row_at
returns-in-Some-row_at c =
    one_left c.args.bytes.now c.args.missing.now c.args.rows.now c.loop-index.index c.in-Some-row_at.row.now c.loop-index.tx.inputs c.args.tx.now.inputs (omega (arith, c.loop-index.invariant.within, c.loop-index-test.false)) c.in-Some-row_at.ensures
    c.loop-index.invariant.inputs
    ∙ ap (λ p. Err (NotAsked p)) (sym c.row_place.ensures)

pub returns-in-None : goal.returns-in-None
returns-in-None c =
    all_signed c.args.bytes.now c.args.missing.now c.args.rows.now c.loop-index.index c.args.tx.now c.loop-index.tx (omega (arith, c.loop-index.invariant.within, c.loop-index-test.false)) c.in-None.ensures c.loop-index.invariant.others
    c.loop-index.invariant.inputs
