use Rattle.std.proofs.Common.{◌≡◌, sym, ap, subst, ◌∙◌, arith}
use Rattle.std.proofs.lemmas.Result.{err_from_is_err_and}
use Rattle.std.specs.Prelude.{slice_get}
use Rattle.tx.specs.Fields.{unsigned_transaction}
use Rattle.filling.specs.Filling.{filled_input}
use Rattle.filling.specs.Standing.{Stands}
use Rattle.filling.proofs.Standing.{here-at, bare-of, stands-at}
use Rattle.filling.proofs.Going.{values, at-index, grown, fillable-next, lacks-next, lacks-at, opening-next}
use Rattle.filling.proofs.witnesses.filled_inputs.Goals as goal

pub filled_input-requires-clause-here : goal.filled_input-requires-clause-here
filled_input-requires-clause-here c =
    ap (λ t. slice_get t.inputs c.loop-i.i) c.new-cache.ensures
    ∙ here-at (values c.args.claims.now) c.args.tx.now c.loop-i.i c.index-claims-i.result.now c.requires.unsigned.inputs (at-index c.args.claims.now c.loop-i.i _ c.index-claims-i.result (omega arith) c.index-claims-i.is)

pub filled_input-requires-clause-bare : goal.filled_input-requires-clause-bare
filled_input-requires-clause-bare c = subst (λ t. unsigned_transaction t ≡ t) (sym c.new-cache.ensures) (bare-of (values c.args.claims.now) c.args.tx.now c.requires.unsigned.inputs)

pub filled_input-requires-clause-stands : goal.filled_input-requires-clause-stands
filled_input-requires-clause-stands c =
    subst (λ t. Stands t c.index-claims-i.result.now) (sym c.new-cache.ensures)
    (stands-at c.args.tx.now (values c.args.claims.now) c.loop-i.i c.index-claims-i.result.now c.requires.unsigned.stands (at-index c.args.claims.now c.loop-i.i _ c.index-claims-i.result (omega arith) c.index-claims-i.is))

pub loop-i-preserved : goal.loop-i-preserved
loop-i-preserved c = record {
  inputs = grown (filled_input c.args.tx.now c.args.preimages.now) c.args.claims.now c.loop-i.i _ c.index-claims-i.result c.loop-i.inputs c.push_within_limit.new.self c.in_ok-input.input (omega arith) c.index-claims-i.is c.loop-i.invariant.inputs
      (c.in_ok-input.ensures.value.0 ∙ ap (λ t. filled_input t c.args.preimages.now c.index-claims-i.result.now) c.new-cache.ensures) c.in_ok-push_within_limit.ensures.ok;
  fillable = fillable-next c.args.signer.now c.args.preimages.now c.args.claims.now c.loop-i.i _ c.index-claims-i.result (omega arith) c.index-claims-i.is c.in_ok-input.ensures.value.1 c.loop-i.invariant.fillable;
  lacks = lacks-next c.args.signer.now c.args.preimages.now c.args.claims.now c.loop-i.i _ c.index-claims-i.result (omega arith) c.index-claims-i.is c.in_ok-input.ensures.value.1 c.loop-i.invariant.lacks;
  opening = opening-next c.args.claims.now c.loop-i.i _ c.index-claims-i.result (omega arith) c.index-claims-i.is c.in_ok-input.ensures.can_spend c.loop-i.invariant.opening;
}

pub returns-in_err-input-clause-value : goal.returns-in_err-input-clause-value
returns-in_err-input-clause-value c =
    let p = err_from_is_err_and c.from_residual.result c.from_residual.ensures.1 in
    rw (p.1, p.2) (lacks-at c.args.signer.now c.args.preimages.now c.args.claims.now c.loop-i.i _ c.index-claims-i.result (omega arith) c.index-claims-i.is c.loop-i.invariant.lacks c.in_err-input.field-0.0 c.in_err-input.ensures.value)
