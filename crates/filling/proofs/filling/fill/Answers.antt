use Rattle.std.proofs.Common.{sym, ap, subst, ◌∙◌, map}
use Rattle.filling.specs.Filling.{filled_input}
use Rattle.filling.specs.Refusals.{AreFillable, LacksFirst, UnlessMemory, all_slots, do_exceed}
use Rattle.filling.proofs.Finishing.{refused, clean, filling}
use Rattle.filling.proofs.filling.fill.Goals as goal

pub returns-in-Err : goal.returns-in-Err
returns-in-Err c =
    let claims = map (λ x. x.now) c.args.claims.now in
    refused claims c.args.outputs.items c.args.signer.now c.args.preimages.now c.in-Err.refusal
    (record { unmixed = sym c.are_mixed.ensures ∙ c.if-are_mixed.false; apart = sym c.in_ok-share_outpoint.ensures ∙ c.if-branch.false; within = ap (do_exceed claims) (sym c.deref.ensures.value) ∙ sym c.do_exceed.ensures ∙ c.if-do_exceed.false })
    (subst (λ ps. UnlessMemory c.in-Err.refusal (LacksFirst c.args.signer.now ps (all_slots claims) c.in-Err.refusal)) c.in_ok-preimages.ensures c.in-Err.ensures.value)

pub finished-requires-clause-clean : goal.finished-requires-clause-clean
finished-requires-clause-clean c =
    let claims = map (λ x. x.now) c.args.claims.now in
    clean claims c.args.signer.now c.in_ok-preimages.preimages c.in_ok-unsigned.unsigned c.in-Ok.inputs c.in_ok-places.places.items c.in_ok-unsigned.ensures.unsigned c.in-Ok.ensures.can_spend c.in-Ok.ensures.value.0 c.in-Ok.ensures.value.1 c.in_ok-places.ensures

pub returns : goal.returns
returns c =
    let claims = map (λ x. x.now) c.args.claims.now in
    let t = c.in_ok-unsigned.unsigned in
    filling claims c.args.outputs.items c.args.signer.now c.args.preimages.now t c.in-Ok.inputs c.in_ok-places.places.items c.finished.result
    (record { unmixed = sym c.are_mixed.ensures ∙ c.if-are_mixed.false; apart = sym c.in_ok-share_outpoint.ensures ∙ c.if-branch.false; within = ap (do_exceed claims) (sym c.deref.ensures.value) ∙ sym c.do_exceed.ensures ∙ c.if-do_exceed.false })
    c.in_ok-unsigned.ensures.value c.in_ok-unsigned.ensures.unsigned c.in-Ok.ensures.can_spend
    (c.in-Ok.ensures.value.0 ∙ ap (λ ps. map (filled_input t ps) claims) c.in_ok-preimages.ensures)
    (subst (λ ps. AreFillable c.args.signer.now ps (all_slots claims)) c.in_ok-preimages.ensures c.in-Ok.ensures.value.1)
    c.in_ok-places.ensures c.finished.ensures
