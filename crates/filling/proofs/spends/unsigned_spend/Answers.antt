use Rattle.std.proofs.Common.{◌≡◌, sym, ap, ◌∙◌, map}
use Rattle.std.specs.List.{list_any}
use Rattle.filling.specs.Refusals.{do_exceed}
use Rattle.filling.specs.Spends.{blank_input, lacks_preimage}
use Rattle.filling.proofs.Spending.{spend}
use Rattle.filling.proofs.spends.unsigned_spend.Goals as goal

pub blank_inputs-requires-clause-preimages : goal.blank_inputs-requires-clause-preimages
blank_inputs-requires-clause-preimages c = sym c.lacks_preimage.ensures ∙ c.if-lacks_preimage.false

pub returns : goal.returns
returns c =
    let claims = map (λ x. x.now) c.args.claims.now in
    let ps = c.args.preimages.now in
    let given = c.in_ok-preimages.ensures in
    spend claims c.args.outputs.items ps c.in_ok-unsigned.unsigned c.with_inputs-tx.result c.in_ok-inputs.inputs c.from_vec-signatures.result
    (record {
      open_alone = sym c.has_fixed.ensures ∙ c.if-has_fixed.false;
      apart = sym c.in_ok-share_outpoint.ensures ∙ c.if-branch.false;
      within = ap (do_exceed claims) (sym c.deref.ensures.value) ∙ sym c.do_exceed.ensures ∙ c.if-do_exceed.false;
      unmeasured = sym c.any_measured.ensures ∙ c.if-any_measured.false;
      given = ap (λ x. list_any (lacks_preimage x) claims) (sym given) ∙ sym c.lacks_preimage.ensures ∙ c.if-lacks_preimage.false;
    })
    c.in_ok-unsigned.ensures.value c.in_ok-unsigned.ensures.below (c.from_vec-signatures.ensures ∙ c.in_ok-missing_signatures.ensures)
    (c.in_ok-inputs.ensures.value ∙ ap (λ x. map (blank_input x) claims) given) c.in_ok-inputs.ensures.can_spend c.with_inputs-tx.ensures
