use Rattle.std.proofs.Common.{sym, ap, subst, ◌∙◌}
use Rattle.claim.specs.declared.parts.Place.{Place}
use Rattle.penalty.specs.Sets.{IsClaimOn}
use Rattle.revoked.specs.Programs.{output_with, claim_on}
use Rattle.revoked.proofs.Table.{has_program}
use Rattle.revoked.proofs.Walks.{push_found, moved_place}
use Rattle.revoked.proofs.reading.push_claim.Goals as goal

pub claim_on-requires : goal.claim_on-requires
claim_on-requires c =
    c.in_ok-copy-in-Some.ensures ∙ c.script-in-Some.ensures.value
    ∙ has_program c.args.revoked.now c.args.output.now.script c.in-Some.known
    (ap (output_with c.args.revoked.now) (sym (c.bytes.ensures ∙ c.script.ensures.value)) ∙ sym c.output_with.ensures ∙ c.in-Some.is)

pub returns-in_ok-push-in-Some : goal.returns-in_ok-push-in-Some
returns-in_ok-push-in-Some c done a =
    let place : Place = record { outpoint = c.args.outpoint; value = c.args.output.now.value; program = c.args.output.now.script } in
    push_found c.args.revoked.now place c.in-Some.known done c.args.claims.now.items _ c.in_ok-claim_on-in-Some.field-0
    (ap (output_with c.args.revoked.now) (sym (c.bytes.ensures ∙ c.script.ensures.value)) ∙ sym c.output_with.ensures ∙ c.in-Some.is)
    (subst (λ (q : Place). IsClaimOn (claim_on c.args.revoked.now c.in-Some.known q) c.in_ok-claim_on-in-Some.field-0)
    (moved_place c.args.outpoint _ _ _ _ c.value.ensures.value (c.in_ok-copy-in-Some.ensures ∙ c.script-in-Some.ensures.value))
    c.in_ok-claim_on-in-Some.ensures)
    c.in_ok-push-in-Some.ensures.items a
