use Rattle.std.proofs.Common.{sym, ap, subst, ◌∙◌, ◌++◌}
use Rattle.claim.specs.declared.parts.Place.{Place}
use Rattle.penalty.specs.Sets.{AreClaimsOn}
use Rattle.revoked.specs.Programs.{output_with}
use Rattle.unilateral.specs.Claims.{claims_on}
use Rattle.unilateral.proofs.Walks.{has_program, found_claims, moved_place}
use Rattle.unilateral.proofs.reading.push_claims.Goals as goal

pub push_known-requires-clause-program : goal.push_known-requires-clause-program
push_known-requires-clause-program c =
    c.in_ok-copy-in-Some.ensures ∙ c.script-in-Some.ensures.value
    ∙ has_program c.args.close.now.commitment c.args.output.now.script c.in-Some.known
    (ap (output_with c.args.close.now.commitment) (sym (c.bytes.ensures ∙ c.script.ensures.value)) ∙ sym c.output_with.ensures ∙ c.in-Some.is)
