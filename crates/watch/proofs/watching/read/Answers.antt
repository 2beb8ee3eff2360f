use Rattle.std.proofs.Common.{ap, ◌∙◌, List, subst, sym}
use Rattle.std.specs.List.{AllByRecursion}
use Rattle.claim.specs.Claims.{IsAccepted}
use Rattle.watch.specs.declared.learning.CommitmentHtlcs.{CommitmentHtlcs}
use Rattle.watch.specs.Learning.{htlcs_by, learnt_in}
use Rattle.watch.proofs.Giving.{claims_on, given_after}
use Rattle.watch.proofs.watching.read.Goals as goal

pub returns-clause-sight : goal.returns-clause-sight
returns-clause-sight c = record {
  due =
      claims_on _ c.push_unclaimed.new.claims.items
      (given_after c.args.height c.args.known.now c.args.given.now.items c.push_unclaimed.new.claims.items c.new-claims.result.items c.in_ok-due.due.items c.as_slice-3.result.now
      c.push_spends.new.spends.items _ c.in_ok-push_unclaimed.ensures.claims c.new-claims.ensures.items c.in_ok-due.ensures.exact c.as_slice-3.ensures.value c.in_ok-push_spends.ensures.ok)
      (c.in_ok-push_unclaimed.ensures.accepted (subst (AllByRecursion IsAccepted) (sym c.new-claims.ensures.items) tt));
  shown =
      c.in_ok-learnt.ensures
      ∙ ap (λ (cs : List CommitmentHtlcs). learnt_in cs c.args.txs.now)
      (c.as_slice-2.ensures.value ∙ c.in_ok-commitments.ensures ∙ ap (htlcs_by c.args.known.now) (c.as_slice.ensures.value ∙ c.in_ok-push_spends.ensures.ok));
}
