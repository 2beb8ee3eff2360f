use Rattle.std.proofs.Common.{arith, sym, subst}
use Rattle.std.specs.List.{AllByRecursion}
use Rattle.claim.specs.Claims.{IsAccepted}
use Rattle.penalty.specs.Sets.{AreClaimsOn}
use Rattle.resolve.specs.declared.verdicts.Verdict.{Verdict}
use Rattle.resolve.specs.Due.{due_of}
use Rattle.watch.proofs.Giving.{exact, accepted, all_append, due_on}
use Rattle.watch.proofs.unclaimed.due_by.Goals as goal

pub loop-spend-preserved : goal.loop-spend-preserved
loop-spend-preserved c =
    let due = subst (λ (v : Verdict). AreClaimsOn (due_of c.args.known.now v) c.in_ok-due_claims.field-0.items) c.verdict-verdict.ensures c.in_ok-due_claims.ensures in
    record {
      rest =
          due_on c.args.known.now c.loop-spend.due.items c.push_all.new.to.items c.in_ok-due_claims.field-0.items c.loop-spend.spend-index c.args.spends.now c.spend-item.result _ (omega arith)
          c.spend-item.is c.in_ok-push_all.ensures (exact _ c.in_ok-due_claims.field-0.items due) c.loop-spend.invariant.rest;
      accepted =
          subst (AllByRecursion IsAccepted) (sym c.in_ok-push_all.ensures)
          (all_append IsAccepted c.loop-spend.due.items c.in_ok-due_claims.field-0.items c.loop-spend.invariant.accepted (accepted _ c.in_ok-due_claims.field-0.items due));
    }
