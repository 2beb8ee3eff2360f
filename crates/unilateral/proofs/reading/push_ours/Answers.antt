use Rattle.std.proofs.Common.{ap}
use Rattle.penalty.proofs.Pushed.{push_one}
use Rattle.unilateral.specs.declared.closes.Whose.TheVariants.{Ours}
use Rattle.unilateral.specs.Claims.{delayed_on, claims_of}
use Rattle.unilateral.proofs.reading.push_ours.Goals as goal

pub returns-in_ok-push-in-ToLocal : goal.returns-in_ok-push-in-ToLocal
returns-in_ok-push-in-ToLocal c done a =
    push_one done _ c.args.claims.now.items _ (delayed_on c.args.commitment.now.keys c.args.commitment.now.delay_blocks c.args.place) c.in_ok-delayed_in-in-ToLocal.field-0 c.in_ok-delayed_in-in-ToLocal.ensures
    (ap (λ o. claims_of Ours c.args.preimages.now c.args.feerate_per_kw c.args.commitment.now o c.args.place) c.in-ToLocal.is)
    c.in_ok-push-in-ToLocal.ensures.items a
