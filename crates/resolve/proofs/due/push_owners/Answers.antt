use Rattle.std.proofs.Common.{ap}
use Rattle.commit.specs.Commitments.{transaction_of, tx_output}
use Rattle.penalty.specs.Claimable.{place_in}
use Rattle.penalty.proofs.Pushed.{push_one}
use Rattle.resolve.specs.Due.{delayed_on, owners_on}
use Rattle.resolve.proofs.Pushing.{claim_at}
use Rattle.resolve.proofs.due.push_owners.Goals as goal

pub returns-in_ok-push-in-ToLocal : goal.returns-in_ok-push-in-ToLocal
returns-in_ok-push-in-ToLocal c done a =
    push_one done _ c.args.claims.now.items _ (delayed_on c.args.own.now.commitment (place_in (transaction_of c.args.own.now.commitment) c.args.index (tx_output c.args.output.now)))
    c.in_ok-delayed_on-in-ToLocal.field-0
    (claim_at delayed_on c.commitment-commitment.result.now c.args.own.now.commitment c.args.index c.args.output.now c.in_ok-place.place c.in_ok-delayed_on-in-ToLocal.field-0
    c.commitment-commitment.ensures.value c.in_ok-place.ensures c.in_ok-delayed_on-in-ToLocal.ensures)
    (ap (owners_on c.args.known.now c.args.own.now.commitment c.args.index (place_in (transaction_of c.args.own.now.commitment) c.args.index (tx_output c.args.output.now))) c.in-ToLocal.is)
    c.in_ok-push-in-ToLocal.ensures.items a
