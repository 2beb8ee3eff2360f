use Rattle.std.proofs.Common.{ap, subst}
use Rattle.penalty.specs.Claimable.{penalty_on, payment_on, htlc_penalty_on, second_stage_penalty, place_in, claims_on}
use Rattle.commit.specs.Commitments.{tx_output, transaction_of}
use Rattle.penalty.specs.Sets.{IsClaimOn}
use Rattle.penalty.proofs.Pushed.{push_one, push_two}
use Rattle.penalty.proofs.Second.{its_htlc, is_there}
use Rattle.penalty.proofs.building.push_claims_on.Goals as goal

pub second_stage_penalty-requires : goal.second_stage_penalty-requires
second_stage_penalty-requires c =
    is_there _ _ (its_htlc c.args.commitment.now c.args.index c.args.k c.args.output.now.kind c.in-ToHtlc.direction c.in-ToHtlc.htlc c.requires.htlc c.in-ToHtlc.is)

pub returns-in_ok-push-in-ToLocal : goal.returns-in_ok-push-in-ToLocal
returns-in_ok-push-in-ToLocal c done a =
    push_one done _ c.args.claims.now.items _ (penalty_on c.args.commitment.now (place_in (transaction_of c.args.commitment.now) c.args.index (tx_output c.args.output.now))) c.in_ok-penalty_on-in-ToLocal.field-0
    (subst (λ p. IsClaimOn (penalty_on c.args.commitment.now p) c.in_ok-penalty_on-in-ToLocal.field-0) c.in_ok-place.ensures c.in_ok-penalty_on-in-ToLocal.ensures)
    (ap (claims_on c.args.commitment.now c.args.index (place_in (transaction_of c.args.commitment.now) c.args.index (tx_output c.args.output.now))) c.in-ToLocal.is)
    c.in_ok-push-in-ToLocal.ensures.items a

pub returns-in_ok-push-in-ToRemote : goal.returns-in_ok-push-in-ToRemote
returns-in_ok-push-in-ToRemote c done a =
    push_one done _ c.args.claims.now.items _ (payment_on c.args.commitment.now (place_in (transaction_of c.args.commitment.now) c.args.index (tx_output c.args.output.now))) c.in_ok-payment_on-in-ToRemote.field-0
    (subst (λ p. IsClaimOn (payment_on c.args.commitment.now p) c.in_ok-payment_on-in-ToRemote.field-0) c.in_ok-place.ensures c.in_ok-payment_on-in-ToRemote.ensures)
    (ap (claims_on c.args.commitment.now c.args.index (place_in (transaction_of c.args.commitment.now) c.args.index (tx_output c.args.output.now))) c.in-ToRemote.is)
    c.in_ok-push-in-ToRemote.ensures.items a

pub returns-in_ok-push-in-ToHtlc-2 : goal.returns-in_ok-push-in-ToHtlc-2
returns-in_ok-push-in-ToHtlc-2 c done a =
    push_two done _ c.args.claims.now.items _ _
    (htlc_penalty_on c.args.commitment.now c.in-ToHtlc.direction c.in-ToHtlc.htlc (place_in (transaction_of c.args.commitment.now) c.args.index (tx_output c.args.output.now)))
    (second_stage_penalty c.args.commitment.now (record { index = c.args.index; direction = c.in-ToHtlc.direction; htlc = c.in-ToHtlc.htlc }))
    c.in_ok-htlc_penalty_on-in-ToHtlc.field-0 c.in_ok-second_stage_penalty-in-ToHtlc.field-0
    (subst (λ p. IsClaimOn (htlc_penalty_on c.args.commitment.now c.in-ToHtlc.direction c.in-ToHtlc.htlc p) c.in_ok-htlc_penalty_on-in-ToHtlc.field-0) c.in_ok-place.ensures c.in_ok-htlc_penalty_on-in-ToHtlc.ensures)
    (c.in_ok-second_stage_penalty-in-ToHtlc.ensures _
    (its_htlc c.args.commitment.now c.args.index c.args.k c.args.output.now.kind c.in-ToHtlc.direction c.in-ToHtlc.htlc c.requires.htlc c.in-ToHtlc.is))
    (ap (claims_on c.args.commitment.now c.args.index (place_in (transaction_of c.args.commitment.now) c.args.index (tx_output c.args.output.now))) c.in-ToHtlc.is)
    c.in_ok-push-in-ToHtlc.ensures.items c.in_ok-push-in-ToHtlc-2.ensures.items a
