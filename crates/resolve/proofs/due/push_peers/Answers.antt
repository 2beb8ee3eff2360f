use Rattle.std.proofs.Common.{sym, ap, ◌∙◌}
use Rattle.commit.specs.Commitments.{transaction_of, tx_output}
use Rattle.penalty.specs.Claimable.{place_in, payment_on}
use Rattle.penalty.proofs.Pushed.{push_one}
use Rattle.resolve.specs.Due.{direct_on, is_peers, peers_on}
use Rattle.resolve.proofs.Pushing.{claim_at, peers_yes}
use Rattle.resolve.proofs.due.push_peers.Goals as goal

pub returns-in_ok-push-in-ToRemote : goal.returns-in_ok-push-in-ToRemote
returns-in_ok-push-in-ToRemote c done a =
    push_one done _ c.args.claims.now.items _ (payment_on c.args.theirs.now (place_in (transaction_of c.args.theirs.now) c.args.index (tx_output c.args.output.now))) c.in_ok-payment_on-in-ToRemote.field-0
    (claim_at payment_on c.commitment-commitment.result.now c.args.theirs.now c.args.index c.args.output.now c.in_ok-place.place c.in_ok-payment_on-in-ToRemote.field-0
    c.commitment-commitment.ensures.value c.in_ok-place.ensures c.in_ok-payment_on-in-ToRemote.ensures)
    (ap (peers_on c.args.known.now c.args.theirs.now c.args.index (place_in (transaction_of c.args.theirs.now) c.args.index (tx_output c.args.output.now))) c.in-ToRemote.is)
    c.in_ok-push-in-ToRemote.ensures.items a

pub returns-in_ok-push-in-ToHtlc : goal.returns-in_ok-push-in-ToHtlc
returns-in_ok-push-in-ToHtlc c done a =
    push_one done _ c.args.claims.now.items _
    (direct_on c.args.theirs.now c.in-ToHtlc.direction c.in-ToHtlc.htlc (place_in (transaction_of c.args.theirs.now) c.args.index (tx_output c.args.output.now)))
    c.in_ok-direct_on-in-ToHtlc.field-0
    (claim_at (λ k p. direct_on k c.in-ToHtlc.direction c.in-ToHtlc.htlc p) c.commitment-commitment.result.now c.args.theirs.now c.args.index c.args.output.now c.in_ok-place.place
    c.in_ok-direct_on-in-ToHtlc.field-0 c.commitment-commitment.ensures.value c.in_ok-place.ensures c.in_ok-direct_on-in-ToHtlc.ensures)
    (peers_yes c.args.known.now c.args.theirs.now c.args.index (place_in (transaction_of c.args.theirs.now) c.args.index (tx_output c.args.output.now)) c.in-ToHtlc.direction c.in-ToHtlc.htlc
    c.args.output.now.kind c.in-ToHtlc.is
    (ap (λ k. is_peers c.args.known.now k c.in-ToHtlc.direction c.in-ToHtlc.htlc) (sym (c.keys.ensures ∙ ap (λ k. k.keys) c.commitment-commitment.ensures.value)) ∙ sym c.is_peers.ensures ∙ c.if-is_peers.true))
    c.in_ok-push-in-ToHtlc.ensures.items a
