use Rattle.std.proofs.Common.{ap, sym, ◌∙◌}
use Rattle.penalty.proofs.Pushed.{push_one}
use Rattle.revoked.specs.Programs.{claim_on_to_remote}
use Rattle.unilateral.specs.declared.closes.Whose.TheVariants.{Theirs}
use Rattle.unilateral.specs.Claims.{direct_on, claims_of}
use Rattle.unilateral.proofs.Walks.{direct_claimed}
use Rattle.unilateral.proofs.reading.push_theirs.Goals as goal

pub returns-in_ok-push-in-ToRemote : goal.returns-in_ok-push-in-ToRemote
returns-in_ok-push-in-ToRemote c done a =
    push_one done _ c.args.claims.now.items _ (claim_on_to_remote c.args.commitment.now.keys c.args.place) c.in_ok-to_remote_in-in-ToRemote.field-0 c.in_ok-to_remote_in-in-ToRemote.ensures
    (ap (λ o. claims_of Theirs c.args.preimages.now c.args.feerate_per_kw c.args.commitment.now o c.args.place) c.in-ToRemote.is)
    c.in_ok-push-in-ToRemote.ensures.items a

pub returns-in_ok-push-in-ToHtlc : goal.returns-in_ok-push-in-ToHtlc
returns-in_ok-push-in-ToHtlc c done a =
    push_one done _ c.args.claims.now.items _ (direct_on c.args.commitment.now.channel_type c.args.commitment.now.keys c.in-ToHtlc.htlc c.args.place) c.in_ok-direct_in-in-ToHtlc.field-0 c.in_ok-direct_in-in-ToHtlc.ensures
    (direct_claimed c.args.preimages.now c.args.feerate_per_kw c.args.commitment.now c.args.output.now c.in-ToHtlc.htlc c.args.place c.in-ToHtlc.is (sym c.is_direct.ensures ∙ c.if-is_direct.true))
    c.in_ok-push-in-ToHtlc.ensures.items a
