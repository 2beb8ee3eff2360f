use Rattle.std.proofs.Common.{◌<◌, ◌+◌, ◌∙◌, ap, sym, subst, refl, arith}
use Rattle.std.specs.Prelude.{Contains}
use Rattle.keys.specs.Rights.{MaySign}
use Rattle.terms.specs.Sides.{other}
use Rattle.channel.specs.declared.commitments.CommitmentState.{CommitmentState}
use Rattle.channel.specs.declared.limits.TheConstants.{LAST_NUMBER}
use Rattle.channel.specs.States.{State}
use Rattle.channel.specs.Tokens.{funding_key, htlc_key}
use Rattle.channel.specs.Numbered.{IsNumbered}
use Rattle.channel.proofs.Numbered.{numbered_peers}
use Rattle.channel.proofs.Kept.{kept_signed}
use Rattle.channel.proofs.SignRights.{may_sign_first, may_sign_rest}
use Rattle.channel.proofs.channel.Channel.signed.Goals as goal

pub sign_tokens-requires-clause-funding : goal.sign_tokens-requires-clause-funding
sign_tokens-requires-clause-funding c =
    let i = c.self.inside in
    let next = c.in-Ok.next in
    let owner = ap (λ (k : CommitmentState). k.owner) c.in-Ok.ensures.ok ∙ sym (ap (λ (s : State). other s.held.side) c.self.view_is) in
    subst (λ t. MaySign i.signer (funding_key t next)) (sym c.terms.ensures) (may_sign_first i.ledger.terms i.ledger.side i.signer next owner c.self.invariant.bases.funding)

pub sign_tokens-requires-clause-htlc : goal.sign_tokens-requires-clause-htlc
sign_tokens-requires-clause-htlc c =
    let i = c.self.inside in
    let next = c.in-Ok.next in
    let owner = ap (λ (k : CommitmentState). k.owner) c.in-Ok.ensures.ok ∙ sym (ap (λ (s : State). other s.held.side) c.self.view_is) in
    let point = ap (λ (k : CommitmentState). k.point.bytes) c.in-Ok.ensures.ok ∙ sym (ap (λ (s : State). s.next_point.bytes) c.self.view_is) in
    let learnt = subst (λ p. Contains i.signer.points p) (sym point) (c.self.invariant.points.right i.next_point.bytes (1, omega arith, refl)) in
    subst (λ t. MaySign i.signer (htlc_key t next)) (sym c.terms.ensures) (may_sign_rest i.ledger.terms i.ledger.side i.signer next owner c.self.invariant.bases learnt)

pub invariant_of-self-2 : goal.invariant_of-self-2
invariant_of-self-2 c =
    let next = c.in-Ok.next in
    let point = ap (λ (k : CommitmentState). k.point) c.in-Ok.ensures.ok ∙ sym (ap (λ (s : State). s.next_point) c.self.view_is) in
    let below = subst (λ (s : State). s.peer_number < LAST_NUMBER) (sym c.self.view_is) c.in_ok-check_sign.ensures.below in
    let waits = ap (λ (s : State). s.awaiting) c.self.view_is ∙ c.in_ok-check_sign.ensures.waits in
    let P : State → Type 0 = λ s. IsNumbered s.held.terms (other s.held.side) (s.peer_number + 1) next in
    let one_more = subst P (sym c.self.view_is) (numbered_peers c.args.self.now next c.in-Ok.ensures.ok c.in-Ok.ensures.sound) in
    kept_signed _ _ c.self.inside.signer c.self.inside.tokens.items next c.self.invariant below c.sign.ensures refl refl refl refl refl refl refl c.in-Ok-push.ensures.items point waits one_more
