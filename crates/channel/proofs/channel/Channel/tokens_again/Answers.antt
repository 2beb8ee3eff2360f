use Rattle.std.proofs.Common.{◌∙◌, ap, sym, subst}
use Rattle.std.specs.Prelude.{Contains}
use Rattle.keys.specs.Rights.{MaySign}
use Rattle.terms.specs.Sides.{other}
use Rattle.channel.specs.States.{State}
use Rattle.channel.specs.Rights.{rights_of}
use Rattle.channel.specs.Tokens.{funding_key, htlc_key}
use Rattle.channel.proofs.SignRights.{may_sign_first, may_sign_rest}
use Rattle.channel.proofs.channel.Channel.tokens_again.Goals as goal

pub sign_tokens-requires-clause-funding : goal.sign_tokens-requires-clause-funding
sign_tokens-requires-clause-funding c =
    let i = c.self.inside in
    let next = c.awaited-next.result.now in
    let owner = c.awaited-next.ensures.owner ∙ sym (ap (λ (s : State). other s.held.side) c.self.view_is) in
    subst (λ t. MaySign i.signer (funding_key t next)) (sym c.terms.ensures) (may_sign_first i.ledger.terms i.ledger.side i.signer next owner c.self.invariant.bases.funding)

pub sign_tokens-requires-clause-htlc : goal.sign_tokens-requires-clause-htlc
sign_tokens-requires-clause-htlc c =
    let i = c.self.inside in
    let next = c.awaited-next.result.now in
    let owner = c.awaited-next.ensures.owner ∙ sym (ap (λ (s : State). other s.held.side) c.self.view_is) in
    let known = subst (λ (s : State). Contains (rights_of s).points next.point.bytes) (sym c.self.view_is) c.awaited-next.ensures.point in
    let learnt = c.self.invariant.points.right next.point.bytes known in
    subst (λ t. MaySign i.signer (htlc_key t next)) (sym c.terms.ensures) (may_sign_rest i.ledger.terms i.ledger.side i.signer next owner c.self.invariant.bases learnt)
