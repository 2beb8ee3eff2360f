use Rattle.std.proofs.Common.{◌≡◌, ◌<◌, ◌+◌, ◌++◌, [], ◌∷◌, ap, sym, subst, refl, ◌∙◌}
use Rattle.keys.specs.Rights.{Rights}
use Rattle.keys.specs.declared.compressed.Key.{Key}
use Rattle.channel.specs.declared.limits.TheConstants.{LAST_NUMBER}
use Rattle.channel.specs.declared.commitments.CommitmentState.{CommitmentState}
use Rattle.updates.specs.declared.messages.Tokens.{Tokens}
use Rattle.channel.specs.Points.{point_at}
use Rattle.channel.specs.States.{State}
use Rattle.channel.specs.Tokens.{peer_tokens}
use Rattle.channel.specs.Numbered.{IsNumbered}
use Rattle.channel.proofs.Numbered.{numbered_own}
use Rattle.channel.proofs.Pairing.{pushed}
use Rattle.channel.proofs.Kept.{with_point, kept_signature}
use Rattle.channel.proofs.channel.Channel.receive_signature.Goals as goal

pub invariant_of-self-2 : goal.invariant_of-self-2
invariant_of-self-2 c =
    let i = c.self.inside in
    let next = c.in_ok-next.next.commitment in
    let tokens = c.in_ok-next.next.tokens in
    let below = subst (λ (s : State). s.number < LAST_NUMBER) (sym c.self.view_is) c.in_ok-next.ensures.below in
    let seed = ap (λ (r : Rights). r.seed) c.in-Ok-learn_point.ensures.ok in
    let mine =
    pushed c.push.result c.unwrap.result c.push.new.self.items (c.reserve.new.self.items ++ next ∷ []) c.reserve.new.self.items c.unwrap.ensures c.push.ensures.items
    ∙ ap (λ cs. cs ++ next ∷ []) c.in-Ok.ensures.items
    in
    let terms = ap (λ (s : State). s.held.terms) c.self.view_is in
    let are : tokens ≡ peer_tokens i.ledger.terms next = c.in_ok-next.ensures.kept ∙ (λ j. peer_tokens (sym terms j) (sym c.in_ok-next.ensures.ok j)) in
    let kept =
    pushed c.push-2.result c.unwrap-2.result c.push-2.new.self.items (c.reserve-2.new.self.items ++ tokens ∷ []) c.reserve-2.new.self.items c.unwrap-2.ensures c.push-2.ensures.items
    ∙ ap (λ ts. ts ++ tokens ∷ []) c.in-Ok-reserve.ensures.items
    ∙ ap (λ (t : Tokens). i.tokens.items ++ t ∷ []) are
    in
    let point = ap (λ (k : CommitmentState). k.point) c.in_ok-next.ensures.ok ∙ sym (ap (λ (s : State). point_at s.seed (s.number + 1)) c.self.view_is) in
    let learnt = c.in-Ok-learn_point.ensures.ok ∙ ap (λ (k : Key). with_point i.signer k.bytes) c.own_point-next_point.ensures in
    let P : State → Type 0 = λ s. IsNumbered s.held.terms s.held.side (s.number + 1) next in
    let one_more = subst P (sym c.self.view_is) (numbered_own c.args.self.now next c.in_ok-next.ensures.ok c.in_ok-next.ensures.sound) in
    kept_signature _ _ i.signer c.learn_point.new.self i.tokens.items c.push-2.new.self.items next c.self.invariant below c.receive_signature.ensures seed refl refl refl refl refl mine refl point learnt one_more kept
