use Rattle.std.proofs.Common.{◌++◌, [], ◌∷◌, ap, sym, refl, ◌∙◌}
use Rattle.keys.specs.Rights.{Rights}
use Rattle.channel.specs.States.{State}
use Rattle.channel.proofs.Kept.{kept_revocation}
use Rattle.channel.proofs.channel.Channel.receive_revocation.Goals as goal

pub invariant_of-self-2 : goal.invariant_of-self-2
invariant_of-self-2 c =
    let secrets = c.in-Some.ensures.some ∙ sym (ap (λ (s : State). s.secrets ++ c.args.revocation.now.secret ∷ []) c.self.view_is) in
    kept_revocation _ _ c.self.inside.signer c.learn_revocation.new.self c.self.inside.tokens.items c.args.revocation.now.secret c.self.invariant c.if-not-self.false c.receive_revocation.ensures (ap (λ (r : Rights). r.seed) c.in-Ok.ensures.ok) refl refl refl secrets refl refl
    c.in-Ok.ensures.ok
