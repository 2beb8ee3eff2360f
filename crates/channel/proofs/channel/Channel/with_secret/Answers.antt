use Rattle.std.proofs.Common.{◌≡◌, ap, subst, refl, arith, true, false}
use Rattle.channel.specs.Points.{is_foreign}
use Rattle.channel.specs.States.{State}
use Rattle.channel.proofs.Foreign.{taken, refused}
use Rattle.channel.proofs.channel.Channel.with_secret.Goals as goal

pub returns-in-Ok-clause-own : goal.returns-in-Ok-clause-own
returns-in-Ok-clause-own c =
    let i = c.self.inside in
    subst (λ s. is_foreign s c.args.secret.now ≡ false) (ap (λ (s : State). s.secrets) c.self.view_is)
    (taken i.secrets c.copy-secrets.result c.args.secret.now i.peer_number c.copy-secrets.ensures c.self.invariant.secrets (omega (arith, c.self.invariant.peer_number)) (c.in-Ok.ensures.ok.0 refl).1)

pub returns-in-Err-clause-foreign : goal.returns-in-Err-clause-foreign
returns-in-Err-clause-foreign c =
    let i = c.self.inside in
    subst (λ s. is_foreign s c.args.secret.now ≡ true) (ap (λ (s : State). s.secrets) c.self.view_is)
    (refused i.secrets c.copy-secrets.result c.args.secret.now i.peer_number c.copy-secrets.ensures c.self.invariant.secrets (omega (arith, c.self.invariant.peer_number)) c.in-Err.ensures.ok.1)
