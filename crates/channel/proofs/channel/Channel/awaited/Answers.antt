use Rattle.std.proofs.Common.{◌∙◌, ap, subst}
use Rattle.channel.specs.States.{State}
use Rattle.channel.proofs.Saying.{IsAwaited, awaited_is}
use Rattle.channel.proofs.channel.Channel.awaited.Goals as goal

pub returns-clause-built : goal.returns-clause-built
returns-clause-built c =
    let i = c.self.inside in
    let next = c.index.result.now in
    let waits = ap (λ (s : State). s.awaiting) c.self.view_is ∙ c.requires in
    (subst (λ (s : State). IsAwaited s next) c.self.view_is (awaited_is _ i.signer i.tokens.items next c.self.invariant waits c.index.ensures)).built

pub returns-clause-owner : goal.returns-clause-owner
returns-clause-owner c =
    let i = c.self.inside in
    let next = c.index.result.now in
    let waits = ap (λ (s : State). s.awaiting) c.self.view_is ∙ c.requires in
    (subst (λ (s : State). IsAwaited s next) c.self.view_is (awaited_is _ i.signer i.tokens.items next c.self.invariant waits c.index.ensures)).owner

pub returns-clause-point : goal.returns-clause-point
returns-clause-point c =
    let i = c.self.inside in
    let next = c.index.result.now in
    let waits = ap (λ (s : State). s.awaiting) c.self.view_is ∙ c.requires in
    (subst (λ (s : State). IsAwaited s next) c.self.view_is (awaited_is _ i.signer i.tokens.items next c.self.invariant waits c.index.ensures)).point
