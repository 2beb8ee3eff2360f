use Rattle.std.proofs.Common.{ap, sym, subst, ◌∙◌}
use Rattle.channel.specs.States.{State}
use Rattle.channel.specs.Rights.{rights_of}
use Rattle.channel.specs.Keeping.{HasBases, HaveSame}
use Rattle.channel.proofs.Learning.{turned_round}
use Rattle.channel.proofs.SignRights.{same_rights}
use Rattle.channel.proofs.channel.Channel.signer.Goals as goal

pub returns-clause-bases : goal.returns-clause-bases
returns-clause-bases c = subst (λ (s : State). HasBases s.held.terms s.held.side s.seed) c.self.view_is c.self.invariant.bases

pub returns-clause-rights : goal.returns-clause-rights
returns-clause-rights c key =
    let i = c.self.invariant in
    let r = c.self.inside.signer in
    let t = rights_of c.args.self.now in
    let points = subst (λ (s : State). HaveSame r.points (rights_of s).points) c.self.view_is i.points in
    let seed = ap (λ (s : State). s.seed) c.self.view_is in
    let secrets = i.learnt ∙ ap (λ (s : State). s.secrets) c.self.view_is in
    (same_rights r t seed points secrets key, same_rights t r (sym seed) (turned_round r.points t.points points) (sym secrets) key)
