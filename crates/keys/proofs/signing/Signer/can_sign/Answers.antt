use Rattle.std.proofs.Common.{◌∙◌}
use Rattle.keys.proofs.Deciding.{signs_own, signs_learnt}
use Rattle.keys.proofs.signing.Signer.can_sign.Goals as goal

pub returns-then-has : goal.returns-then-has
returns-then-has c =
    let i = c.self.inside in
    signs_own c.args.self.now i.bases i.points.items i.secrets.items c.args.key.now.bytes c.has.result c.self.view_is c.has.ensures c.if-has.true

pub returns-else-has : goal.returns-else-has
returns-else-has c =
    let i = c.self.inside in
    signs_learnt c.args.self.now i.bases i.points.items i.secrets.items c.args.key.now.bytes c.has.result c.contains.result c.self.view_is c.has.ensures c.if-has.false (c.contains.ensures ∙ c.self.invariant c.args.key.now.bytes)
