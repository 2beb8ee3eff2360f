use Rattle.std.proofs.Common.{◌≡◌, Ok, subst}
use Rattle.world.specs.Worlds.{Node, channel_of}
use Rattle.world.specs.Publishing.{commitment_in}
use Rattle.world.proofs.Played.{is_broadcast}
use Rattle.world.proofs.parts.Parts.broadcast.Goals as goal

pub returns-in-Ok : goal.returns-in-Ok
returns-in-Ok c =
    let found = subst (λ (n : Node). commitment_in c.args.number (channel_of n c.args.channel) ≡ Ok c.in-Ok.tx) c.node.ensures c.in-Ok.ensures in
    is_broadcast c.args.self.now c.publish.new.self c.args.side c.args.channel c.args.number c.in-Ok.tx c.publish.result found c.publish.ensures
