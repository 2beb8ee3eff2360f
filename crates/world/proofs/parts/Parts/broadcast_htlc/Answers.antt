use Rattle.std.proofs.Common.{◌≡◌, Ok, subst}
use Rattle.world.specs.Worlds.{Node, channel_of}
use Rattle.world.specs.Publishing.{preimages_known, htlc_tx_in}
use Rattle.world.proofs.Played.{is_htlc_broadcast}
use Rattle.world.proofs.parts.Parts.broadcast_htlc.Goals as goal

pub returns-in-Ok : goal.returns-in-Ok
returns-in-Ok c =
    let found =
    subst (λ (n : Node). htlc_tx_in c.args.number c.args.htlc (preimages_known c.args.channel n) (channel_of n c.args.channel) ≡ Ok c.in-Ok.tx) c.node.ensures c.in-Ok.ensures
    in
    is_htlc_broadcast c.args.self.now c.publish.new.self c.args.side c.args.channel c.args.number c.args.htlc c.in-Ok.tx c.publish.result found c.publish.ensures
