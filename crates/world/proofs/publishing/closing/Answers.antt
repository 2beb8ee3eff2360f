use Rattle.std.proofs.Common.{◌≡◌, Some, subst}
use Rattle.std.specs.Prelude.{option_map}
use Rattle.world.specs.Worlds.{Node, channel_of}
use Rattle.world.proofs.Closes.{closes_by}
use Rattle.world.proofs.publishing.closing.Goals as goal

pub returns : goal.returns
returns c =
    let there = subst (λ (n : Node). Some c.in-Some.state.now ≡ option_map (λ ch. ch.state) (channel_of n c.args.channel)) c.me.view_is c.in-Some.ensures in
    closes_by (channel_of c.args.me.now c.args.channel) c.in-Some.state.now c.number.result c.commitment.result there c.number.ensures.number c.commitment.ensures
