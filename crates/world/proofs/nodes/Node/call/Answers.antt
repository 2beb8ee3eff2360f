use Rattle.world.proofs.Answering.{is_node, opens_nothing}
use Rattle.world.proofs.nodes.Node.call.Goals as goal

pub invariant_of-self : goal.invariant_of-self
invariant_of-self c = is_node _ c.call-reply.new.self c.args.call _ c.self.invariant c.call-reply.ensures (opens_nothing c.args.call c.requires) c.entries.ensures.whole
