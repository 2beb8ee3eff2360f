use Rattle.std.proofs.Common.{refl}
use Rattle.book.specs.declared.calls.Call.TheVariants.{Keep}
use Rattle.world.proofs.Answering.{is_node, opens_nothing}
use Rattle.world.proofs.nodes.Node.keep_set.Goals as goal

pub invariant_of-self : goal.invariant_of-self
invariant_of-self c =
    let call = Keep c.args.channel c.args.number c.args.set.claims in
    is_node _ c.keep_set-kept.new.self call _ c.self.invariant c.keep_set-kept.ensures.call (opens_nothing call refl) c.entries.ensures.whole
