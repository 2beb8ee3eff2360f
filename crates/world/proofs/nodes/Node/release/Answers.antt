use Rattle.std.proofs.Common.{refl}
use Rattle.book.specs.declared.calls.Call.TheVariants.{Release}
use Rattle.world.proofs.Answering.{is_node}
use Rattle.world.proofs.nodes.Node.release.Goals as goal

pub invariant_of-self : goal.invariant_of-self
invariant_of-self c =
    is_node _ c.release_twice-filled.new.self (Release c.args.channel c.args.batch) _ c.self.invariant c.release_twice-filled.ensures.call (λ chs. refl) c.entries.ensures.whole
