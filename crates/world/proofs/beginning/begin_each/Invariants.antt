use Rattle.world.specs.Beginning.{HasBegun}
use Rattle.world.proofs.Begun.{IsLeft}
use Rattle.world.proofs.beginning.begin_each.Given as goal

abbrev pub invariant-loop-channel : goal.invariant-loop-channel
invariant-loop-channel l = IsLeft l.seeds l.terms l.channel l.parts × HasBegun l.channel l.parts
