use Rattle.std.proofs.Common.{◌≡◌, reverse}
use Rattle.world.specs.Looking.{Upward, reading_of}
use Rattle.world.proofs.looking.quiet_up_to.Given as goal

abbrev pub invariant-loop-read : goal.invariant-loop-read
invariant-loop-read l = record {
  upward : Upward l.me.history (reverse l.chain.blocks) l.me.read (reading_of l.me) l.read (reading_of l.me);
  height : l.quiet ≡ l.read;
}
