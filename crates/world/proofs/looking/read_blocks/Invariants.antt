use Rattle.std.proofs.Common.{◌≡◌, reverse}
use Rattle.book.specs.Books.{fundings_of, replay}
use Rattle.world.specs.Looking.{Upward, reading_of, reading_in}
use Rattle.world.specs.Asking.{AreKnown}
use Rattle.world.proofs.looking.read_blocks.Given as goal

abbrev pub invariant-loop-read : goal.invariant-loop-read
invariant-loop-read l = record {
  upward : Upward l.me.history (reverse l.chain.blocks) l.me.read (reading_of l.me) l.read (reading_in l.reader);
  known : AreKnown l.me.history l.reader.learnt l.reader.knowns;
  fundings : l.reader.fundings ≡ fundings_of (replay l.me.history);
}
