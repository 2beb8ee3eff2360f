use Rattle.std.proofs.Common.{◌≡◌, drop, reverse}
use Rattle.side.specs.Reading.{numbers_to_ask}
use Rattle.world.specs.Asking.{AreKnown}
use Rattle.world.proofs.looking.answer_all.Given as goal

abbrev pub invariant-loop-channel : goal.invariant-loop-channel
invariant-loop-channel l = record {
  left : drop l.channel-index l.channel-items ≡ numbers_to_ask 0 l.reader.fundings l.reader.seen l.reader.knowns (reverse l.block.transactions);
  known : AreKnown l.book l.reader.learnt l.reader.knowns;
  same : l.reader ≡ record l.initial.reader { knowns = l.reader.knowns };
}
