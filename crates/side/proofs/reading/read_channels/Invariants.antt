use Rattle.std.proofs.Common.{reverse}
use Rattle.side.proofs.Followed.{IsReadUpTo}
use Rattle.side.proofs.reading.read_channels.Given as goal

abbrev pub invariant-loop-index : goal.invariant-loop-index
invariant-loop-index l =
    IsReadUpTo l.height (reverse l.block.transactions) l.initial.channels l.index l.channels l.found.due.items l.found.learnt.items
