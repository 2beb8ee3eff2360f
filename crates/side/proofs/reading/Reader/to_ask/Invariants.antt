use Rattle.std.proofs.Common.{◌≡◌, ◌++◌, reverse}
use Rattle.side.specs.Reading.{numbers_to_ask}
use Rattle.side.proofs.Readings.{asked_from}
use Rattle.side.proofs.reading.Reader.to_ask.Given as goal

abbrev pub invariant-loop-index : goal.invariant-loop-index
invariant-loop-index l =
    l.channels.items ++ asked_from l.self.fundings l.self.seen l.self.knowns (reverse l.block.transactions) l.index ≡
    numbers_to_ask 0 l.self.fundings l.self.seen l.self.knowns (reverse l.block.transactions)
