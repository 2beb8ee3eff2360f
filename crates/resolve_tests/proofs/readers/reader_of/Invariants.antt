use Rattle.std.proofs.Common.{◌≡◌, length}
use Rattle.resolve_tests.proofs.readers.reader_of.Given as goal

abbrev pub invariant-loop-channel : goal.invariant-loop-channel
invariant-loop-channel l = length l.watches.items ≡ l._channel
