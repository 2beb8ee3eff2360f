use Rattle.std.proofs.Common.{◌≡◌, length}
use Rattle.library_tests.proofs.reactions.answer.Given as goal

abbrev pub invariant-loop-channel : goal.invariant-loop-channel
invariant-loop-channel l = length l.reader.seen ≡ length l.initial.reader.seen
