use Rattle.std.proofs.Common.{◌≡◌}
use Rattle.tx.proofs.Witnesses.{stripped_front}
use Rattle.tx.proofs.input.LimitedList+TxIn.strip_witnesses.Given as goal

abbrev pub invariant-loop-i : goal.invariant-loop-i
invariant-loop-i l = l.self-inside.items.items ≡ stripped_front l.i l.initial.self-inside.items.items
