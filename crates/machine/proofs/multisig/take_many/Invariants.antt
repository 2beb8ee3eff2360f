use Rattle.std.proofs.Common.{◌≡◌, ◌≤◌, take, drop, reverse, length}
use Rattle.machine.proofs.multisig.take_many.Given as goal

abbrev pub invariant-loop-entry : goal.invariant-loop-entry
invariant-loop-entry l = (l._entry ≤ length l.initial.stack) × (l.entries ≡ reverse (take l._entry l.initial.stack)) × (l.stack ≡ drop l._entry l.initial.stack)
