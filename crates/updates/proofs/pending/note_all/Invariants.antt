use Rattle.std.proofs.Common.{◌≡◌}
use Rattle.updates.proofs.Keeping.{noted_front}
use Rattle.updates.proofs.pending.note_all.Given as goal

abbrev pub invariant-loop-i : goal.invariant-loop-i
invariant-loop-i l = l.htlcs ≡ noted_front l.position l.update l.i l.initial.htlcs
