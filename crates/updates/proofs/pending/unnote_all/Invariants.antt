use Rattle.std.proofs.Common.{◌≡◌}
use Rattle.updates.specs.Pending.{unnoted}
use Rattle.updates.proofs.Cutting.{mapped_front}
use Rattle.updates.proofs.pending.unnote_all.Given as goal

abbrev pub invariant-loop-i : goal.invariant-loop-i
invariant-loop-i l = l.htlcs ≡ mapped_front (unnoted l.removed) l.i l.initial.htlcs
