use Rattle.std.proofs.Common.{◌≡◌, ◌+◌, ◌≤◌, drop}
use Rattle.script.specs.Run.{skip_length}
use Rattle.paths.proofs.walking.jump_len.Given as goal

abbrev pub invariant-loop-i : goal.invariant-loop-i
invariant-loop-i l = (skip_length l.stop 0 l.ops ≡ l.i + skip_length l.stop l.depth (drop l.i l.ops)) × (l.depth ≤ l.i)
