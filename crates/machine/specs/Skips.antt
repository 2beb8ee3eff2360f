-- What a machine jumps over, by the definition of a run.
use Rattle.std.specs.Prelude.{ℕ, List, Option, Some, None}
use Rattle.script.specs.declared.opcode.Op.{Op}
use Rattle.script.specs.Run.{skip_length}
use Rattle.machine.specs.declared.skips.Skip.{Skip}

-- how many of the opcodes that are left are jumped over
abbrev pub ahead_of : Option Skip → List Op → ℕ
ahead_of None rest = 0
ahead_of (Some skip) rest = skip_length skip.stop skip.depth rest

-- how many IFs are open inside the branch that is jumped over
abbrev pub depth_of : Option Skip → ℕ
depth_of None = 0
depth_of (Some skip) = skip.depth
