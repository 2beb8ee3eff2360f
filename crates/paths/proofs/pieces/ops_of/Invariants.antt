use Rattle.std.proofs.Common.{◌≡◌, map, take}
use Rattle.paths.specs.Patterns.{op_of}
use Rattle.paths.proofs.pieces.ops_of.Given as goal

abbrev pub invariant-loop-piece : goal.invariant-loop-piece
invariant-loop-piece l = l.ops.items ≡ map op_of (take l.piece-index l.pieces)
