use Rattle.std.proofs.Common.{◌≡◌, map, take}
use Rattle.paths.specs.Patterns.{hole_of}
use Rattle.paths.proofs.pieces.holes_of.Given as goal

abbrev pub invariant-loop-piece : goal.invariant-loop-piece
invariant-loop-piece l = l.holes.items ≡ map hole_of (take l.piece-index l.pieces)
