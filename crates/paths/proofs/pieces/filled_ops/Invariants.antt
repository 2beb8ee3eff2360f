use Rattle.std.proofs.Common.{◌≡◌, drop}
use Rattle.paths.specs.Patterns.{filled}
use Rattle.paths.proofs.FillPieces.{onto}
use Rattle.paths.proofs.pieces.filled_ops.Given as goal

abbrev pub invariant-loop-piece : goal.invariant-loop-piece
invariant-loop-piece l = filled l.pieces l.fills ≡ onto l.ops (filled (drop l.piece-index l.pieces) l.rest)
