use Rattle.std.proofs.Common.{◌≡◌, drop}
use Rattle.std.specs.Prelude.{nat_le}
use Rattle.paths.specs.Patterns.{longest}
use Rattle.paths.proofs.pieces.is_short.Given as goal

abbrev pub invariant-loop-piece : goal.invariant-loop-piece
invariant-loop-piece l = nat_le (longest l.pieces) 10000 ≡ nat_le (longest (drop l.piece-index l.pieces)) l.left
