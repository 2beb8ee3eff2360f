use Rattle.std.proofs.Common.{◌≡◌, map, take}
use Rattle.world.proofs.looking.copied_watches.Given as goal

abbrev pub invariant-loop-line : goal.invariant-loop-line
invariant-loop-line l = l.watches.items ≡ map (λ line. line.seen) (take l.line-index l.lines)
