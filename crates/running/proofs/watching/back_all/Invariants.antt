use Rattle.std.proofs.Common.{◌≡◌, ◌++◌, map, take, drop}
use Rattle.watch.specs.Watching.{seen_up_to}
use Rattle.running.proofs.watching.back_all.Given as goal

abbrev pub invariant-loop-index : goal.invariant-loop-index
invariant-loop-index l = l.watches ≡ map (seen_up_to l.height) (take l.index l.initial.watches) ++ drop l.index l.initial.watches
