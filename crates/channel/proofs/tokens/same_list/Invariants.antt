use Rattle.std.proofs.Common.{◌≡◌, drop}
use Rattle.channel.specs.States.{all_eq}
use Rattle.channel.proofs.tokens.same_list.Given as goal

abbrev pub invariant-loop-i : goal.invariant-loop-i
invariant-loop-i l = all_eq (drop l.i l.first) (drop l.i l.second) ≡ all_eq l.first l.second
