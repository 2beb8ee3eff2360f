use Rattle.std.proofs.Common.{◌≡◌, ◌++◌, map, drop}
use Rattle.std.specs.List.{AllByRecursion}
use Rattle.claim.specs.Claims.{IsAccepted}
use Rattle.penalty.specs.Sets.{claimed_by}
use Rattle.watch.specs.Watching.{due_by}
use Rattle.watch.proofs.unclaimed.due_by.Given as goal

-- what is left gives the whole
abbrev pub invariant-loop-spend : goal.invariant-loop-spend
invariant-loop-spend l = record {
  rest : map claimed_by l.due.items ++ due_by l.known (drop l.spend-index l.spends) ≡ due_by l.known l.spends;
  accepted : AllByRecursion IsAccepted l.due.items;
}
