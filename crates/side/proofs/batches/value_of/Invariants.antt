use Rattle.std.proofs.Common.{◌≡◌, ◌+◌, ◌*◌, ◌^◌, ◌≤◌, drop, map}
use Rattle.side.specs.Batches.{value_of}
use Rattle.side.proofs.batches.value_of.Given as goal

abbrev pub invariant-loop-due_claim : goal.invariant-loop-due_claim
invariant-loop-due_claim l = record {
  rest : l.total + value_of (map (λ d. d.now) (drop l.due_claim-index l.due)) ≡ value_of (map (λ d. d.now) l.due);
  small : l.total ≤ l.due_claim-index * 2 ^ 64;
}
