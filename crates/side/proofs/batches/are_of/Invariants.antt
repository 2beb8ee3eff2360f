use Rattle.std.proofs.Common.{◌≡◌, drop, map}
use Rattle.side.specs.Batches.{are_of}
use Rattle.side.proofs.batches.are_of.Given as goal

abbrev pub invariant-loop-due_claim : goal.invariant-loop-due_claim
invariant-loop-due_claim l = are_of l.channel (map (λ d. d.now) (drop l.due_claim-index l.due)) ≡ are_of l.channel (map (λ d. d.now) l.due)
