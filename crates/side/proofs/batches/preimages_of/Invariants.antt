use Rattle.std.proofs.Common.{◌≡◌, drop, fold, map}
use Rattle.std.specs.List.{flat_map}
use Rattle.side.specs.Batches.{with_new, each_once}
use Rattle.side.proofs.batches.preimages_of.Given as goal

abbrev pub invariant-loop-due_claim : goal.invariant-loop-due_claim
invariant-loop-due_claim l =
    fold with_new l.preimages (flat_map (λ d. d.preimages) (map (λ d. d.now) (drop l.due_claim-index l.due)))
    ≡ each_once (flat_map (λ d. d.preimages) (map (λ d. d.now) l.due))
