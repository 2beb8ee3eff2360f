use Rattle.std.proofs.Common.{◌≡◌, ◌++◌, map, option_map}
use Rattle.std.specs.Vec.Iter.{into_iter_items}
use Rattle.sights.specs.Telling.{told_by}
use Rattle.sights.proofs.telling.told_all.Given as goal

-- what is left gives the whole
abbrev pub invariant-loop-claim : goal.invariant-loop-claim
invariant-loop-claim l =
    l.told.items ++ map (told_by l.records l.verdict (option_map (λ c. c.now) l.commitment)) (into_iter_items l.claim-iterator)
    ≡ map (told_by l.records l.verdict (option_map (λ c. c.now) l.commitment)) l.fn.claims.items
