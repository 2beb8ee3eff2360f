use Rattle.std.proofs.Common.{◌≡◌, ◌++◌, map}
use Rattle.std.specs.List.{AllByRecursion}
use Rattle.std.specs.Vec.Iter.{into_iter_items}
use Rattle.claim.specs.Claims.{IsAccepted}
use Rattle.penalty.specs.Sets.{claimed_by}
use Rattle.watch.specs.Watching.{Extends, given_at, unclaimed}
use Rattle.watch.proofs.unclaimed.push_unclaimed.Given as goal

-- what is left gives the whole
abbrev pub invariant-loop-claim : goal.invariant-loop-claim
invariant-loop-claim l = record {
  claims : map claimed_by l.claims.items ++ unclaimed l.height l.given.items (map claimed_by (into_iter_items l.claim-iterator))
      ≡ map claimed_by l.fn.claims.items ++ unclaimed l.height l.fn.given.items (map claimed_by l.fn.due.items);
  given : l.given.items ++ map (given_at l.height) (unclaimed l.height l.given.items (map claimed_by (into_iter_items l.claim-iterator)))
      ≡ l.fn.given.items ++ map (given_at l.height) (unclaimed l.height l.fn.given.items (map claimed_by l.fn.due.items));
  kept : Extends l.fn.given.items l.given.items;
  rest : AllByRecursion IsAccepted (into_iter_items l.claim-iterator);
  accepted : AllByRecursion IsAccepted l.fn.claims.items → AllByRecursion IsAccepted l.claims.items;
}
