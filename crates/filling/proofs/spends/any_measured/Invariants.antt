use Rattle.std.proofs.Common.{◌≡◌, drop, map}
use Rattle.std.specs.List.{list_any}
use Rattle.filling.specs.Spends.{is_measured}
use Rattle.filling.proofs.spends.any_measured.Given as goal

abbrev pub invariant-loop-claim : goal.invariant-loop-claim
invariant-loop-claim l = list_any is_measured (map (λ c. c.now) (drop l.claim-index l.claims)) ≡ list_any is_measured (map (λ c. c.now) l.claims)
