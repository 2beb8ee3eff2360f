use Rattle.std.proofs.Common.{◌≡◌, false, drop, map, nat_cmp}
use Rattle.std.specs.Cmp.Lexicographic.{slice_cmp}
use Rattle.std.specs.BTreeSet.{contains}
use Rattle.tx.specs.Spelling.{outpoint}
use Rattle.filling.proofs.Repeats.{repeats_with}
use Rattle.filling.proofs.exclusions.share_outpoint.Given as goal

abbrev pub invariant-loop-claim : goal.invariant-loop-claim
invariant-loop-claim l =
    repeats_with (contains (slice_cmp nat_cmp) l.seen) (map (λ c. outpoint c.place.outpoint) (map (λ c. c.now) (drop l.claim-index l.claims)))
    ≡ repeats_with (λ x. false) (map (λ c. outpoint c.place.outpoint) (map (λ c. c.now) l.claims))
