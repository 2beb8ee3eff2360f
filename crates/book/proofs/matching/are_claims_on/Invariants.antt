use Rattle.penalty.specs.Sets.{claimed_by}
use Rattle.book.specs.Penalties.{is_claim_on}
use Rattle.book.proofs.Alike.{Left}
use Rattle.book.proofs.Sets.{Onward}
use Rattle.book.proofs.matching.are_claims_on.Given as goal

abbrev pub invariant-loop-one : goal.invariant-loop-one
invariant-loop-one l = Left (λ k c. is_claim_on (claimed_by k) c) l.kept l.claims l.one-index l.others × Onward l.kept l.claims l.one-index l.others
