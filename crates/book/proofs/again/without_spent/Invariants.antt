use Rattle.std.proofs.Common.{◌≡◌, ◌++◌, drop}
use Rattle.book.specs.Again.{without_spent}
use Rattle.book.proofs.again.without_spent.Given as goal

-- what is left of those from here is left of all
abbrev pub invariant-loop-claim : goal.invariant-loop-claim
invariant-loop-claim l = l.left ++ without_spent l.spent (drop l.claim-index l.claims) ≡ without_spent l.spent l.claims
