use Rattle.std.proofs.Common.{drop}
use Rattle.std.specs.List.{AllByRecursion}
use Rattle.claim.specs.Claims.{IsWhole}
use Rattle.book_dump.proofs.dumping.each_keeps.Given as goal

abbrev pub invariant-loop-claim : goal.invariant-loop-claim
invariant-loop-claim l = AllByRecursion IsWhole (drop l.claim-index l.claims) → AllByRecursion IsWhole l.claims
