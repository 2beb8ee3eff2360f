use Rattle.std.specs.Vec.Iter.{into_iter_items}
use Rattle.plain_claims.proofs.Taking.{SoFar}
use Rattle.plain_claims.proofs.accepting.claims_of.Given as goal

-- what was taken, followed by what is left, is the whole
abbrev pub invariant-loop-plain : goal.invariant-loop-plain
invariant-loop-plain l = SoFar l.fn.plains l.claims.items (into_iter_items l.plain-iterator)
