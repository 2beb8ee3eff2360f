use Rattle.std.proofs.Common.{◌≡◌, drop}
use Rattle.std.specs.List.{find}
use Rattle.chain.specs.Blocks.{names}
use Rattle.sights.proofs.telling.close_in.Given as goal

-- what is left decides
abbrev pub invariant-loop-entry : goal.invariant-loop-entry
invariant-loop-entry l = find (λ s. names l.funding s.tx) (drop l.entry-index l.sighted) ≡ find (λ s. names l.funding s.tx) l.sighted
