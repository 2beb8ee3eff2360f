use Rattle.std.proofs.Common.{◌≡◌, ◌++◌, drop, map}
use Rattle.filling.specs.Spends.{missing_from}
use Rattle.filling.proofs.missing.missing_signatures.Given as goal

abbrev pub invariant-loop-input : goal.invariant-loop-input
invariant-loop-input l = l.missing.items ++ missing_from l.tx l.input (map (λ c. c.now) (drop l.input l.claims)) ≡ missing_from l.tx 0 (map (λ c. c.now) l.claims)
