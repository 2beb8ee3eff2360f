use Rattle.std.proofs.Common.{◌≡◌, drop}
use Rattle.std.specs.List.{list_any}
use Rattle.sights.specs.Sights.{stage_by, is_there}
use Rattle.sights.proofs.sights.Sights.follows.Given as goal

-- what is left decides
abbrev pub invariant-loop-input : goal.invariant-loop-input
invariant-loop-input l = list_any (λ i. is_there (stage_by l.self.fundings l.self.sighted i)) (drop l.input-index l.inputs) ≡ list_any (λ i. is_there (stage_by l.self.fundings l.self.sighted i)) l.inputs
