-- The numbers of the refusals.
use Rattle.std.specs.Prelude.{ℕ}
use Rattle.scenario.specs.declared.errors.ScenarioError.{ScenarioError}
use Rattle.scenario.specs.declared.errors.ScenarioError.TheVariants.{NoMemory, NotJson, BadShape, OverLimit, BadTerms}

abbrev pub refusal_number : ScenarioError → ℕ
refusal_number NoMemory = 0
refusal_number NotJson = 1
refusal_number BadShape = 2
refusal_number OverLimit = 3
refusal_number (BadTerms channel) = 4
