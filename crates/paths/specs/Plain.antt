-- The state of a path and its jumps, where all constants are known.
use Rattle.std.specs.Prelude.{ℕ, List}
use Rattle.paths.specs.declared.state.StateOver.{StateOver}
use Rattle.paths.specs.declared.state.SymbolicJumpOver.{SymbolicJumpOver}
use Rattle.paths.specs.declared.state.ConditionOver.{ConditionOver}
use Rattle.paths.specs.declared.state.ListedOver.{ListedOver}
use Rattle.paths.specs.declared.state.Path.{Path}

abbrev pub State : Type 0
State = StateOver (List ℕ) ℕ ℕ

abbrev pub SymbolicJump : Type 0
SymbolicJump = SymbolicJumpOver (List ℕ) ℕ ℕ

abbrev pub Condition : Type 0
Condition = ConditionOver (List ℕ) ℕ ℕ

abbrev pub Listed : Type 0
Listed = ListedOver Path
