-- What the helper functions of the table of opcodes do.
use Rattle.std.specs.Prelude.{◌≡◌, ℕ, ◌+◌, ◌≤◌, nat_le, Result, Ok}
use Rattle.script.specs.declared.limits.TheConstants.{MAX_OPS_PER_SCRIPT}
use Rattle.script.specs.Step.{result_if}
use Rattle.paths.specs.Holes.{State}
use Rattle.paths.specs.declared.state.Halt.{Halt}
use Rattle.paths.specs.declared.state.Halt.TheVariants.{TooManyOps}

-- at most this many more slots were reached, and no more keys were counted
pub record IsNear (more : ℕ) (old : State) (new : State) : Type 0 where
  pub slots : new.slots ≤ old.slots + more
  pub keys : new.keys ≡ old.keys

-- more keys are counted, if the count stays at most 201
abbrev pub count_keys : ℕ → ℕ → State → Result State Halt
count_keys counted more s = result_if (nat_le (counted + (s.keys + more)) MAX_OPS_PER_SCRIPT) TooManyOps (Ok (record s { keys = s.keys + more }))
