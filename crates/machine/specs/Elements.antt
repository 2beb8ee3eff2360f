-- The stack elements in the course of a run.
use Rattle.std.specs.Prelude.{ℕ, suc, nat_eq, if◌then◌else◌, List, [], ◌∷◌, reverse, Option, Some, None, Result, Ok, Err}
use Rattle.script.specs.declared.opcode.Op.{Op}
use Rattle.script.specs.declared.spending.Spend.{Spend}
use Rattle.script.specs.declared.stops.Cause.{Cause}
use Rattle.script.specs.Step.{Elements}
use Rattle.script.specs.Run.{RunState, state_after, start}

-- what follows from a state, if the run has one
abbrev pub elements_onward : Result RunState Cause → (RunState → Option Elements) → Option Elements
elements_onward (Ok p) go = go p
elements_onward (Err c) go = None

-- the elements at an index, in a run that reaches these opcodes in this state, the first of them being opcode `at`
abbrev pub elements_from : Spend → ℕ → List Op → ℕ → RunState → Option Elements
elements_from spend at [] index p = if nat_eq at index then Some p.stack else None
elements_from spend at (op ∷ rest) index p =
    if nat_eq at index then Some p.stack else elements_onward (state_after spend op rest p) (elements_from spend (suc at) rest index)

-- the elements before the opcode at an index, or at the end; nothing where the run stops before that
abbrev pub elements_at : Spend → List Op → List (List ℕ) → ℕ → Option Elements
elements_at spend ops witness index = elements_from spend 0 ops index (start (reverse witness))
