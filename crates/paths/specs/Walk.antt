-- The ways through a script: every branch in the text order, over any types of constants and paths.
use Rattle.std.specs.Prelude.{ℕ, zero, suc, ◌+◌, ◌-◌, max, Bool, true, false, not, nat_lt, nat_le, List, [], ◌∷◌, ◌++◌, length, Result, Ok, Err}
use Rattle.script.specs.declared.opcode.Op.{Op}
use Rattle.script.specs.declared.limits.TheConstants.{MAX_STACK_SIZE}
use Rattle.script.specs.Step.{◌>>=◌, result_if}
use Rattle.script.specs.Run.{skip_length}
use Rattle.facts.specs.declared.symbols.SymOver.{SymOver}
use Rattle.paths.specs.declared.errors.CheckError.{CheckError}
use Rattle.paths.specs.declared.errors.CheckError.TheVariants.{NoMemory as OutOfMemory, TooManyOps as TooMany, Undecided as NoRule, TooManyPaths, TooTall}
use Rattle.paths.specs.declared.state.StateOver.{StateOver}
use Rattle.paths.specs.declared.state.Halt.{Halt}
use Rattle.paths.specs.declared.state.Halt.TheVariants.{NoMemory, Dead, Undecided, TooManyOps}
use Rattle.paths.specs.declared.state.SymbolicJumpOver.{SymbolicJumpOver}
use Rattle.paths.specs.declared.state.SymbolicJumpOver.TheVariants.{Next, AfterElse, AfterEndIf, Splits}
use Rattle.paths.specs.declared.state.ConditionOver.{ConditionOver}
use Rattle.paths.specs.declared.state.ListedOver.{ListedOver}
use Rattle.paths.specs.Table.{pop, ask, insist, StepOver, AfterOver}

-- a value, or why a script is refused
abbrev pub CheckResult : Type 0 → Type 0
CheckResult A = Result A CheckError

-- the refusal for a halt at an opcode; a path that dies does not go on
abbrev pub refusal_at : {A : Type 0} → ℕ → A → Halt → CheckResult A
refusal_at at none NoMemory = Err OutOfMemory
refusal_at at none Dead = Ok none
refusal_at at none Undecided = Err (NoRule at)
refusal_at at none TooManyOps = Err TooMany

-- what a walk needs. The rule is that of an opcode at its position, in a script with n counted opcodes. The condition decides whether a symbol
-- is true. The path is that of a state at the end
pub record Guide (C L A P : Type 0) : Type 0 where
  pub rule : ℕ → ℕ → Op → StateOver C L A → StepOver C L A
  pub condition : SymOver C L A → Result (ConditionOver C L A) Halt
  pub path : ℕ → StateOver C L A → P

module _ {C L A : Type 0} where
  -- after an opcode ran: the greatest number by which the elements have exceeded those of the witness
  abbrev pub with_excess : StateOver C L A → StateOver C L A
  with_excess s = record s { excess = max s.excess (length s.stack - s.slots) }

  -- the greatest number of elements of a run so far is at most 1,000
  abbrev pub is_low : StateOver C L A → Bool
  is_low s = nat_le (s.slots + s.excess) MAX_STACK_SIZE

  -- jumps over opcodes
  abbrev pub ahead_by : ℕ → StateOver C L A → StateOver C L A
  ahead_by n s = record s { ahead = n }

  -- the states after an opcode, given the opcodes that follow it; the branch that is first in the text comes first
  abbrev pub states_after_jump : SymbolicJumpOver C L A → List Op → StateOver C L A
      → List (StateOver C L A)
  states_after_jump Next rest s = s ∷ []
  states_after_jump AfterElse rest s = ahead_by (skip_length true 0 rest) s ∷ []
  states_after_jump AfterEndIf rest s = ahead_by (skip_length false 0 rest) s ∷ []
  states_after_jump (Splits fact first) rest s =
      ask fact first s ∷ ahead_by (skip_length true 0 rest) (ask fact (not first) s) ∷ []

  abbrev pub states_after_rule : ℕ → List Op → StepOver C L A → CheckResult (List (StateOver C L A))
  states_after_rule at rest (Ok (turn, s)) = result_if (is_low (with_excess s)) TooTall
      (Ok (states_after_jump turn rest (with_excess s)))
  states_after_rule at rest (Err h) = refusal_at at [] h

  -- the state in which a path begins
  abbrev pub beginning : StateOver C L A
  beginning = record { ahead = 0; stack = []; slots = 0; facts = []; keys = 0; excess = 0 }

module _ {P : Type 0} where
  -- the paths that were listed, and those that end here
  abbrev pub with_paths : ListedOver P → CheckResult (List P) → CheckResult (ListedOver P)
  with_paths l (Ok paths) = Ok (record l { paths = l.paths ++ paths })
  with_paths l (Err e) = Err e

  -- one more path begins, where fewer than 64 were begun
  abbrev pub begins : ListedOver P → CheckResult (ListedOver P)
  begins l = result_if (nat_lt l.begun 64) TooManyPaths (Ok (record l { begun = l.begun + 1 }))

-- walks on from each state to its end: the second begins once all paths through the first have ended
abbrev pub walk_along : {S P : Type 0} → (S → ListedOver P → CheckResult (ListedOver P))
    → CheckResult (List S) → ListedOver P → CheckResult (ListedOver P)
walk_along go (Err e) l = Err e
walk_along go (Ok []) l = Ok l
walk_along go (Ok (s ∷ [])) l = go s l
walk_along go (Ok (s ∷ t ∷ ways)) l = go s l >>= λ l'. begins l' >>= go t

module _ {C L A P : Type 0} (g : Guide C L A P) where
  -- the states after an opcode, in a script with `counted` counted opcodes
  abbrev pub states_after : ℕ → ℕ → Op → List Op → StateOver C L A → ℕ
      → CheckResult (List (StateOver C L A))
  states_after counted at op rest s (suc n) = Ok (ahead_by n s ∷ [])
  states_after counted at op rest s zero = states_after_rule at rest (g.rule counted at op s)

  -- the path that ends, with one element, which has to be true; none if the path dies
  abbrev pub path_at_end : ℕ → ℕ → AfterOver C L A → CheckResult (List P)
  path_at_end counted at (Ok s) = result_if (is_low s) TooTall (Ok (g.path counted s ∷ []))
  path_at_end counted at (Err h) = refusal_at at [] h

  abbrev pub end_of : List (SymOver C L A) → SymOver C L A → StateOver C L A → AfterOver C L A
  end_of [] x s = g.condition x >>= λ c. insist c s
  end_of (y ∷ ys) x s = Err Dead

  abbrev pub paths_at_end : ℕ → ℕ → StateOver C L A → CheckResult (List P)
  paths_at_end counted at s = path_at_end counted at (end_of (pop s).1.stack (pop s).0 (pop s).1)

  -- the paths from a state on, at a position of the script, with these opcodes left
  abbrev pub walk : ℕ → ℕ → List Op → StateOver C L A → ListedOver P → CheckResult (ListedOver P)
  walk n at [] s l = with_paths l (paths_at_end n at s)
  walk n at (op ∷ ops) s l = walk_along (walk n (at + 1) ops) (states_after n at op ops s s.ahead) l

  -- every path from the beginning
  abbrev pub walk_all : ℕ → List Op → CheckResult (List P)
  walk_all n ops = walk n 0 ops beginning (record { begun = 1; paths = [] }) >>= λ l. Ok l.paths
