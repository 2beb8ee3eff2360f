-- The ways through a pattern of a script, by the rules where constants may be holes.
use Rattle.std.specs.Prelude.{ℕ, ◌+◌, Bool, nat_le, List, [], Option, Some, None, Result, slice_index_or}
use Rattle.script.specs.declared.opcode.Op.{Op}
use Rattle.script.specs.declared.limits.TheConstants.{MAX_OPS_PER_SCRIPT}
use Rattle.script.specs.Step.{result_if}
use Rattle.script.specs.Run.{counted_in}
use Rattle.facts.specs.declared.symbols.SymOver.TheVariants.{Const}
use Rattle.paths.specs.declared.constants.HoleKind.{HoleKind}
use Rattle.paths.specs.declared.constants.Constant.{Constant}
use Rattle.paths.specs.declared.constants.Constant.TheVariants.{Hole}
use Rattle.paths.specs.declared.constants.Amount.{Amount}
use Rattle.paths.specs.declared.errors.CheckError.{CheckError}
use Rattle.paths.specs.declared.errors.CheckError.TheVariants.{OpenBranch, TooManyOps as TooMany}
use Rattle.paths.specs.declared.state.Halt.{Halt}
use Rattle.paths.specs.declared.state.PatternPath.{PatternPath}
use Rattle.paths.specs.Holes.{Sym, State, SymbolicJump, Listed}
use Rattle.paths.specs.HoleRules.{push, goes_on, condition_of, rule_of}
use Rattle.paths.specs.Listing.{is_balanced}
use Rattle.paths.specs.Walk.{Guide}
use Rattle.paths.specs.Walk as way

-- the hole at a position of the script, if there is one
abbrev pub hole_at : List (Option HoleKind) → ℕ → Option HoleKind
hole_at holes at = slice_index_or holes at None

-- a hole is pushed; any other opcode goes by the table of rules
abbrev pub rule_by : Option HoleKind → ℕ → ℕ → Op → State → Result (SymbolicJump × State) Halt
rule_by (Some kind) counted at op s = goes_on (push (Const (Hole kind at)) s)
rule_by None counted at op s = rule_of counted op s

abbrev pub path_of : ℕ → State → PatternPath
path_of counted s = record { arity = s.slots; facts = s.facts; ops = counted + s.keys; height = s.slots + s.excess }

-- what a walk needs where constants may be holes
abbrev pub guide : List (Option HoleKind) → Guide Constant (Amount ℕ) (Amount ℕ) PatternPath
guide holes = record { rule = λ counted at op s. rule_by (hole_at holes at) counted at op s; condition = condition_of; path = path_of }

abbrev pub refusal_at : {A : Type 0} → ℕ → A → Halt → Result A CheckError
refusal_at at none h = way.refusal_at at none h

abbrev pub with_excess : State → State
with_excess = way.with_excess

abbrev pub is_low : State → Bool
is_low = way.is_low

abbrev pub ahead_by : ℕ → State → State
ahead_by = way.ahead_by

abbrev pub states_after_jump : SymbolicJump → List Op → State → List State
states_after_jump = way.states_after_jump

abbrev pub states_after_rule : ℕ → List Op → Result (SymbolicJump × State) Halt → Result (List State) CheckError
states_after_rule = way.states_after_rule

abbrev pub states_after : List (Option HoleKind) → ℕ → ℕ → Op → List Op → State → ℕ → Result (List State) CheckError
states_after holes = way.states_after (guide holes)

abbrev pub path_at_end : List (Option HoleKind) → ℕ → ℕ → Result State Halt → Result (List PatternPath) CheckError
path_at_end holes = way.path_at_end (guide holes)

abbrev pub end_of : List (Option HoleKind) → List Sym → Sym → State → Result State Halt
end_of holes = way.end_of (guide holes)

abbrev pub paths_at_end : List (Option HoleKind) → ℕ → ℕ → State → Result (List PatternPath) CheckError
paths_at_end holes = way.paths_at_end (guide holes)

abbrev pub with_paths : Listed → Result (List PatternPath) CheckError → Result Listed CheckError
with_paths = way.with_paths

abbrev pub begins : Listed → Result Listed CheckError
begins = way.begins

abbrev pub walk_along : (State → Listed → Result Listed CheckError) → Result (List State) CheckError → Listed → Result Listed CheckError
walk_along = way.walk_along

abbrev pub walk : List (Option HoleKind) → ℕ → ℕ → List Op → State → Listed → Result Listed CheckError
walk holes = way.walk (guide holes)

abbrev pub beginning : State
beginning = way.beginning

-- the paths of a pattern, with an empty push in the place of each hole
unfoldable pub pattern_listing : List (Option HoleKind) → List Op → Result (List PatternPath) CheckError
pattern_listing holes ops = result_if (is_balanced ops []) OpenBranch (result_if (nat_le (counted_in ops) MAX_OPS_PER_SCRIPT) TooMany (way.walk_all (guide holes) (counted_in ops) ops))
