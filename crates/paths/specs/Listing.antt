-- The ways through a script: every branch in the text order, by the rules where all constants are known.
use Rattle.std.specs.Prelude.{ℕ, ◌+◌, ◌%◌, ◌^◌, max, Bool, true, false, nat_le, if◌then◌else◌, List, [], ◌∷◌, Option, Some, None, Result, Ok, Err}
use Rattle.script.specs.declared.opcode.Op.{Op}
use Rattle.script.specs.declared.stops.Cause.{Cause}
use Rattle.script.specs.declared.limits.TheConstants.{MAX_OPS_PER_SCRIPT}
use Rattle.script.specs.Step.{result_if, bit_at}
use Rattle.script.specs.Run.{open_ifs_after, counted_in}
use Rattle.facts.specs.Symbols.{Fact, Stated, Sym}
use Rattle.facts.specs.declared.symbols.FactOver.TheVariants.{Lock, Age}
use Rattle.paths.specs.declared.errors.CheckError.{CheckError}
use Rattle.paths.specs.declared.errors.CheckError.TheVariants.{OpenBranch, TooManyOps as TooMany}
use Rattle.paths.specs.declared.state.Halt.{Halt}
use Rattle.paths.specs.declared.state.Path.{Path}
use Rattle.paths.specs.Plain.{State, SymbolicJump, Listed}
use Rattle.paths.specs.Table as table
use Rattle.paths.specs.Rules.{plain, rule_of}
use Rattle.paths.specs.Walk.{Guide}
use Rattle.paths.specs.Walk as way

-- a script's opcodes and its paths
pub record CheckedScript : Type 0 where
  pub ops : List Op
  pub paths : List Path

-- each IF has its ENDIF, each ELSE and ENDIF its IF, and no IF a second ELSE, in the opcodes after a point where these IFs are
-- open
abbrev pub balanced_with : Result (List Bool) Cause → (List Bool → Bool) → Bool
balanced_with (Ok ifs) go = go ifs
balanced_with (Err c) go = false

abbrev pub is_balanced : List Op → List Bool → Bool
is_balanced [] [] = true
is_balanced [] (b ∷ ifs) = false
is_balanced (op ∷ rest) ifs = balanced_with (open_ifs_after op ifs) (is_balanced rest)

-- the greatest absolute lock of facts
abbrev pub greater : Option ℕ → ℕ → Option ℕ
greater None n = Some n
greater (Some m) n = Some (max m n)

abbrev pub with_lock : Fact → Option ℕ → Option ℕ
with_lock (Lock n) o = greater o n
with_lock fact o = o

abbrev pub greatest_lock_in : List Stated → Option ℕ
greatest_lock_in [] = None
greatest_lock_in (s ∷ facts) = with_lock s.fact (greatest_lock_in facts)

-- the greatest of the facts' relative locks in blocks: bit 22 is clear, and the low 16 bits are the number (BIP 68)
abbrev pub with_age : Fact → Option ℕ → Option ℕ
with_age (Age n) o = if bit_at 22 n then o else greater o (n % 2 ^ 16)
with_age fact o = o

abbrev pub greatest_age_in : List Stated → Option ℕ
greatest_age_in [] = None
greatest_age_in (s ∷ facts) = with_age s.fact (greatest_age_in facts)

-- the path with these parts
abbrev pub path_with : ℕ → List Stated → ℕ → ℕ → Option ℕ → Option ℕ → Path
path_with arity facts ops height lock age =
    record { arity = arity; facts = facts; ops = ops; height = height; lock = lock; age = age }

-- the path of a state at the end of the script
abbrev pub path_of : ℕ → State → Path
path_of counted s = path_with s.slots s.facts (counted + s.keys) (s.slots + s.excess)
    (greatest_lock_in s.facts) (greatest_age_in s.facts)

-- what a walk needs where all constants are known
abbrev pub guide : Guide (List ℕ) ℕ ℕ Path
guide =
    record { rule = λ n _ o s. rule_of n o s; condition = table.condition_of plain; path = path_of }

abbrev pub refusal_at : {A : Type 0} → ℕ → A → Halt → Result A CheckError
refusal_at at none h = way.refusal_at at none h

abbrev pub with_excess : State → State
with_excess = way.with_excess

abbrev pub is_low : State → Bool
is_low = way.is_low

abbrev pub ahead_by : ℕ → State → State
ahead_by = way.ahead_by

abbrev pub states_after_jump : SymbolicJump → List Op → State → List State
states_after_jump = way.states_after_jump

abbrev pub states_after_rule : ℕ → List Op → Result (SymbolicJump × State) Halt → Result (List State) CheckError
states_after_rule = way.states_after_rule

abbrev pub states_after : ℕ → ℕ → Op → List Op → State → ℕ → Result (List State) CheckError
states_after = way.states_after guide

abbrev pub path_at_end : ℕ → ℕ → Result State Halt → Result (List Path) CheckError
path_at_end = way.path_at_end guide

abbrev pub end_of : List Sym → Sym → State → Result State Halt
end_of = way.end_of guide

abbrev pub paths_at_end : ℕ → ℕ → State → Result (List Path) CheckError
paths_at_end = way.paths_at_end guide

abbrev pub with_paths : Listed → Result (List Path) CheckError → Result Listed CheckError
with_paths = way.with_paths

abbrev pub begins : Listed → Result Listed CheckError
begins = way.begins

abbrev pub walk_along : (State → Listed → Result Listed CheckError) → Result (List State) CheckError → Listed → Result Listed CheckError
walk_along = way.walk_along

abbrev pub walk : ℕ → ℕ → List Op → State → Listed → Result Listed CheckError
walk = way.walk guide

abbrev pub beginning : State
beginning = way.beginning

-- the paths of a script
unfoldable pub listing : List Op → Result (List Path) CheckError
listing ops = result_if (is_balanced ops []) OpenBranch
    (result_if (nat_le (counted_in ops) MAX_OPS_PER_SCRIPT) TooMany
    (way.walk_all guide (counted_in ops) ops))
