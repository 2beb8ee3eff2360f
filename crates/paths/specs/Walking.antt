-- What the functions return that walk the ways through a script.
use Rattle.std.specs.Prelude.{◌≡◌, ℕ, ◌+◌, ◌≤◌, Bool, true, false, List, [], ◌∷◌, drop, Option, Some, None, Result, Ok, Err}
use Rattle.script.specs.declared.opcode.Op.{Op}
use Rattle.script.specs.declared.limits.TheConstants.{MAX_OPS_PER_SCRIPT, MAX_STACK_SIZE}
use Rattle.script.specs.Step.{◌>>=◌}
use Rattle.script.specs.Run.{skip_length}
use Rattle.paths.specs.declared.errors.CheckError.{CheckError}
use Rattle.paths.specs.Holes.{State}
use Rattle.paths.specs.declared.state.PatternPath.{PatternPath}
use Rattle.paths.specs.Holes.{Listed}
use Rattle.paths.specs.declared.walking.Successors.{Successors}
use Rattle.paths.specs.declared.walking.Successors.TheVariants.{Dies, Goes, Splits}
use Rattle.paths.specs.declared.walking.Waiting.{Waiting}
use Rattle.paths.specs.Answers.{IfRefused}
use Rattle.paths.specs.HoleListing.{ahead_by, begins, walk}
use Rattle.paths.specs.declared.constants.HoleKind.{HoleKind}

-- the path that ends, or none
abbrev pub IsEnded : Result (List PatternPath) CheckError → Result (Option PatternPath) CheckError → Type 0
IsEnded rule (Ok (Some path)) = rule ≡ Ok (path ∷ [])
IsEnded rule (Ok None) = rule ≡ Ok []
IsEnded rule (Err e) = IfRefused e (rule ≡ Err e)

-- the second branch, as it comes to these opcodes: it jumps past the ELSE
abbrev pub at_second_branch : List Op → State → State
at_second_branch rest s = ahead_by (skip_length true 0 rest) s

-- the states before these opcodes: none, this state, or this state and then the second one, which enters its branch
abbrev pub states_of : List Op → State → Successors → List State
states_of rest s Dies = []
states_of rest s Goes = s ∷ []
states_of rest s (Splits t) = s ∷ at_second_branch rest t ∷ []

abbrev pub AreStates : Result (List State) CheckError → List Op → State → Result Successors CheckError → Type 0
AreStates rule rest s (Ok way) = rule ≡ Ok (states_of rest s way)
AreStates rule rest s (Err e) = IfRefused e (rule ≡ Err e)

-- a state's numbers are within their limits
pub record IsKept (counted : ℕ) (s : State) : Type 0 where
  pub low : s.slots + s.excess ≤ MAX_STACK_SIZE
  pub few : counted + s.keys ≤ MAX_OPS_PER_SCRIPT

abbrev pub AreKept : ℕ → State → Successors → Type 0
AreKept counted s Dies = Unit {0}
AreKept counted s Goes = IsKept counted s
AreKept counted s (Splits t) = IsKept counted s × IsKept counted t

-- a path that waits stands in the script
pub record IsWaiting (counted n : ℕ) (w : Waiting) : Type 0 where
  pub within : w.at ≤ n
  pub kept : IsKept counted w.state

-- the walk of the second branches that wait, the newest first
abbrev pub waiting_paths : List (Option HoleKind) → ℕ → List Op → List Waiting → Listed → Result Listed CheckError
waiting_paths holes counted ops [] l = Ok l
waiting_paths holes counted ops (w ∷ ws) l = begins l >>= λ l'. walk holes counted w.at (drop w.at ops) (at_second_branch (drop w.at ops) w.state) l' >>= waiting_paths holes counted ops ws

-- the rest of a path from a position on, and then the branches that wait
abbrev pub rest_of_walk : List (Option HoleKind) → ℕ → List Op → ℕ → State → List Waiting → Listed → Result Listed CheckError
rest_of_walk holes counted ops at s ws l = walk holes counted at (drop at ops) s l >>= waiting_paths holes counted ops ws

-- the paths that a walk lists
abbrev pub paths_in : Result Listed CheckError → Result (List PatternPath) CheckError
paths_in r = r >>= λ l. Ok l.paths

-- a step past one opcode keeps what is left to walk, whatever was listed so far: the rest of the path and the branches that
-- wait, or those alone
abbrev pub KeepsRest : List (Option HoleKind) → ℕ → List Op → ℕ → State → List Waiting → State → List Waiting → Bool → Type 0
KeepsRest holes counted ops at s ws s' ws' true =
    (l : Listed) → rest_of_walk holes counted ops at s ws l ≡ rest_of_walk holes counted ops (at + 1) s' ws' l
KeepsRest holes counted ops at s ws s' ws' false = (l : Listed) → rest_of_walk holes counted ops at s ws l ≡ waiting_paths holes counted ops ws' l

abbrev pub IsStep : List (Option HoleKind) → ℕ → List Op → ℕ → State → List Waiting → State → List Waiting → Result Bool CheckError → Type 0
IsStep holes counted ops at s ws s' ws' (Ok goes) = KeepsRest holes counted ops at s ws s' ws' goes
IsStep holes counted ops at s ws s' ws' (Err e) = IfRefused e ((l : Listed) → rest_of_walk holes counted ops at s ws l ≡ Err e)

-- one path to its end: only the branches that wait are left
abbrev pub IsWalked : List (Option HoleKind) → ℕ → List Op → Result Listed CheckError → List Waiting → Listed → Result (Unit {0}) CheckError → Type 0
IsWalked holes counted ops whole ws l (Ok done) = whole ≡ waiting_paths holes counted ops ws l
IsWalked holes counted ops whole ws l (Err e) = IfRefused e (whole ≡ Err e)
