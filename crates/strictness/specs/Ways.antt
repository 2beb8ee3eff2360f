-- What becomes of one branch, by the way that it takes at each IF and NOTIF whose condition the witness decides; and that nobody spends by it.
use Rattle.std.specs.Prelude.{◌≡◌, ℕ, ◌+◌, ◌≤◌, Bool, true, false, ◌&&◌, not, ◌==◌, if◌then◌else◌, List, [], ◌∷◌, reverse, Option, Some, None}
use Rattle.std.specs.List.{list_any}
use Rattle.script.specs.declared.opcode.Op.{Op}
use Rattle.script.specs.declared.spending.Spend.{Spend}
use Rattle.script.specs.Run.{is_long}
use Rattle.strictness.specs.declared.branches.Mode.{Mode}
use Rattle.strictness.specs.declared.branches.Mode.TheVariants.{Running, Skipping, Lost}
use Rattle.strictness.specs.declared.faults.Fault.{Fault}
use Rattle.strictness.specs.declared.faults.Fault.TheVariants.{TwoLeft, FalseLeft}
use Rattle.strictness.specs.declared.ways.Choice.{Choice}
use Rattle.strictness.specs.declared.ways.Fate.{Fate}
use Rattle.strictness.specs.declared.ways.Fate.TheVariants as fates
use Rattle.strictness.specs.declared.ways.Passed.{Passed}
use Rattle.strictness.specs.declared.ways.Passed.TheVariants.{Goes, Stops}
use Rattle.strictness.specs.Machine.{Oracle, State, step, onward, is_clean_end}
use Rattle.strictness.specs.Words.{Word, bytes_of, constant, shown, truth_of}
use Rattle.strictness.specs.Turns.{Step, next, after_else, after_end, both, ends, stops, turn_of}
use Rattle.strictness.specs.Exact.{depth_of, mode_after}

-- it comes to an IF or NOTIF at which no way is chosen; it ends at an opcode, by a fault of these bytes; or it does not end so
pub data Told : Type 0 where
  splits : ℕ → Told
  dies : ℕ → Fault → List ℕ → Told
  lives : Told

abbrev pub told : Fate → Told
told (fates.Splits at) = splits at
told (fates.Dies end) = dies end.op end.fault (bytes_of end.bytes)
told fates.Lives = lives

abbrev pub is_dead : Told → Bool
is_dead (dies at fault b) = true
is_dead t = false

-- the way that is chosen at an opcode
abbrev pub way_at : List Choice → ℕ → Option Bool
way_at [] at = None
way_at (c ∷ choices) at = if c.op == at then Some c.runs else way_at choices at

-- at an IF or NOTIF whose condition the witness decides
abbrev pub chosen : (Mode → List Word → Told) → Option Bool → ℕ → List Word → Told
chosen go None at w = splits at
chosen go (Some true) at w = go Running w
chosen go (Some false) at w = go (Skipping 0 true) w

abbrev pub by_way : (Mode → List Word → Told) → Option Bool → ℕ → Step → List Word → Told
by_way go way at next w = go Running w
by_way go way at after_else w = go (Skipping 0 true) w
by_way go way at after_end w = go (Skipping 0 false) w
by_way go way at both w = chosen go way at w
by_way go way at (ends fault b) w = dies at fault b
by_way go way at stops w = lives

-- at an opcode, after which a branch goes on by `go`
abbrev pub along : (Mode → List Word → Told) → Option Bool → ℕ → Op → Mode → List Word → Told
along go way at op Running w = by_way go way at (turn_of op w).0 (turn_of op w).1
along go way at op (Skipping depth to_else) w = go (mode_after op depth to_else) w
along go way at op Lost w = lives

abbrev pub if_false : ℕ → List ℕ → Option Bool → Told
if_false at b (Some false) = dies at FalseLeft b
if_false at b o = lives

-- one entry is left: a false one ends the branch
abbrev pub single_end : ℕ → Word → Told
single_end at x = if_false at (constant x) (truth_of x)

-- after the last opcode one element is left (BIP 141)
abbrev pub last_end : ℕ → Mode → List Word → Told
last_end at Running (x ∷ []) = single_end at x
last_end at Running (x ∷ y ∷ w) = dies at TwoLeft (shown x y)
last_end at mode w = lives

-- the branch that makes these choices, from an opcode on
abbrev pub fate_of : List Choice → List Op → ℕ → Mode → List Word → Told
fate_of choices [] at mode w = last_end at mode w
fate_of choices (op ∷ ops) at mode w = along (fate_of choices ops (at + 1)) (way_at choices at) at op mode w

-- how a branch goes on
abbrev pub passed_on : (Mode → List Word → Told) → Passed → List Word → Told
passed_on go (Goes mode) w = go mode w
passed_on go (Stops fate) w = told fate

abbrev pub IsLow : ℕ → Passed → Type 0
IsLow most (Goes mode) = depth_of mode ≤ most
IsLow most (Stops fate) = Unit {0}

-- whether the innermost branch goes as chosen, if a way is chosen
abbrev pub agrees : Option Bool → List Bool → Bool
agrees None branches = true
agrees (Some way) [] = false
agrees (Some true) (b ∷ branches) = b
agrees (Some false) (b ∷ branches) = not b

-- whether a run of consensus ends well, and goes as chosen at each IF and NOTIF, from an opcode on
abbrev pub ends_well_by : Oracle → Spend → List Choice → List Op → ℕ → State → Bool
ends_well_by holds s choices [] at p = is_clean_end p.branches p.stack
ends_well_by holds s choices (op ∷ ops) at p = onward (step holds s op p) (λ q. agrees (way_at choices at) q.branches && ends_well_by holds s choices ops (at + 1) q)

-- nobody can spend by the branch that makes these choices in consensus: whichever signatures anybody can make, no witness is taken by a run that goes this way, in any transaction
abbrev pub NobodySpendsBy : List Choice → List Op → Type 0
NobodySpendsBy choices ops = (holds : Oracle) (s : Spend) (witness : List (List ℕ))
    → (not (list_any is_long witness) && ends_well_by holds s choices ops 0 (record { branches = []; stack = reverse witness; counted = 0 })) ≡ false
