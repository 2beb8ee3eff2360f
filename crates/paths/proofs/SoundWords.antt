-- Where a path stands, for each witness that meets it.
use Rattle.std.specs.Prelude.{◌≡◌, ℕ, ◌+◌, ◌≤◌, Bool, true, not, if◌then◌else◌, List, ◌++◌, length, map, drop, Result, Ok, Err}
use Rattle.script.specs.declared.opcode.Op.{Op}
use Rattle.script.specs.declared.spending.Spend.{Spend}
use Rattle.script.specs.declared.jumps.Jump.{Jump}
use Rattle.script.specs.declared.jumps.Jump.TheVariants.{Next as ToNext, AfterElse as ToElse, AfterEndIf as ToEnd}
use Rattle.script.specs.Step.{Elements, effect}
use Rattle.script.specs.Run.{RunState, counted_in, outcome_from, start}
use Rattle.facts.specs.Meaning.{slot_of, item_for, holds_of, AllStated}
use Rattle.paths.specs.Plain.{State}
use Rattle.paths.specs.Plain.{SymbolicJump}
use Rattle.paths.specs.declared.state.SymbolicJumpOver.TheVariants.{Next, AfterElse, AfterEndIf, Splits}
use Rattle.paths.specs.Plain.{Condition}
use Rattle.paths.specs.declared.state.ConditionOver.TheVariants.{Known, Asked}
use Rattle.paths.specs.Listing.{is_balanced}

-- the value of a result, if it has one, has this property
abbrev pub Gives : {A E : Type 0} → (A → Type 0) → Result A E → Type 0
Gives P (Ok x) = P x
Gives P (Err e) = Unit {0}

-- the elements: those of the symbols, and the slots that were not reached
abbrev pub entries_of : Spend → Elements → State → Elements
entries_of spend w s = map (item_for spend w) s.stack ++ drop s.slots w

-- each item has at most 520 bytes
abbrev pub IsShort : Elements → Type 0
IsShort w = (i : ℕ) → length (slot_of w i) ≤ 520

-- a condition, under a witness
abbrev pub decided_by : Spend → Elements → Condition → Bool
decided_by spend w (Known b) = b
decided_by spend w (Asked fact) = holds_of spend w fact

-- where a run goes, under a witness
abbrev pub move_by : Spend → Elements → SymbolicJump → Jump
move_by spend w Next = ToNext
move_by spend w AfterElse = ToElse
move_by spend w AfterEndIf = ToEnd
move_by spend w (Splits fact runs) = if (if holds_of spend w fact then runs else not runs) then ToNext else ToElse

-- more slots and facts, and the rest but the stack as it was
pub record Grows (s s' : State) : Type 0 where
  pub ahead : s'.ahead ≡ s.ahead
  pub excess : s'.excess ≡ s.excess
  pub keys : s'.keys ≡ s.keys
  pub more : s.slots ≤ s'.slots
  pub facts : (spend : Spend) (w : Elements) → AllStated spend w s'.facts → AllStated spend w s.facts

-- more facts, and the rest as it was
pub record Asks (s s' : State) : Type 0 where
  pub same : s' ≡ record s { facts = s'.facts }
  pub facts : (spend : Spend) (w : Elements) → AllStated spend w s'.facts → AllStated spend w s.facts

-- an opcode, in a script with `counted` counted opcodes, takes the elements of the first state to those of the second, for each witness
-- that meets the second
pub record Follows (counted : ℕ) (op : Op) (s : State) (turn : SymbolicJump) (s' : State) : Type 0 where
  pub ahead : s'.ahead ≡ s.ahead
  pub excess : s'.excess ≡ s.excess
  pub more : s.slots ≤ s'.slots
  pub facts : (spend : Spend) (w : Elements) → AllStated spend w s'.facts → AllStated spend w s.facts
  pub used : ℕ
  pub keys : s'.keys ≡ s.keys + used
  pub few : counted + s.keys ≤ 201 → counted + s'.keys ≤ 201
  pub step : (spend : Spend) (w : Elements) (c : ℕ) → c ≤ counted + s.keys → IsShort w → s'.slots ≤ length w → AllStated spend w s'.facts → effect spend c op (entries_of spend w s) ≡ Ok (record { jump = move_by spend w turn; stack = entries_of spend w s'; keys = used })

-- the place of a run, where `counted` opcodes counted before and these IFs stand open
abbrev pub run_state_of : Spend → Elements → ℕ → List Bool → State → RunState
run_state_of spend w before ifs s = record { ahead = s.ahead; stack = entries_of spend w s; counted = before + s.keys; open_ifs = ifs; height = length w + s.excess }

-- a witness meets what a path asks so far
pub record Fits (spend : Spend) (w : Elements) (s : State) : Type 0 where
  pub enough : s.slots ≤ length w
  pub facts : AllStated spend w s.facts
  pub low : length w + s.excess ≤ 1000
  pub short : IsShort w

-- each run on a witness that meets the path, the top first, reaches the path's state
pub record Comes (ops : List Op) (at : ℕ) (rest : List Op) (s : State) : Type 0 where
  pub ifs : List Bool
  pub balanced : is_balanced rest ifs ≡ true
  pub before : ℕ
  pub total : before + counted_in rest ≡ counted_in ops
  pub few : counted_in ops + s.keys ≤ 201
  pub reached : (spend : Spend) (w : Elements) → Fits spend w s → outcome_from spend 0 ops (start w) ≡ outcome_from spend at rest (run_state_of spend w before ifs s)
