-- What a machine does with one opcode, by the definition of a run.
use Rattle.std.specs.Prelude.{◌≡◌, List, ◌∷◌, Result, Ok, Err, MatchResult}
use Rattle.script.specs.declared.opcode.Op.{Op}
use Rattle.script.specs.declared.spending.Spend.{Spend}
use Rattle.script.specs.declared.stops.Cause.{Cause}
use Rattle.script.specs.Step.{effect, ◌>>=◌}
use Rattle.script.specs.Run.{RunState, state_after, state_after_effect}
use Rattle.machine.specs.declared.halts.Halt.{Halt}
use Rattle.machine.specs.declared.progress.Machine.{Machine}
use Rattle.machine.specs.Doings.{IfStop}
use Rattle.machine.specs.Skips.{ahead_of}

-- the state of a machine, where these opcodes are left
abbrev pub run_state_of : Machine → List Op → RunState
run_state_of m rest = record { ahead = ahead_of m.skip rest; stack = m.stack; counted = m.counted; open_ifs = m.ifs; height = m.height }

-- a state before an opcode leads to the state of the machine after it, or the run stops
abbrev pub ReachesState : (List Op → Result RunState Cause) → Machine → Result (Unit {0}) Halt → Type 0
ReachesState next new r =
    MatchResult r
    (λ _. (rest : List Op) → next rest ≡ Ok (run_state_of new rest))
    (λ h. IfStop h (λ c. (rest : List Op) → next rest ≡ Err c))

-- the machine passes the opcode
abbrev pub IsPassed : Spend → Op → Machine → Machine → Result (Unit {0}) Halt → Type 0
IsPassed spend op old new r = ReachesState (λ rest. state_after spend op rest (run_state_of old (op ∷ rest))) new r

-- the machine runs the opcode, which was counted and whose branch was entered or ended
abbrev pub IsRun : Spend → Op → Machine → Machine → Result (Unit {0}) Halt → Type 0
IsRun spend op old new r = ReachesState (λ rest. effect spend old.counted op old.stack >>= state_after_effect rest old.counted old.ifs old.height) new r
