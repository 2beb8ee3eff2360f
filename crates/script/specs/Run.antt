-- Runs of a script, computed: how a run ends, opcode by opcode. `Clean` says the same as a relation.
use Rattle.std.specs.Prelude.{◌≡◌, ℕ, zero, suc, ◌+◌, max, Bool, true, false, nat_lt, nat_le, if◌then◌else◌, List, [], ◌∷◌, length, reverse, Result, Ok, Err}
use Rattle.std.specs.List.{list_any}
use Rattle.script.specs.declared.opcode.Op.{Op}
use Rattle.script.specs.declared.opcode.Op.TheVariants.{If, NotIf, Else, EndIf}
use Rattle.script.specs.declared.spending.Spend.{Spend}
use Rattle.script.specs.declared.stops.Cause.{Cause}
use Rattle.script.specs.declared.stops.Cause.TheVariants.{OpenBranch, TooManyOps, StackTooTall, ItemTooLong, NotOneValue, FalseEnd}
use Rattle.script.specs.declared.limits.TheConstants.{MAX_SCRIPT_ELEMENT_SIZE, MAX_OPS_PER_SCRIPT, MAX_STACK_SIZE}
use Rattle.script.specs.Spelling.{code_of}
use Rattle.script.specs.declared.jumps.Jump.{Jump}
use Rattle.script.specs.declared.jumps.Jump.TheVariants.{Next, AfterElse, AfterEndIf}
use Rattle.script.specs.Step.{Elements, Effect, effect, truth, result_if, ◌>>=◌}

-- 1 for an opcode that counts, whose byte is above 60 (hexadecimal), else 0
abbrev pub op_count : Op → ℕ
op_count op = if nat_lt 0x60 (code_of op) then 1 else 0

-- the opcodes of a list that count
abbrev pub counted_in : List Op → ℕ
counted_in [] = 0
counted_in (op ∷ ops) = op_count op + counted_in ops

-- how many of these opcodes come up to and including the branch's ENDIF, or its ELSE if `stop` is true and that comes first; all
-- of them where neither comes. `depth` IFs inside the branch are open
abbrev pub skip_length : Bool → ℕ → List Op → ℕ
skip_length stop depth [] = 0
skip_length stop depth (If ∷ rest) = suc (skip_length stop (suc depth) rest)
skip_length stop depth (NotIf ∷ rest) = suc (skip_length stop (suc depth) rest)
skip_length stop zero (EndIf ∷ rest) = 1
skip_length stop (suc depth) (EndIf ∷ rest) = suc (skip_length stop depth rest)
skip_length true zero (Else ∷ rest) = 1
skip_length stop depth (op ∷ rest) = suc (skip_length stop depth rest)

-- how many opcodes a run jumps over, of those that follow
abbrev pub jump_length : Jump → List Op → ℕ
jump_length Next rest = 0
jump_length AfterElse rest = skip_length true 0 rest
jump_length AfterEndIf rest = skip_length false 0 rest

-- the IFs that are open after an opcode, the innermost first, each with whether its ELSE has come
abbrev pub open_ifs_after : Op → List Bool → Result (List Bool) Cause
open_ifs_after If ifs = Ok (false ∷ ifs)
open_ifs_after NotIf ifs = Ok (false ∷ ifs)
open_ifs_after Else (false ∷ ifs) = Ok (true ∷ ifs)
open_ifs_after Else ifs = Err OpenBranch
open_ifs_after EndIf (b ∷ ifs) = Ok ifs
open_ifs_after EndIf [] = Err OpenBranch
open_ifs_after op ifs = Ok ifs

-- whether an opcode fits the open IFs, and those that are open after it
abbrev pub IsOpened : Op → List Bool → List Bool → Bool → Type 0
IsOpened op old new true = open_ifs_after op old ≡ Ok new
IsOpened op old new false = open_ifs_after op old ≡ Err OpenBranch

-- the state of a run as it comes to an opcode of the list
pub record RunState : Type 0 where
  -- how many opcodes it still jumps over
  pub ahead : ℕ
  pub stack : Elements
  -- the opcodes counted so far, with the keys of the CHECKMULTISIGs that ran
  pub counted : ℕ
  -- the IFs that are open here: a fact of the list alone
  pub open_ifs : List Bool
  -- the greatest number of elements so far
  pub height : ℕ

-- after an opcode that ran: there are at most 1,000 elements, and the greatest number is updated
abbrev pub state_after_effect : List Op → ℕ → List Bool → ℕ → Effect → Result RunState Cause
state_after_effect rest counted ifs height e =
    result_if (nat_le (length e.stack) MAX_STACK_SIZE) StackTooTall (Ok (record {
      ahead = jump_length e.jump rest;
      stack = e.stack;
      counted = counted + e.keys;
      open_ifs = ifs;
      height = max height (length e.stack);
    }))

-- an opcode is jumped over, or run
abbrev pub state_after_skip_or_run : Spend → Op → List Op → ℕ → RunState → ℕ → List Bool
    → Result RunState Cause
state_after_skip_or_run spend op rest (suc n) p counted ifs =
    Ok (record p { ahead = n; counted = counted; open_ifs = ifs })
state_after_skip_or_run spend op rest zero p counted ifs =
    effect spend counted op p.stack >>= state_after_effect rest counted ifs p.height

-- past one opcode, which is followed by these
unfoldable pub state_after : Spend → Op → List Op → RunState → Result RunState Cause
state_after s op rest p = result_if (nat_le (p.counted + op_count op) MAX_OPS_PER_SCRIPT) TooManyOps
    (open_ifs_after op p.open_ifs
    >>= state_after_skip_or_run s op rest p.ahead p (p.counted + op_count op))

-- how a run ends: clean, with the counted opcodes and the greatest number of elements, or stopped, with the position and the cause
pub data Outcome : Type 0 where
  Clean : (counted height : ℕ) → Outcome
  Stopped : (at : ℕ) (cause : Cause) → Outcome

-- the end of the list: no IF is open, and there is one true element
abbrev pub at_end : ℕ → List Bool → Elements → ℕ → ℕ → Outcome
at_end at (b ∷ ifs) stack counted height = Stopped at OpenBranch
at_end at [] (x ∷ []) counted height = if truth x then Clean counted height else Stopped at FalseEnd
at_end at [] stack counted height = Stopped at NotOneValue

-- continues from a state, or stops at this position
abbrev pub onward : ℕ → Result RunState Cause → (RunState → Outcome) → Outcome
onward at (Ok p) go = go p
onward at (Err c) go = Stopped at c

-- the outcome from a position on, where these opcodes are left
abbrev pub outcome_from : Spend → ℕ → List Op → RunState → Outcome
outcome_from s at [] p = at_end at p.open_ifs p.stack p.counted p.height
outcome_from s at (op ∷ rest) p = onward at (state_after s op rest p) (outcome_from s (at + 1) rest)

-- the state in which a run starts, on these elements
abbrev pub start : Elements → RunState
start stack = record { ahead = 0; stack = stack; counted = 0; open_ifs = []; height = length stack }

-- an item has more than 520 bytes
abbrev pub is_long : List ℕ → Bool
is_long item = nat_lt MAX_SCRIPT_ELEMENT_SIZE (length item)

-- how a script runs on the items of a witness, of which the last is the top
abbrev pub outcome : Spend → List Op → List (List ℕ) → Outcome
outcome spend ops witness = if list_any is_long witness then Stopped 0 ItemTooLong
    else outcome_from spend 0 ops (start (reverse witness))
