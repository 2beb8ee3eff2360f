-- Runs of a script in the standard's own terms (BIP 141, 65, 112, 147). There are steps between positions of the list of opcodes, chains
-- of steps, clean runs, and the first fault of any other run. The partners of IF, NOTIF, ELSE and ENDIF are found in the list, by nesting.
use Rattle.std.specs.Prelude.{◌≡◌, ◌≢◌, ℕ, ◌+◌, ◌<◌, ◌≤◌, max, Bool, true, false, not, IsTrue, IsFalse, List, [], ◌∷◌, ◌++◌, length, take, drop, reverse, Result, Ok, Err, All, Any, ◌↔◌}
use Rattle.script.specs.declared.opcode.Op.{Op}
use Rattle.script.specs.declared.opcode.Op.TheVariants.{If, NotIf, Else, EndIf}
use Rattle.script.specs.declared.spending.Spend.{Spend}
use Rattle.script.specs.declared.stops.Cause.{Cause}
use Rattle.script.specs.declared.stops.Cause.TheVariants.{OpenBranch, TooManyOps, StackTooTall, ItemTooLong, NotOneValue, FalseEnd}
use Rattle.script.specs.declared.limits.TheConstants.{MAX_SCRIPT_ELEMENT_SIZE, MAX_OPS_PER_SCRIPT, MAX_STACK_SIZE}
use Rattle.script.specs.declared.jumps.Jump.{Jump}
use Rattle.script.specs.declared.jumps.Jump.TheVariants.{Next, AfterElse, AfterEndIf}
use Rattle.script.specs.Step.{Elements, Effect, effect, truth}
use Rattle.script.specs.Token.{assigned, Assigned}
use Rattle.script.specs.Run.{counted_in, jump_length, Clean, Stopped, outcome}

-- the opcode opens a branch
abbrev pub is_opener : Op → Bool
is_opener If = true
is_opener NotIf = true
is_opener op = false

-- the opcode has no partner in the list
abbrev pub is_single : Op → Bool
is_single Else = false
is_single EndIf = false
is_single op = not (is_opener op)

-- a block, in which each IF and NOTIF has its ENDIF; the Bool says whether ELSEs may occur on the block's own level
pub data IsBlock : Bool → List Op → Type 0 where
  no_more : {elses : Bool} → IsBlock elses []
  one_more : {elses : Bool} {op : Op} {rest : List Op} → IsTrue (is_single op) → IsBlock elses rest
      → IsBlock elses (op ∷ rest)
  an_else : {rest : List Op} → IsBlock true rest → IsBlock true (Else ∷ rest)
  a_branch : {elses : Bool} {op : Op} {inner rest : List Op} → IsTrue (is_opener op)
      → IsBlock true inner → IsBlock elses rest → IsBlock elses (op ∷ (inner ++ EndIf ∷ rest))

-- the list begins with a block and then this opcode, and n is the number of opcodes in both
pub record LeadsAfter (elses : Bool) (closer : Op) (list : List Op) (n : ℕ) : Type 0 where
  pub block : List Op
  pub after : List Op
  pub same : list ≡ block ++ closer ∷ after
  pub closed : IsBlock elses block
  pub place : n ≡ length block + 1

-- how many of the following opcodes a run jumps over. Next: none. AfterElse: up to and including the ELSE, or the ENDIF where there is no
-- ELSE. AfterEndIf: up to and including the ENDIF. Where no partner is found, all of them.
pub data Jumps (rest : List Op) : Jump → ℕ → Type 0 where
  onward : Jumps rest Next 0
  after_else : {n : ℕ} → LeadsAfter false Else rest n → Jumps rest AfterElse n
  after_endif_for_else : {n : ℕ} → LeadsAfter false EndIf rest n → Jumps rest AfterElse n
  to_list_end_for_else : ((n : ℕ) → LeadsAfter false Else rest n → ⊥)
      → ((n : ℕ) → LeadsAfter false EndIf rest n → ⊥) → Jumps rest AfterElse (length rest)
  after_endif : {n : ℕ} → LeadsAfter true EndIf rest n → Jumps rest AfterEndIf n
  to_list_end : ((n : ℕ) → LeadsAfter true EndIf rest n → ⊥) → Jumps rest AfterEndIf (length rest)

-- where a chain of steps has come to: the position in the list, the elements, the number of keys of the CHECKMULTISIGs so far, and the
-- greatest number of elements so far
pub record Point : Type 0 where
  pub at : ℕ
  pub stack : Elements
  pub keys : ℕ
  pub height : ℕ

abbrev pub point_with : ℕ → Elements → ℕ → ℕ → Point
point_with at stack keys height = record { at = at; stack = stack; keys = keys; height = height }

-- the start, on the items of a witness, of which the last is the top
abbrev pub start_on : List (List ℕ) → Point
start_on witness = record { at = 0; stack = reverse witness; keys = 0; height = length witness }

-- one step: the opcode at the position has this effect, and the run goes on past what it jumps over
pub record Steps (spend : Spend) (ops : List Op) (x y : Point) : Type 0 where
  pub op : Op
  pub rest : List Op
  pub here : drop x.at ops ≡ op ∷ rest
  pub done : Effect
  pub does : effect spend (counted_in (take (x.at + 1) ops) + x.keys) op x.stack ≡ Ok done
  pub over : ℕ
  pub jumps : Jumps rest done.jump over
  pub leads : y ≡ point_with (x.at + 1 + over) done.stack (x.keys + done.keys)
      (max x.height (length done.stack))

-- a chain of steps, each of which begins before position k and leaves at most 1,000 elements
pub data Chain (spend : Spend) (ops : List Op) (k : ℕ) : Point → Point → Type 0 where
  ends : {x : Point} → Chain spend ops k x x
  goes_on : {x y z : Point} → x.at < k → Steps spend ops x y → length y.stack ≤ MAX_STACK_SIZE
      → Chain spend ops k y z → Chain spend ops k x z

-- the run comes to position k, or jumps over it, and its steps before k lead to this point
pub record RunsTo (spend : Spend) (ops : List Op) (witness : List (List ℕ)) (k : ℕ)
    (x : Point) : Type 0 where
  pub chain : Chain spend ops k (start_on witness) x
  pub reached : k ≤ x.at

-- an IF or NOTIF is still open at the end of the list; where `elses` is false, its ELSE has not come
pub record HasOpen (elses : Bool) (ops : List Op) : Type 0 where
  pub before : List Op
  pub opener : Op
  pub block : List Op
  pub same : ops ≡ before ++ opener ∷ block
  pub opens : IsTrue (is_opener opener)
  pub closed : IsBlock elses block

-- the opcode is allowed after these
abbrev pub MayFollow : List Op → Op → Type 0
MayFollow before Else = HasOpen false before
MayFollow before EndIf = HasOpen true before
MayFollow before op = Unit {0}

-- opcode k is an ELSE or ENDIF that the list up to it does not allow
pub record IsMisplaced (ops : List Op) (k : ℕ) : Type 0 where
  pub op : Op
  pub rest : List Op
  pub here : drop k ops ≡ op ∷ rest
  pub refused : MayFollow (take k ops) op → ⊥

-- no item has more than 520 bytes
abbrev pub AreShort : List (List ℕ) → Type 0
AreShort witness = All (λ item. length item ≤ MAX_SCRIPT_ELEMENT_SIZE) witness

-- the script runs clean on the witness, with this number of counted opcodes, and `height` as the greatest number of elements
pub record IsClean (spend : Spend) (ops : List Op) (witness : List (List ℕ))
    (counted height : ℕ) : Type 0 where
  pub short : AreShort witness
  -- each ELSE and ENDIF has its IF, and no IF a second ELSE
  pub placed : (before rest : List Op) (op : Op) → ops ≡ before ++ op ∷ rest → MayFollow before op
  pub closed : HasOpen true ops → ⊥
  pub keys : ℕ
  pub last : List ℕ
  pub runs : RunsTo spend ops witness (length ops) (point_with (length ops) (last ∷ []) keys height)
  pub holds : IsTrue (truth last)
  pub sum : counted ≡ counted_in ops + keys
  pub limit : counted ≤ MAX_OPS_PER_SCRIPT

-- the opcodes above 60 up to and including opcode k, together with the keys of the CHECKMULTISIGs that ran before it, exceed 201
pub record PassesLimit (spend : Spend) (ops : List Op) (witness : List (List ℕ)) (k : ℕ) : Type 0 where
  pub within : k < length ops
  pub point : Point
  pub runs : RunsTo spend ops witness k point
  pub above : MAX_OPS_PER_SCRIPT < counted_in (take (k + 1) ops) + point.keys

-- the opcode failed with this cause: its own, or more than 1,000 elements
abbrev pub Fails : Result Effect Cause → Cause → Type 0
Fails (Err c) cause = cause ≡ c
Fails (Ok done) cause = (MAX_STACK_SIZE < length done.stack) × (cause ≡ StackTooTall)

-- the run comes to opcode k, which fails
pub record FailsAt (spend : Spend) (ops : List Op) (witness : List (List ℕ)) (k : ℕ) (cause : Cause) : Type 0 where
  pub point : Point
  pub runs : RunsTo spend ops witness k point
  pub comes : point.at ≡ k
  pub op : Op
  pub rest : List Op
  pub here : drop k ops ≡ op ∷ rest
  pub fails : Fails (effect spend (counted_in (take (k + 1) ops) + point.keys) op point.stack) cause

-- the first fault of position k, in this order
pub data FaultAt (spend : Spend) (ops : List Op) (witness : List (List ℕ)) (k : ℕ) : Cause → Type 0 where
  too_many : PassesLimit spend ops witness k → FaultAt spend ops witness k TooManyOps
  misplaced : (PassesLimit spend ops witness k → ⊥) → IsMisplaced ops k → FaultAt spend ops witness k OpenBranch
  failing : {cause : Cause} → (PassesLimit spend ops witness k → ⊥) → (IsMisplaced ops k → ⊥) → FailsAt spend ops witness k cause → FaultAt spend ops witness k cause

-- no position before k has a fault
abbrev pub AreFaultless : Spend → List Op → List (List ℕ) → ℕ → Type 0
AreFaultless spend ops witness k = (j : ℕ) (cause : Cause) → j < k → FaultAt spend ops witness j cause → ⊥

-- the run stops at this position, for this cause. An item that is too long comes first, then the fault of the least position that has one,
-- then what is wrong at the end of the list
pub data StopsAt (spend : Spend) (ops : List Op) (witness : List (List ℕ)) : ℕ → Cause → Type 0 where
  long_item : Any (λ item. MAX_SCRIPT_ELEMENT_SIZE < length item) witness → StopsAt spend ops witness 0 ItemTooLong
  least_fault : {k : ℕ} {cause : Cause} → AreShort witness → AreFaultless spend ops witness k → FaultAt spend ops witness k cause → StopsAt spend ops witness k cause
  open_end : AreShort witness → AreFaultless spend ops witness (length ops) → HasOpen true ops → StopsAt spend ops witness (length ops) OpenBranch
  not_one : {x : Point} → AreShort witness → AreFaultless spend ops witness (length ops) → (HasOpen true ops → ⊥) → RunsTo spend ops witness (length ops) x → length x.stack ≢ 1 → StopsAt spend ops witness (length ops) NotOneValue
  false_end : {x : Point} {last : List ℕ} → AreShort witness → AreFaultless spend ops witness (length ops) → (HasOpen true ops → ⊥) → RunsTo spend ops witness (length ops) x → x.stack ≡ last ∷ [] → IsFalse (truth last) → StopsAt spend ops witness (length ops) FalseEnd

-- each opcode jumps in one way from each place, as far as the function says
abbrev pub JumpIsExact : Type 0
JumpIsExact = (rest : List Op) (move : Jump) (n : ℕ) → Jumps rest move n ↔ (n ≡ jump_length move rest)

-- the function that computes finds exactly the clean runs, with these numbers
abbrev pub CleanIsExact : Type 0
CleanIsExact = (spend : Spend) (ops : List Op) (witness : List (List ℕ)) (counted height : ℕ) → (outcome spend ops witness ≡ Clean counted height) ↔ IsClean spend ops witness counted height

-- and of any other run it finds exactly where it stops and why
abbrev pub StopIsExact : Type 0
StopIsExact = (spend : Spend) (ops : List Op) (witness : List (List ℕ)) (at : ℕ) (cause : Cause) → (outcome spend ops witness ≡ Stopped at cause) ↔ StopsAt spend ops witness at cause

-- the test for an increasing choice of keys is exact
abbrev pub AssignedIsExact : Type 0
AssignedIsExact = (digest : List ℕ) (sigs keys : List (List ℕ)) → IsTrue (assigned sigs keys digest) ↔ Assigned digest sigs keys
