-- Where a branch goes after an opcode, by what its stack has; and where it ends by a rule that is stricter than consensus.
use Rattle.std.specs.Prelude.{◌≡◌, ℕ, ◌≤◌, Bool, true, false, ◌&&◌, ◌==◌, not, nat_lt, is_some, if◌then◌else◌, List, [], ◌∷◌, length, take, drop, Option, Some, None, Result, Ok, Err}
use Rattle.std.specs.List.{list_any}
use Rattle.script.specs.declared.opcode.Op.{Op}
use Rattle.script.specs.declared.opcode.Op.TheVariants.{Push, Number, If, NotIf, Else, EndIf, Drop, Dup, Swap, Size, Equal, EqualVerify, Hash160, CheckSig, CheckMultiSig, CheckLockTimeVerify, CheckSequenceVerify}
use Rattle.script.specs.Number.{number_of}
use Rattle.script.specs.Token.{is_key}
use Rattle.strictness.specs.declared.branches.Turn.{Turn}
use Rattle.strictness.specs.declared.branches.Turn.TheVariants as turns
use Rattle.strictness.specs.declared.branches.Count.{Count}
use Rattle.strictness.specs.declared.branches.Count.TheVariants as counts
use Rattle.strictness.specs.declared.faults.Fault.{Fault}
use Rattle.strictness.specs.declared.faults.Fault.TheVariants as faults
use Rattle.strictness.specs.Words.{Word, known, answer, first_bytes, bytes_of, constant, shown, known_flag, top_of, below, truth_of, size_of, hash_of, equal_of}
use Rattle.strictness.specs.Values.{natural_of, is_der}
use Rattle.strictness.specs.Machine.{count_of as count_in}

-- to the next opcode; after the ELSE; after the ENDIF; both to the next opcode and after the ELSE; nowhere, as in consensus, by a fault of these bytes; nowhere, by a stricter rule, or the script does not determine where
pub data Step : Type 0 where
  next : Step
  after_else : Step
  after_end : Step
  both : Step
  ends : Fault → List ℕ → Step
  stops : Step

abbrev pub step_of : Turn → Step
step_of turns.Next = next
step_of turns.AfterElse = after_else
step_of turns.AfterEndIf = after_end
step_of turns.Splits = both
step_of (turns.Ends fault bytes) = ends fault (bytes_of bytes)
step_of (turns.EndsStrictly rule bytes) = stops
step_of turns.Lost = stops

abbrev pub count_step : Count → Result ℕ Step
count_step (counts.Of n) = Ok n
count_step (counts.Ends t) = Err (step_of t)

-- a count is at most this many
abbrev pub IsWithin : ℕ → Count → Type 0
IsWithin limit (counts.Of n) = n ≤ limit
IsWithin limit (counts.Ends t) = Unit {0}

-- a turn and the stack after it, of which nothing is said where the branch ends
abbrev pub IsTurn : Step → List Word → Step × List Word → Type 0
IsTurn (ends fault b) w t = t.0 ≡ ends fault b
IsTurn stops w t = t.0 ≡ stops
IsTurn next w t = t ≡ (next, w)
IsTurn after_else w t = t ≡ (after_else, w)
IsTurn after_end w t = t ≡ (after_end, w)
IsTurn both w t = t ≡ (both, w)

abbrev pub goes : List Word → Step × List Word
goes w = (next, w)

-- at an IF or NOTIF that runs where this is the condition's truth
abbrev pub if_truth : Bool → Option Bool → Step
if_truth runs None = both
if_truth runs (Some true) = if runs then next else after_else
if_truth runs (Some false) = if runs then after_else else next

-- at EQUALVERIFY, of which these bytes are shown
abbrev pub if_held : List ℕ → Option Bool → Step
if_held b (Some false) = ends faults.Unequal b
if_held b o = next

-- bytes of the script that consensus takes as no signature of any key (BIP 66)
abbrev pub is_refused : Word → Bool
is_refused (known b) = not (length b == 0) && not (is_der b)
is_refused x = false

abbrev pub is_no_key : Word → Bool
is_no_key (known b) = not (is_key b)
is_no_key x = false

abbrev pub signature_turn : Word → List Word → Step × List Word
signature_turn (known b) w = if length b == 0 then goes (known_flag false ∷ w) else (stops, w)
signature_turn x w = goes (answer ∷ w)

-- CHECKSIG, by the key, the signature and what is below
abbrev pub check_sig : Word → Word → List Word → Step × List Word
check_sig key signature w = if is_refused signature then (ends faults.Signature (constant signature), w) else if is_no_key key then (stops, w) else signature_turn signature w

-- the number that consensus takes is one here if it is minimally encoded
abbrev pub count_by : List ℕ → Option ℕ → Result ℕ Step
count_by b None = Err (ends faults.Count b)
count_by b (Some n) = if is_some (number_of 4 b) then Ok n else Err stops

-- the count from 0 to a limit that an entry encodes
abbrev pub count_of : ℕ → Word → Result ℕ Step
count_of limit (known b) = count_by b (count_in limit b)
count_of limit x = Err stops

abbrev pub with_count : Result ℕ Step → (ℕ → Step × List Word) → Step × List Word
with_count (Ok n) f = f n
with_count (Err s) f = (s, [])

-- an item that is not empty (BIP 147)
abbrev pub is_full : Word → Bool
is_full (known b) = not (length b == 0)
is_full x = false

abbrev pub signatures_answer : ℕ → Word
signatures_answer m = if m == 0 then known_flag true else answer

-- whether consensus refuses the signature on top, of this many
abbrev pub has_refused : ℕ → List Word → Bool
has_refused m w = nat_lt 0 m && is_refused (top_of w)

-- by the topmost signature and the extra item
abbrev pub extra_turn : Bool → Bool → ℕ → Word → Word → List Word → Step × List Word
extra_turn refused no_key m signature extra w = if refused then (ends faults.Signature (constant signature), w) else if is_full extra then (ends faults.Extra (constant extra), w)
    else if no_key then (stops, w) else goes (signatures_answer m ∷ w)

abbrev pub signatures_turn : Bool → ℕ → List Word → Step × List Word
signatures_turn no_key m w = extra_turn (has_refused m w) no_key m (top_of w) (top_of (drop m w)) (below (drop m w))

abbrev pub keys_turn : ℕ → List Word → Step × List Word
keys_turn n w = with_count (count_of n (top_of (drop n w))) (λ m. signatures_turn (list_any is_no_key (take n w)) m (below (drop n w)))

-- CHECKMULTISIG: the number of keys, the keys, the number of signatures, the signatures, and the extra item
abbrev pub check_multi_sig : List Word → Step × List Word
check_multi_sig w = with_count (count_of 20 (top_of w)) (λ n. keys_turn n (below w))

abbrev pub lock_by : List ℕ → Option ℕ → Step
lock_by b None = ends faults.Lock b
lock_by b (Some n) = if is_some (number_of 5 b) then next else stops

-- CHECKLOCKTIMEVERIFY and CHECKSEQUENCEVERIFY, which leave the lock
abbrev pub check_lock : Word → List Word → Step × List Word
check_lock (known b) w = (lock_by b (natural_of 5 b), known b ∷ w)
check_lock x w = goes (x ∷ w)

abbrev pub turn_of : Op → List Word → Step × List Word
turn_of (Push b) w = goes (known (first_bytes b) ∷ w)
turn_of (Number n) w = goes (known (first_bytes (n ∷ [])) ∷ w)
turn_of If w = (if_truth true (truth_of (top_of w)), below w)
turn_of NotIf w = (if_truth false (truth_of (top_of w)), below w)
turn_of Else w = (after_end, w)
turn_of EndIf w = goes w
turn_of Drop w = goes (below w)
turn_of Dup w = goes (top_of w ∷ top_of w ∷ below w)
turn_of Swap w = goes (top_of (below w) ∷ top_of w ∷ below (below w))
turn_of Size w = goes (size_of (top_of w) ∷ top_of w ∷ below w)
turn_of Equal w = goes (equal_of (top_of (below w)) (top_of w) ∷ below (below w))
turn_of EqualVerify w = (if_held (shown (top_of w) (top_of (below w))) (truth_of (equal_of (top_of (below w)) (top_of w))), below (below w))
turn_of Hash160 w = goes (hash_of (top_of w) ∷ below w)
turn_of CheckSig w = check_sig (top_of w) (top_of (below w)) (below (below w))
turn_of CheckMultiSig w = check_multi_sig w
turn_of CheckLockTimeVerify w = check_lock (top_of w) (below w)
turn_of CheckSequenceVerify w = check_lock (top_of w) (below w)
