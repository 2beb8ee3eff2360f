-- What one opcode does when it runs: by cases, after the table of opcodes (BIP 65, 112, 141, 147).
use Rattle.std.specs.Prelude.{ℕ, ◌+◌, ◌%◌, ◌/◌, ◌^◌, Bool, true, false, ◌&&◌, ◌||◌, not, nat_lt, nat_le, ◌==◌, if◌then◌else◌, List, [], ◌∷◌, length, take, drop, reverse, Option, Result, Ok, Err, ok_or}
use Rattle.std.specs.Str.{bytes_eq}
use Rattle.std.specs.List.{list_all}
use Rattle.digest.specs.Hash.{hash160}
use Rattle.script.specs.declared.opcode.Op.{Op}
use Rattle.script.specs.declared.opcode.Op.TheVariants.{Push, Number as SmallNumber, If, NotIf, Else, EndIf, Drop, Dup, Swap, Size, Equal, EqualVerify, Hash160, CheckSig, CheckMultiSig, CheckLockTimeVerify, CheckSequenceVerify}
use Rattle.script.specs.declared.spending.Spend.{Spend}
use Rattle.script.specs.declared.jumps.Jump.{Jump}
use Rattle.script.specs.declared.jumps.Jump.TheVariants.{Next, AfterElse, AfterEndIf}
use Rattle.script.specs.declared.stops.Kind.{Kind}
use Rattle.script.specs.declared.stops.Kind.TheVariants.{Verify, Number, KeyCount, SigCount, TokenForm, KeyForm, Extra, LockTime, Sequence}
use Rattle.script.specs.declared.stops.Cause.{Cause}
use Rattle.script.specs.declared.stops.Cause.TheVariants.{MissingOperand, FailedCheck, TooManyOps}
use Rattle.script.specs.declared.num.Number.{Number as Signed}
use Rattle.script.specs.declared.limits.TheConstants.{LOCKTIME_THRESHOLD, MAX_PUBKEYS_PER_MULTISIG, MAX_OPS_PER_SCRIPT}
use Rattle.script.specs.Number.{number_of, minimal_bytes_of}
use Rattle.script.specs.Token.{token_of, is_key, is_signature, assigned}

-- the elements of a stack, the top first
abbrev pub Elements : Type 0
Elements = List (List ℕ)

-- continues if a step has a result
infixl 10 ◌>>=◌
abbrev pub ◌>>=◌ : {A B E : Type 0} → Result A E → (A → Result B E) → Result B E
(Ok x) >>= f = f x
(Err c) >>= f = Err c

-- continues if a check holds
abbrev pub result_if : {A E : Type 0} → Bool → E → Result A E → Result A E
result_if true c r = r
result_if false c r = Err c

-- false is the empty item, zero bytes only, or zero bytes followed by a last byte 80 (hexadecimal)
abbrev pub truth : List ℕ → Bool
truth [] = false
truth (b ∷ []) = not (b == 0 || b == 0x80)
truth (b ∷ bs) = not (b == 0) || truth bs

-- the item that a test pushes
abbrev pub flag : Bool → List ℕ
flag true = 1 ∷ []
flag false = []

-- the number of an item, or the failed check
abbrev pub number_or_failure : Option Signed → Result Signed Cause
number_or_failure o = ok_or o (FailedCheck Number)

-- a number that is not negative
abbrev pub magnitude_or_failure : Kind → Signed → Result ℕ Cause
magnitude_or_failure kind z = result_if (not z.negative) (FailedCheck kind) (Ok z.magnitude)

-- a number from 0 to a limit
abbrev pub is_count : ℕ → Signed → Bool
is_count limit z = not z.negative && nat_le z.magnitude limit

abbrev pub count_or_failure : ℕ → Kind → Signed → Result ℕ Cause
count_or_failure limit kind z = result_if (is_count limit z) (FailedCheck kind) (Ok z.magnitude)

-- the n topmost elements, and the others
abbrev pub top_elements : ℕ → Elements → Result (Elements × Elements) Cause
top_elements n xs = result_if (nat_le n (length xs)) MissingOperand (Ok (take n xs, drop n xs))

-- the topmost element, and the others
abbrev pub top_element : Elements → Result (List ℕ × Elements) Cause
top_element [] = Err MissingOperand
top_element (x ∷ stack) = Ok (x, stack)

-- a bit of a number
abbrev pub bit_at : ℕ → ℕ → Bool
bit_at k n = n / 2 ^ k % 2 == 1

-- both or neither
abbrev pub alike : Bool → Bool → Bool
alike a b = if a then b else not b

-- an absolute lock passes: it is of the same kind as the transaction's lock time and not above it, and the input is not final (BIP 65)
unfoldable pub lock_passes : Spend → ℕ → Bool
lock_passes s n = alike (nat_lt n LOCKTIME_THRESHOLD) (nat_lt s.lock_time LOCKTIME_THRESHOLD)
    && nat_le n s.lock_time && not (s.sequence == 0xffffffff)

-- a relative lock passes: it is disabled, or the transaction has version 2 or above, the input's sequence is a lock of the same kind,
-- and the lock is not above it (BIP 112)
unfoldable pub age_passes : Spend → ℕ → Bool
age_passes s n = bit_at 31 n || (nat_le 2 s.version && not (bit_at 31 s.sequence)
    && alike (bit_at 22 s.sequence) (bit_at 22 n) && nat_le (n % 2 ^ 16) (s.sequence % 2 ^ 16))

-- what an opcode leaves: where the run goes, the elements, and the number of keys that it counted
pub record Effect : Type 0 where
  pub jump : Jump
  pub stack : Elements
  pub keys : ℕ

-- goes on to the next opcode, with these elements
abbrev pub plain : Elements → Result Effect Cause
plain stack = Ok (record { jump = Next; stack = stack; keys = 0 })

-- the branch runs, or it does not
abbrev pub branch_effect : Bool → Elements → Result Effect Cause
branch_effect true stack = plain stack
branch_effect false stack = Ok (record { jump = AfterElse; stack = stack; keys = 0 })

-- CHECKSIG, given the key and the signature
abbrev pub check_sig_effect : Spend → List ℕ → List ℕ → Elements → Result Effect Cause
check_sig_effect spend key sig stack = result_if (is_signature sig) (FailedCheck TokenForm)
    (result_if (is_key key) (FailedCheck KeyForm)
    (plain (flag (bytes_eq sig (token_of key spend.digest)) ∷ stack)))

-- CHECKMULTISIG, given the keys and the signatures, the deepest first, and the extra item
abbrev pub check_sigs_effect : Spend → Elements → Elements → List ℕ → Elements → Result Effect Cause
check_sigs_effect s ks sigs extra xs =
    result_if (list_all is_signature sigs) (FailedCheck TokenForm)
    (result_if (list_all is_key ks) (FailedCheck KeyForm)
    (result_if (length extra == 0) (FailedCheck Extra)
    (Ok (record { jump = Next; stack = flag (assigned sigs ks s.digest) ∷ xs; keys = length ks }))))

-- CHECKMULTISIG, where `many` is the number of opcodes and keys counted so far, this opcode included
unfoldable pub multi_sig : Spend → ℕ → Elements → Result Effect Cause
multi_sig spend many stack = do
  (top, below) ← top_element stack
  z ← number_or_failure (number_of 4 top)
  n ← count_or_failure MAX_PUBKEYS_PER_MULTISIG KeyCount z
  (keys, rest) ← result_if (nat_le (many + n) MAX_OPS_PER_SCRIPT) TooManyOps (top_elements n below)
  (second, rest') ← top_element rest
  y ← number_or_failure (number_of 4 second)
  m ← count_or_failure n SigCount y
  (sigs, rest'') ← top_elements m rest'
  (extra, others) ← top_element rest''
  check_sigs_effect spend (reverse keys) (reverse sigs) extra others

-- a check of the top element, which stays, as a lock of this kind
abbrev pub lock_effect : Kind → (ℕ → Bool) → List ℕ → Elements → Result Effect Cause
lock_effect kind passes x stack = do
  z ← number_or_failure (number_of 5 x)
  n ← magnitude_or_failure kind z
  result_if (passes n) (FailedCheck kind) (plain (x ∷ stack))

-- what an opcode does to the elements, where `counted` is the number of opcodes and keys counted so far, this opcode included
unfoldable pub effect : Spend → ℕ → Op → Elements → Result Effect Cause
effect spend counted (Push item) stack = plain (item ∷ stack)
effect spend counted (SmallNumber n) stack = plain ((n ∷ []) ∷ stack)
effect spend counted If (x ∷ stack) = branch_effect (truth x) stack
effect spend counted NotIf (x ∷ stack) = branch_effect (not (truth x)) stack
effect spend counted Else stack = Ok (record { jump = AfterEndIf; stack = stack; keys = 0 })
effect spend counted EndIf stack = plain stack
effect spend counted Drop (x ∷ stack) = plain stack
effect spend counted Dup (x ∷ stack) = plain (x ∷ x ∷ stack)
effect spend counted Swap (x ∷ y ∷ stack) = plain (y ∷ x ∷ stack)
effect spend counted Size (x ∷ stack) = plain (minimal_bytes_of (length x) ∷ x ∷ stack)
effect spend counted Equal (x ∷ y ∷ stack) = plain (flag (bytes_eq x y) ∷ stack)
effect spend counted EqualVerify (x ∷ y ∷ stack) =
    result_if (bytes_eq x y) (FailedCheck Verify) (plain stack)
effect spend counted Hash160 (x ∷ stack) = plain (hash160 x ∷ stack)
effect spend counted CheckSig (key ∷ sig ∷ stack) = check_sig_effect spend key sig stack
effect spend counted CheckMultiSig stack = multi_sig spend counted stack
effect s counted CheckLockTimeVerify (x ∷ stack) = lock_effect LockTime (lock_passes s) x stack
effect s counted CheckSequenceVerify (x ∷ stack) = lock_effect Sequence (age_passes s) x stack
-- every other case: the opcode needs more elements than there are
effect spend counted op stack = Err MissingOperand
