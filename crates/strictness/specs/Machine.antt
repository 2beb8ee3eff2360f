-- How consensus runs a version 0 witness script of this table's opcodes: BIPs 65, 66, 112, 141 and 147, and the rules of scripts from before. Nothing in it is relay policy.
use Rattle.std.specs.Prelude.{◌≡◌, ℕ, ◌+◌, Bool, true, false, ◌&&◌, not, nat_lt, nat_le, ◌==◌, if◌then◌else◌, List, [], ◌∷◌, length, take, drop, reverse, Option, Some, None}
use Rattle.std.specs.List.{list_any}
use Rattle.std.specs.Str.{bytes_eq}
use Rattle.digest.specs.Hash.{hash160}
use Rattle.script.specs.declared.opcode.Op.{Op}
use Rattle.script.specs.declared.opcode.Op.TheVariants.{Push, Number, If, NotIf, Else, EndIf, Drop, Dup, Swap, Size, Equal, EqualVerify, Hash160, CheckSig, CheckMultiSig, CheckLockTimeVerify, CheckSequenceVerify}
use Rattle.script.specs.declared.spending.Spend.{Spend}
use Rattle.script.specs.declared.limits.TheConstants.{MAX_OPS_PER_SCRIPT, MAX_STACK_SIZE, MAX_PUBKEYS_PER_MULTISIG}
use Rattle.script.specs.Number.{minimal_bytes_of}
use Rattle.script.specs.Step.{Elements, truth, flag, lock_passes, age_passes}
use Rattle.script.specs.Run.{op_count, is_long}
use Rattle.strictness.specs.Values.{natural_of, is_der}

-- whether a signature in DER is one of a key over the transaction that spends (BIP 143): by the key and the signature. Any test may stand for it
abbrev pub Oracle : Type 0
Oracle = List ℕ → List ℕ → Bool

-- goes on if a step has a result; a run fails for good where there is none
infixl 10 ◌>>=◌
abbrev pub ◌>>=◌ : {A B : Type 0} → Option A → (A → Option B) → Option B
(Some x) >>= f = f x
None >>= f = None

-- goes on if a test passes
abbrev pub only_if : {A : Type 0} → Bool → Option A → Option A
only_if true o = o
only_if false o = None

-- the topmost element, and the others
abbrev pub topmost : Elements → Option (List ℕ × Elements)
topmost [] = None
topmost (x ∷ stack) = Some (x, stack)

-- the n topmost elements, and the others
abbrev pub top_elements : ℕ → Elements → Option (Elements × Elements)
top_elements n stack = only_if (nat_le n (length stack)) (Some (take n stack, drop n stack))

-- a count of keys or signatures, of at most four bytes
abbrev pub count_of : ℕ → List ℕ → Option ℕ
count_of most b = natural_of 4 b >>= λ n. only_if (nat_le n most) (Some n)

-- the answer of a check: the empty signature is false for each key, and one that is not in DER fails (BIP 66). A key of any form is asked about, and a false answer needs no
-- empty signature: WITNESS_PUBKEYTYPE and NULLFAIL are policy
abbrev pub answer_of : Oracle → List ℕ → List ℕ → Option Bool
answer_of holds key sig = if length sig == 0 then Some false else only_if (is_der sig) (Some (holds key sig))

-- the answer of CHECKMULTISIG. The topmost signature is checked with the topmost key, which is then done with; so is the signature if it holds. The answer is false as soon as fewer keys
-- than signatures are left, and signatures that were not checked by then may have any form
abbrev pub answer_of_all : Oracle → Elements → Elements → Option Bool
answer_of_all holds keys [] = Some true
answer_of_all holds [] (sig ∷ sigs) = Some false
answer_of_all holds (key ∷ keys) (sig ∷ sigs) = if nat_lt (length keys) (length sigs) then Some false
    else (answer_of holds key sig >>= λ b. answer_of_all holds keys (if b then sigs else (sig ∷ sigs)))

-- what an opcode leaves: the elements, and the keys that it counted
abbrev pub Left : Type 0
Left = Elements × ℕ

abbrev pub leaves : Elements → Option Left
leaves stack = Some (stack, 0)

-- CHECKMULTISIG, with `counted` opcodes and keys so far, this opcode included. The extra item is empty (BIP 147)
abbrev pub multi_sig : Oracle → ℕ → Elements → Option Left
multi_sig holds counted stack = do
  first ← topmost stack
  n ← count_of MAX_PUBKEYS_PER_MULTISIG first.0
  keys ← only_if (nat_le (counted + n) MAX_OPS_PER_SCRIPT) (top_elements n first.1)
  second ← topmost keys.1
  m ← count_of n second.0
  sigs ← top_elements m second.1
  extra ← topmost sigs.1
  answer ← answer_of_all holds keys.0 sigs.0
  only_if (length extra.0 == 0) (Some (flag answer ∷ extra.1, n))

-- CHECKLOCKTIMEVERIFY and CHECKSEQUENCEVERIFY: a number of at most five bytes that is not negative, and passes (BIP 65, BIP 112); it stays
abbrev pub check_lock : (ℕ → Bool) → List ℕ → Elements → Option Left
check_lock passes x stack = natural_of 5 x >>= λ n. only_if (passes n) (leaves (x ∷ stack))

-- what an opcode leaves that opens, turns and closes no branch
abbrev pub effect : Oracle → Spend → ℕ → Op → Elements → Option Left
effect holds s counted (Push item) stack = leaves (item ∷ stack)
effect holds s counted (Number n) stack = leaves ((n ∷ []) ∷ stack)
effect holds s counted Drop (x ∷ stack) = leaves stack
effect holds s counted Dup (x ∷ stack) = leaves (x ∷ x ∷ stack)
effect holds s counted Swap (x ∷ y ∷ stack) = leaves (y ∷ x ∷ stack)
effect holds s counted Size (x ∷ stack) = leaves (minimal_bytes_of (length x) ∷ x ∷ stack)
effect holds s counted Equal (x ∷ y ∷ stack) = leaves (flag (bytes_eq y x) ∷ stack)
effect holds s counted EqualVerify (x ∷ y ∷ stack) = only_if (bytes_eq y x) (leaves stack)
effect holds s counted Hash160 (x ∷ stack) = leaves (hash160 x ∷ stack)
effect holds s counted CheckSig (key ∷ sig ∷ stack) = answer_of holds key sig >>= λ b. leaves (flag b ∷ stack)
effect holds s counted CheckMultiSig stack = multi_sig holds counted stack
effect holds s counted CheckLockTimeVerify (x ∷ stack) = check_lock (lock_passes s) x stack
effect holds s counted CheckSequenceVerify (x ∷ stack) = check_lock (age_passes s) x stack
-- every other case: the opcode needs more elements than there are
effect holds s counted op stack = None

-- the state of a run
pub record State : Type 0 where
  -- for each open IF, the innermost first, whether its branch runs at this place
  pub branches : List Bool
  -- the top first
  pub stack : Elements
  -- the opcodes above 60 (hexadecimal) so far, also in branches that do not run, and the keys of the CHECKMULTISIGs that ran
  pub counted : ℕ

-- opcodes run where each open branch does
abbrev pub runs : List Bool → Bool
runs [] = true
runs (b ∷ branches) = b && runs branches

-- IF and NOTIF take the top where opcodes run, and else open a branch that does not run. Any element may be a condition: MINIMALIF is policy in version 0
abbrev pub opened : (List ℕ → Bool) → Bool → State → Option State
opened test true p = topmost p.stack >>= λ t. Some (record p { branches = test t.0 ∷ p.branches; stack = t.1 })
opened test false p = Some (record p { branches = false ∷ p.branches })

-- ELSE turns its branch round, however many of them one IF has
abbrev pub turned : State → List Bool → Option State
turned p [] = None
turned p (b ∷ branches) = Some (record p { branches = not b ∷ branches })

abbrev pub closed : State → List Bool → Option State
closed p [] = None
closed p (b ∷ branches) = Some (record p { branches = branches })

-- an opcode that opens, turns and closes no branch
abbrev pub ran : Oracle → Spend → Op → Bool → State → Option State
ran holds s op true p = effect holds s p.counted op p.stack >>= λ l. Some (record p { stack = l.0; counted = p.counted + l.1 })
ran holds s op false p = Some p

abbrev pub past : Oracle → Spend → Op → State → Option State
past holds s If p = opened truth (runs p.branches) p
past holds s NotIf p = opened (λ x. not (truth x)) (runs p.branches) p
past holds s Else p = turned p p.branches
past holds s EndIf p = closed p p.branches
past holds s op p = ran holds s op (runs p.branches) p

-- at most 201 opcodes and keys are counted
abbrev pub with_count : Op → State → Option State
with_count op p = only_if (nat_le (p.counted + op_count op) MAX_OPS_PER_SCRIPT) (Some (record p { counted = p.counted + op_count op }))

-- at most 1,000 elements are on the stack
abbrev pub if_low : State → Option State
if_low p = only_if (nat_le (length p.stack) MAX_STACK_SIZE) (Some p)

abbrev pub step : Oracle → Spend → Op → State → Option State
step holds s op p = with_count op p >>= past holds s op >>= if_low

abbrev pub onward : Option State → (State → Bool) → Bool
onward None go = false
onward (Some p) go = go p

-- the end: each IF has its ENDIF, and one element is left (BIP 141), which is true
abbrev pub is_clean_end : List Bool → Elements → Bool
is_clean_end [] (x ∷ []) = truth x
is_clean_end branches stack = false

-- whether a run ends well, where these opcodes are left
abbrev pub ends_well : Oracle → Spend → List Op → State → Bool
ends_well holds s [] p = is_clean_end p.branches p.stack
ends_well holds s (op ∷ ops) p = onward (step holds s op p) (ends_well holds s ops)

-- whether consensus takes a witness: each item has at most 520 bytes (BIP 141), the last one is the top, and the run ends well
abbrev pub is_taken : Oracle → Spend → List Op → List (List ℕ) → Bool
is_taken holds s ops witness = not (list_any is_long witness) && ends_well holds s ops (record { branches = []; stack = reverse witness; counted = 0 })

-- nobody can spend by the script in consensus: whichever signatures anybody can make, no witness is taken in any transaction
abbrev pub NobodySpends : List Op → Type 0
NobodySpends ops = (holds : Oracle) (s : Spend) (witness : List (List ℕ)) → is_taken holds s ops witness ≡ false
