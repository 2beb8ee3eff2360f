-- What an opcode does to a path: the table of rules, by cases, over any type of constants. Where an opcode has both a dead operand and one
-- that no rule decides, it is dead.
use Rattle.std.specs.Prelude.{ℕ, zero, suc, ◌+◌, Bool, true, false, ◌||◌, not, nat_le, if◌then◌else◌, List, [], ◌∷◌, ◌++◌, reverse, Option, Some, None, Result, Ok, Err}
use Rattle.std.specs.List.{list_any}
use Rattle.script.specs.declared.opcode.Op.{Op}
use Rattle.script.specs.declared.opcode.Op.TheVariants.{Push, Number as SmallNumber, If, NotIf, Else, EndIf, Drop, Dup, Swap, Size, Equal, EqualVerify, Hash160, CheckSig, CheckMultiSig, CheckLockTimeVerify, CheckSequenceVerify}
use Rattle.script.specs.declared.limits.TheConstants.{MAX_PUBKEYS_PER_MULTISIG, MAX_OPS_PER_SCRIPT}
use Rattle.script.specs.Number.{minimal_bytes_of}
use Rattle.script.specs.Step.{◌>>=◌, result_if, flag}
use Rattle.facts.specs.declared.symbols.KeySourceOver.{KeySourceOver}
use Rattle.facts.specs.declared.symbols.KeySourceOver.TheVariants.{Const as FixedKey, Slot as SlotKey}
use Rattle.facts.specs.declared.symbols.FactOver.{FactOver}
use Rattle.facts.specs.declared.symbols.FactOver.TheVariants.{Hash as HashIs, Size as SizeIs, Truth, Is, KeyForm, Form, Token, Assigned, Lock, Age}
use Rattle.facts.specs.declared.symbols.SymOver.{SymOver}
use Rattle.facts.specs.declared.symbols.SymOver.TheVariants.{Slot, Const, HashOf, SizeOf, Holds}
use Rattle.paths.specs.declared.state.StateOver.{StateOver}
use Rattle.paths.specs.declared.state.Halt.{Halt}
use Rattle.paths.specs.declared.state.Halt.TheVariants.{Dead, Undecided, TooManyOps}
use Rattle.paths.specs.declared.state.SymbolicJumpOver.{SymbolicJumpOver}
use Rattle.paths.specs.declared.state.SymbolicJumpOver.TheVariants.{Next, AfterElse, AfterEndIf, Splits}
use Rattle.paths.specs.declared.state.ConditionOver.{ConditionOver}
use Rattle.paths.specs.declared.state.ConditionOver.TheVariants.{Known, Asked}

-- what the rules ask of constants, and of the numbers of absolute and relative locks
pub record Words (C L A : Type 0) : Type 0 where
  -- these bytes
  pub known : List ℕ → C
  -- SIZE and HASH160 of it, and whether two are EQUAL
  pub size : C → Result C Halt
  pub hash : C → Result C Halt
  pub equal : C → C → Result C Halt
  -- whether it counts as true
  pub truth : C → Result Bool Halt
  -- it may be what HASH160 gives, and the number from 0 to 520 whose minimal encoding it is
  pub is_hash : C → Bool
  pub named_size : C → Result (Option ℕ) Halt
  -- every run rejects it as a key, as a signature, as the extra item of CHECKMULTISIG (BIP 147)
  pub is_bad_key : C → Bool
  pub is_bad_signature : C → Bool
  pub is_bad_extra : C → Bool
  -- it is the empty signature
  pub is_no_signature : C → Bool
  -- whether it is empty is known, for the extra item
  pub is_clear_extra : C → Bool
  -- the count from 0 to a limit, and the number of a lock, that it encodes
  pub count : ℕ → C → Result ℕ Halt
  pub lock : C → Result L Halt
  -- a relative lock is disabled (bit 31, BIP 112), and the bits of it that its check reads
  pub is_off : L → Bool
  pub age_bits : L → A

-- what an opcode leaves of a path: a jump and a state, or a halt
abbrev pub StepOver : (C L A : Type 0) → Type 0
StepOver C L A = Result (SymbolicJumpOver C L A × StateOver C L A) Halt

-- the state after, or a halt
abbrev pub AfterOver : (C L A : Type 0) → Type 0
AfterOver C L A = Result (StateOver C L A) Halt

module _ {C L A : Type 0} where
  -- the top symbol, or the next slot if there is none, and the state after
  abbrev pub pop_of : List (SymOver C L A) → StateOver C L A → SymOver C L A × StateOver C L A
  pop_of [] s = (Slot s.slots, record s { stack = []; slots = s.slots + 1 })
  pop_of (x ∷ xs) s = (x, record s { stack = xs })

  abbrev pub pop : StateOver C L A → SymOver C L A × StateOver C L A
  pop s = pop_of s.stack s

  -- n symbols, the topmost first, and the state after
  abbrev pub pops : ℕ → StateOver C L A → List (SymOver C L A) × StateOver C L A
  pops zero s = ([], s)
  pops (suc n) s = ((pop s).0 ∷ (pops n (pop s).1).0, (pops n (pop s).1).1)

  abbrev pub push : SymOver C L A → StateOver C L A → StateOver C L A
  push x s = record s { stack = x ∷ s.stack }

  -- one more fact, with its polarity
  abbrev pub ask : FactOver C L A → Bool → StateOver C L A → StateOver C L A
  ask fact holds s = record s { facts = s.facts ++ record { fact = fact; holds = holds } ∷ [] }

  abbrev pub goes_on : StateOver C L A → StepOver C L A
  goes_on s = Ok (Next, s)

  -- the condition has to hold
  abbrev pub insist : ConditionOver C L A → StateOver C L A → AfterOver C L A
  insist (Known b) s = result_if b Dead (Ok s)
  insist (Asked fact) s = Ok (ask fact true s)

  -- IF (run where the condition is true) and NOTIF (where it is false)
  abbrev pub branch : Bool → ConditionOver C L A → StateOver C L A → StepOver C L A
  branch runs (Known b) s = Ok (if (if b then runs else not runs) then Next else AfterElse, s)
  branch runs (Asked fact) s = Ok (Splits fact runs, s)

  -- where a key comes from
  abbrev pub source_of : SymOver C L A → Result (KeySourceOver C) Halt
  source_of (Const c) = Ok (FixedKey c)
  source_of (Slot i) = Ok (SlotKey i)
  source_of x = Err Undecided

  -- the form of a key that is a slot
  abbrev pub ask_key : KeySourceOver C → StateOver C L A → StateOver C L A
  ask_key (FixedKey c) s = s
  ask_key (SlotKey i) s = ask (KeyForm i) true s

  -- the slots of symbols that are all slots
  abbrev pub slots_of : List (SymOver C L A) → Result (List ℕ) Halt
  slots_of [] = Ok []
  slots_of (Slot i ∷ xs) = slots_of xs >>= λ slots. Ok (i ∷ slots)
  slots_of (x ∷ xs) = Err Undecided

  -- where keys come from
  abbrev pub sources_of : List (SymOver C L A) → Result (List (KeySourceOver C)) Halt
  sources_of [] = Ok []
  sources_of (x ∷ xs) = source_of x >>= λ key. sources_of xs >>= λ keys. Ok (key ∷ keys)

  -- the forms of signatures, and of keys
  abbrev pub ask_forms : List ℕ → StateOver C L A → StateOver C L A
  ask_forms [] s = s
  ask_forms (i ∷ slots) s = ask_forms slots (ask (Form i) true s)

  abbrev pub ask_keys : List (KeySourceOver C) → StateOver C L A → StateOver C L A
  ask_keys [] s = s
  ask_keys (key ∷ keys) s = ask_keys keys (ask_key key s)

module _ {C L A : Type 0} (w : Words C L A) where
  -- SIZE
  abbrev pub size_of : SymOver C L A → Result (SymOver C L A) Halt
  size_of (Slot i) = Ok (SizeOf i)
  size_of (Const c) = w.size c >>= λ d. Ok (Const d)
  size_of (HashOf i) = Ok (Const (w.known (minimal_bytes_of 20)))
  size_of x = Err Undecided

  -- HASH160
  abbrev pub hash_of : SymOver C L A → Result (SymOver C L A) Halt
  hash_of (Slot i) = Ok (HashOf i)
  hash_of (Const c) = w.hash c >>= λ d. Ok (Const d)
  hash_of x = Err Undecided

  -- the hash of a slot is this constant
  abbrev pub hash_is : ℕ → C → SymOver C L A
  hash_is i c = if w.is_hash c then Holds (HashIs i c) else Const (w.known [])

  abbrev pub size_by : ℕ → Option ℕ → SymOver C L A
  size_by i (Some n) = Holds (SizeIs i n)
  size_by i None = Const (w.known [])

  -- the length of a slot is the number of this constant
  abbrev pub size_is : ℕ → C → Result (SymOver C L A) Halt
  size_is i c = w.named_size c >>= λ n. Ok (size_by i n)

  -- EQUAL
  abbrev pub equal_of : SymOver C L A → SymOver C L A → Result (SymOver C L A) Halt
  equal_of (Const a) (Const b) = w.equal a b >>= λ c. Ok (Const c)
  equal_of (HashOf i) (Const h) = Ok (hash_is i h)
  equal_of (Const h) (HashOf i) = Ok (hash_is i h)
  equal_of (SizeOf i) (Const c) = size_is i c
  equal_of (Const c) (SizeOf i) = size_is i c
  equal_of (Slot i) (Const c) = Ok (Holds (Is i c))
  equal_of (Const c) (Slot i) = Ok (Holds (Is i c))
  equal_of x y = Err Undecided

  -- what decides whether a symbol is true
  abbrev pub condition_of : SymOver C L A → Result (ConditionOver C L A) Halt
  condition_of (Const c) = w.truth c >>= λ b. Ok (Known b)
  condition_of (Holds fact) = Ok (Asked fact)
  condition_of (Slot i) = Ok (Asked (Truth i))
  condition_of x = Err Undecided

  -- every run rejects it as a key, as a signature, as the extra item
  abbrev pub is_bad_key : SymOver C L A → Bool
  is_bad_key (Const c) = w.is_bad_key c
  is_bad_key x = false

  abbrev pub is_bad_signature : SymOver C L A → Bool
  is_bad_signature (Const c) = w.is_bad_signature c
  is_bad_signature x = false

  abbrev pub is_bad_extra : SymOver C L A → Bool
  is_bad_extra (Const c) = w.is_bad_extra c
  is_bad_extra x = false

  -- CHECKSIG, with the key known
  abbrev pub signature_rule : KeySourceOver C → SymOver C L A → StateOver C L A → AfterOver C L A
  signature_rule k (Slot i) s = Ok (push (Holds (Token i k)) (ask (Form i) true (ask_key k s)))
  signature_rule k (Const c) s =
      result_if (w.is_no_signature c) Undecided (Ok (push (Const (w.known [])) (ask_key k s)))
  signature_rule k x s = Err Undecided

  -- CHECKSIG
  abbrev pub check_sig : SymOver C L A → SymOver C L A → StateOver C L A → AfterOver C L A
  check_sig key sig s = result_if (not (is_bad_key key || is_bad_signature sig)) Dead
      (source_of key >>= λ source. signature_rule source sig s)

  -- a count of keys or signatures, from 0 to a limit
  abbrev pub count_of : ℕ → SymOver C L A → Result ℕ Halt
  count_of limit (Const c) = w.count limit c
  count_of limit x = Err Undecided

  -- the extra item has to be empty
  abbrev pub ask_extra : SymOver C L A → StateOver C L A → AfterOver C L A
  ask_extra (Const c) s = result_if (w.is_clear_extra c) Undecided (Ok s)
  ask_extra (Slot i) s = Ok (ask (Is i (w.known [])) true s)
  ask_extra x s = Err Undecided

  -- the answer of CHECKMULTISIG
  abbrev pub answer_of : List ℕ → List (KeySourceOver C) → SymOver C L A
  answer_of [] keys = Const (w.known (flag true))
  answer_of (i ∷ slots) keys = Holds (Assigned (i ∷ slots) keys)

  -- CHECKMULTISIG, given keys and signatures, the deepest first, and the extra item
  abbrev pub check_sigs : List (SymOver C L A) → List (SymOver C L A) → SymOver C L A
      → StateOver C L A → AfterOver C L A
  check_sigs keys sigs x s = result_if (not (list_any is_bad_key keys || is_bad_extra x)) Dead (do
    slots ← slots_of sigs
    sources ← sources_of keys
    s' ← ask_extra x (ask_keys sources (ask_forms slots s))
    Ok (push (answer_of slots sources) s'))

  -- CHECKMULTISIG, in a script with `many` counted opcodes
  abbrev pub check_multi_sig : ℕ → StateOver C L A → AfterOver C L A
  check_multi_sig many s = do
    let top = pop s
    n ← count_of MAX_PUBKEYS_PER_MULTISIG top.0
    let keys = pops n (record top.1 { keys = top.1.keys + n })
    second ← result_if (nat_le (many + keys.1.keys) MAX_OPS_PER_SCRIPT) TooManyOps (Ok (pop keys.1))
    m ← count_of n second.0
    let sigs = pops m second.1
    let extra = pop sigs.1
    check_sigs (reverse keys.0) (reverse sigs.0) extra.0 extra.1

  abbrev pub lock_of : SymOver C L A → Result L Halt
  lock_of (Const c) = w.lock c
  lock_of x = Err Undecided

  -- a relative lock, unless it is disabled
  abbrev pub ask_age : L → StateOver C L A → StateOver C L A
  ask_age n s = if w.is_off n then s else ask (Age (w.age_bits n)) true s

  -- what an opcode does to a path, in a script with `counted` counted opcodes
  abbrev pub rule_of : ℕ → Op → StateOver C L A → StepOver C L A
  rule_of counted (Push item) s = goes_on (push (Const (w.known item)) s)
  rule_of counted (SmallNumber n) s = goes_on (push (Const (w.known (n ∷ []))) s)
  rule_of counted If s = condition_of (pop s).0 >>= λ c. branch true c (pop s).1
  rule_of counted NotIf s = condition_of (pop s).0 >>= λ c. branch false c (pop s).1
  rule_of counted Else s = Ok (AfterEndIf, s)
  rule_of counted EndIf s = goes_on s
  rule_of counted Drop s = goes_on (pop s).1
  rule_of counted Dup s = goes_on (push (pop s).0 (push (pop s).0 (pop s).1))
  rule_of counted Swap s = goes_on (push (pop (pop s).1).0 (push (pop s).0 (pop (pop s).1).1))
  rule_of counted Size s = size_of (pop s).0 >>= λ x. goes_on (push x (push (pop s).0 (pop s).1))
  rule_of counted Equal s =
      equal_of (pop s).0 (pop (pop s).1).0 >>= λ x. goes_on (push x (pop (pop s).1).1)
  rule_of counted EqualVerify s = equal_of (pop s).0 (pop (pop s).1).0 >>= λ x.
      condition_of x >>= λ c. insist c (pop (pop s).1).1 >>= goes_on
  rule_of counted Hash160 s = hash_of (pop s).0 >>= λ x. goes_on (push x (pop s).1)
  rule_of counted CheckSig s = check_sig (pop s).0 (pop (pop s).1).0 (pop (pop s).1).1 >>= goes_on
  rule_of counted CheckMultiSig s = check_multi_sig counted s >>= goes_on
  rule_of counted CheckLockTimeVerify s =
      lock_of (pop s).0 >>= λ n. goes_on (push (pop s).0 (ask (Lock n) true (pop s).1))
  rule_of counted CheckSequenceVerify s =
      lock_of (pop s).0 >>= λ n. goes_on (push (pop s).0 (ask_age n (pop s).1))
