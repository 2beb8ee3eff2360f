-- Locks among the facts of a path: each is asked, none is denied, and no relative one is disabled. So whatever meets the facts meets the
-- greatest of them.
use Rattle.std.proofs.Common.{◌≡◌, ℕ, zero, suc, ◌+◌, ◌/◌, ◌%◌, ◌^◌, ◌<◌, ◌≤◌, max, Bool, true, false, not, ◌||◌, nat_le, nat_lt, ◌==◌, List, [], ◌∷◌, ◌++◌, length, reverse, Option, Some, None, Result, Ok, Err, if◌then◌else◌, slice_index_or, eqb-true, subst, ◌∙◌, refl, arith, ⊎_elim}
use Rattle.std.specs.Prelude.{IfSome}
use Rattle.std.specs.List.{list_any}
use Rattle.std.proofs.lemmas.Bool.{cases_lt, false_from_ne_true}
use Rattle.script.specs.declared.opcode.Op.{Op}
use Rattle.script.specs.declared.opcode.Op.TheVariants.{Push, Number as SmallNumber, If, NotIf, Else, EndIf, Drop, Dup, Swap, Size, Equal, EqualVerify, Hash160, CheckSig, CheckMultiSig, CheckLockTimeVerify, CheckSequenceVerify}
use Rattle.script.specs.declared.spending.Spend.{Spend}
use Rattle.script.specs.Number.{number_of}
use Rattle.script.specs.Step.{Elements, bit_at, lock_passes, age_passes, result_if, ◌>>=◌}
use Rattle.script.specs.Run.{counted_in}
use Rattle.facts.specs.Symbols.{KeySource}
use Rattle.facts.specs.declared.symbols.KeySourceOver.TheVariants.{Const as FixedKey, Slot as SlotKey}
use Rattle.facts.specs.Symbols.{Fact}
use Rattle.facts.specs.declared.symbols.FactOver.TheVariants.{Hash as HashIs, Is, KeyForm, Form, Token, Lock, Age}
use Rattle.facts.specs.Symbols.{Stated}
use Rattle.facts.specs.Symbols.{Sym}
use Rattle.facts.specs.declared.symbols.SymOver.TheVariants.{Slot, Const, HashOf, SizeOf, Holds}
use Rattle.facts.specs.Meaning.{holds_of, AllStated}
use Rattle.paths.specs.declared.errors.CheckError.{CheckError}
use Rattle.paths.specs.declared.errors.CheckError.TheVariants.{OpenBranch, TooManyOps as TooMany, TooManyPaths, TooTall}
use Rattle.paths.specs.Plain.{State}
use Rattle.paths.specs.declared.state.Halt.{Halt}
use Rattle.paths.specs.declared.state.Halt.TheVariants.{NoMemory, Dead, Undecided, TooManyOps}
use Rattle.paths.specs.Plain.{SymbolicJump}
use Rattle.paths.specs.declared.state.SymbolicJumpOver.TheVariants.{Next, AfterElse, AfterEndIf, Splits}
use Rattle.paths.specs.Plain.{Condition}
use Rattle.paths.specs.declared.state.ConditionOver.TheVariants.{Known, Asked}
use Rattle.paths.specs.declared.state.Path.{Path}
use Rattle.paths.specs.Plain.{Listed}
use Rattle.paths.specs.Rules.{pop_of, pop, pops, push, ask, size_of, hash_of, hash_is, named_size, size_by, size_is, equal_of, condition_of, insist, branch, is_bad_key, is_bad_signature, is_bad_extra, source_of, ask_key, signature_rule, check_sig, count_of, slots_of, sources_of, ask_forms, ask_keys, ask_extra, answer_of, check_sigs, check_multi_sig, lock_of, age_bits, ask_age, goes_on, rule_of}
use Rattle.paths.specs.Listing.{is_balanced, greater, with_lock, greatest_lock_in, with_age, greatest_age_in, with_excess, is_low, states_after_jump, refusal_at, states_after_rule, states_after, path_of, path_at_end, end_of, paths_at_end, with_paths, begins, walk_along, walk, beginning, listing}
use Rattle.paths.specs.Laws.{MeetsLocks}
use Rattle.paths.proofs.SoundWords.{Gives}
use Rattle.paths.proofs.SoundPops.{gives_then, gives_result_if}

-- a fact that is not a lock
abbrev IsNoLock : Fact → Type 0
IsNoLock (Lock n) = ⊥
IsNoLock (Age n) = ⊥
IsNoLock fact = Unit {0}

-- what is stated of a lock is that it passes
abbrev pub IsAsked : Fact → Bool → Type 0
IsAsked (Lock n) b = b ≡ true
IsAsked (Age n) b = (b ≡ true) × (bit_at 31 n ≡ false)
IsAsked fact b = Unit {0}

no_lock_asked : (fact : Fact) (b : Bool) → IsNoLock fact → IsAsked fact b
no_lock_asked (Lock n) b h = absurd h
no_lock_asked (Age n) b h = absurd h
no_lock_asked fact b h = tt

abbrev IsPlain : Sym → Type 0
IsPlain (Holds fact) = IsNoLock fact
IsPlain x = Unit {0}

-- each of a list
abbrev pub Each : {A : Type 0} → (A → Type 0) → List A → Type 0
Each P [] = Unit {0}
Each P (x ∷ xs) = P x × Each P xs

each_append : {A : Type 0} (P : A → Type 0) (xs ys : List A) → Each P xs → Each P ys → Each P (xs ++ ys)
each_append P [] ys h k = k
each_append P (x ∷ xs) ys h k = (h.0, each_append P xs ys h.1 k)

pub each_at : {A : Type 0} (P : A → Type 0) (xs : List A) (k : ℕ) (x : A) → k < length xs → slice_index_or xs k x ≡ x → Each P xs → P x
each_at P [] k x l e h = absurd (omega arith)
each_at P (y ∷ xs) zero x l e h = subst P e h.0
each_at P (y ∷ xs) (suc k) x l e h = each_at P xs k x (omega arith) e h.1

abbrev IsAskedIn : Stated → Type 0
IsAskedIn s = IsAsked s.fact s.holds

-- no symbol is a lock, and locks among the facts are asked
record AsksLocks (s : State) : Type 0 where
  pub syms : Each IsPlain s.stack
  pub facts : Each IsAskedIn s.facts

pop_plain : (s : State) → AsksLocks s → IsPlain (pop s).0 × AsksLocks (pop s).1
pop_plain s k = go s.stack k.syms
  where
    go : (xs : List Sym) → Each IsPlain xs → IsPlain (pop_of xs s).0 × AsksLocks (pop_of xs s).1
    go [] h = (tt, record { syms = tt; facts = k.facts })
    go (x ∷ xs) h = (h.0, record { syms = h.1; facts = k.facts })

pops_plain : (n : ℕ) (s : State) → AsksLocks s → AsksLocks (pops n s).1
pops_plain zero s k = k
pops_plain (suc n) s k = pops_plain n (pop s).1 (pop_plain s k).1

push_plain : (x : Sym) (s : State) → IsPlain x → AsksLocks s → AsksLocks (push x s)
push_plain x s h k = record { syms = (h, k.syms); facts = k.facts }

ask_plain : (fact : Fact) (b : Bool) (s : State) → IsAsked fact b → AsksLocks s → AsksLocks (ask fact b s)
ask_plain fact b s h k = record { syms = k.syms; facts = each_append IsAskedIn s.facts (record { fact = fact; holds = b } ∷ []) k.facts (h, tt) }

-- whatever a step gives
gives_any : {A B E : Type 0} (P : B → Type 0) (r : Result A E) (f : A → Result B E) → ((x : A) → Gives P (f x)) → Gives P (r >>= f)
gives_any P (Ok x) f h = h x
gives_any P (Err e) f h = tt

-- conditions
abbrev IsPlainCondition : Condition → Type 0
IsPlainCondition (Known b) = Unit {0}
IsPlainCondition (Asked fact) = IsNoLock fact

condition_plain : (x : Sym) → IsPlain x → Gives IsPlainCondition (condition_of x)
condition_plain (Slot i) h = tt
condition_plain (Const b) h = tt
condition_plain (HashOf i) h = tt
condition_plain (SizeOf i) h = tt
condition_plain (Holds fact) h = h

insist_plain : (c : Condition) (s : State) → IsPlainCondition c → AsksLocks s → Gives AsksLocks (insist c s)
insist_plain (Known b) s h k = gives_result_if AsksLocks b Dead (Ok s) (λ e. k)
insist_plain (Asked fact) s h k = ask_plain fact true s (no_lock_asked fact true h) k

abbrev IsPlainTurn : SymbolicJump → Type 0
IsPlainTurn (Splits fact b) = IsNoLock fact
IsPlainTurn turn = Unit {0}

abbrev StaysPlain : SymbolicJump × State → Type 0
StaysPlain r = IsPlainTurn r.0 × AsksLocks r.1

branch_plain : (runs : Bool) (c : Condition) (s : State) → IsPlainCondition c → AsksLocks s → Gives StaysPlain (branch runs c s)
branch_plain runs (Known b) s h k = (go (if b then runs else not runs), k)
  where
    go : (t : Bool) → IsPlainTurn (if t then Next else AfterElse)
    go true = tt
    go false = tt
branch_plain runs (Asked fact) s h k = (h, k)

-- SIZE, HASH160 and EQUAL
size_plain : (x : Sym) → Gives IsPlain (size_of x)
size_plain (Slot i) = tt
size_plain (Const b) = tt
size_plain (HashOf i) = tt
size_plain (SizeOf i) = tt
size_plain (Holds fact) = tt

hash_plain : (x : Sym) → Gives IsPlain (hash_of x)
hash_plain (Slot i) = tt
hash_plain (Const b) = tt
hash_plain (HashOf i) = tt
hash_plain (SizeOf i) = tt
hash_plain (Holds fact) = tt

hash_is-plain : (i : ℕ) (h : List ℕ) → IsPlain (hash_is i h)
hash_is-plain i h = go (length h == 20)
  where
    go : (t : Bool) → IsPlain (if t then Holds (HashIs i h) else Const [])
    go true = tt
    go false = tt

size_is-plain : (i : ℕ) (b : List ℕ) → IsPlain (size_is i b)
size_is-plain i b = go (named_size b (number_of 4 b))
  where
    go : (o : Option ℕ) → IsPlain (size_by i o)
    go (Some n) = tt
    go None = tt

equal_plain : (x y : Sym) → Gives IsPlain (equal_of x y)
equal_plain (Const a) (Const b) = tt
equal_plain (HashOf i) (Const h) = hash_is-plain i h
equal_plain (Const h) (HashOf i) = hash_is-plain i h
equal_plain (SizeOf i) (Const b) = size_is-plain i b
equal_plain (Const b) (SizeOf i) = size_is-plain i b
equal_plain (Slot i) (Const b) = tt
equal_plain (Const b) (Slot i) = tt
equal_plain x y = tt

-- CHECKSIG
key_plain : (key : KeySource) (s : State) → AsksLocks s → AsksLocks (ask_key key s)
key_plain (FixedKey b) s k = k
key_plain (SlotKey i) s k = ask_plain (KeyForm i) true s tt k

signed_plain : (key : KeySource) (sig : Sym) (s : State) → AsksLocks s → Gives AsksLocks (signature_rule key sig s)
signed_plain key (Slot i) s k = push_plain (Holds (Token i key)) (ask (Form i) true (ask_key key s)) tt (ask_plain (Form i) true (ask_key key s) tt (key_plain key s k))
signed_plain key (Const []) s k = push_plain (Const []) (ask_key key s) tt (key_plain key s k)
signed_plain key (Const (b ∷ bs)) s k = tt
signed_plain key (HashOf i) s k = tt
signed_plain key (SizeOf i) s k = tt
signed_plain key (Holds fact) s k = tt

check_sig_plain : (key sig : Sym) (s : State) → AsksLocks s → Gives AsksLocks (check_sig key sig s)
check_sig_plain key sig s k =
    gives_result_if AsksLocks (not (is_bad_key key || is_bad_signature sig)) Dead (source_of key >>= λ source. signature_rule source sig s) (λ e.
    gives_any AsksLocks (source_of key) (λ source. signature_rule source sig s) (λ source. signed_plain source sig s k))

-- CHECKMULTISIG
forms_plain : (slots : List ℕ) (s : State) → AsksLocks s → AsksLocks (ask_forms slots s)
forms_plain [] s k = k
forms_plain (i ∷ slots) s k = forms_plain slots (ask (Form i) true s) (ask_plain (Form i) true s tt k)

keys_plain : (keys : List KeySource) (s : State) → AsksLocks s → AsksLocks (ask_keys keys s)
keys_plain [] s k = k
keys_plain (key ∷ keys) s k = keys_plain keys (ask_key key s) (key_plain key s k)

extra_plain : (x : Sym) (s : State) → AsksLocks s → Gives AsksLocks (ask_extra x s)
extra_plain (Const b) s k = k
extra_plain (Slot i) s k = ask_plain (Is i []) true s tt k
extra_plain (HashOf i) s k = tt
extra_plain (SizeOf i) s k = tt
extra_plain (Holds fact) s k = tt

answer_plain : (slots : List ℕ) (keys : List KeySource) → IsPlain (answer_of slots keys)
answer_plain [] keys = tt
answer_plain (i ∷ slots) keys = tt

check_sigs_plain : (keys sigs : List Sym) (extra : Sym) (s : State) → AsksLocks s → Gives AsksLocks (check_sigs keys sigs extra s)
check_sigs_plain keys sigs extra s k =
    gives_result_if AsksLocks (not (list_any is_bad_key keys || is_bad_extra extra)) Dead _ (λ e.
    gives_any AsksLocks (slots_of sigs) _ (λ slots.
    gives_any AsksLocks (sources_of keys) _ (λ sources.
    gives_then AsksLocks AsksLocks (ask_extra extra (ask_keys sources (ask_forms slots s))) _ (extra_plain extra (ask_keys sources (ask_forms slots s)) (keys_plain sources (ask_forms slots s) (forms_plain slots s k))) (λ s' k'. push_plain (answer_of slots sources) s' (answer_plain slots sources) k'))))

gives_unless : {A B E : Type 0} (P : B → Type 0) (b : Bool) (e : E) (x : A) (f : A → Result B E) → Gives P (f x) → Gives P (result_if b e (Ok x) >>= f)
gives_unless P true e x f h = h
gives_unless P false e x f h = tt

multi_sig_plain : (counted : ℕ) (s : State) → AsksLocks s → Gives AsksLocks (check_multi_sig counted s)
unfolding check_multi_sig
multi_sig_plain counted s k =
    gives_any AsksLocks (count_of 20 (pop s).0) _ (λ n.
    let first : AsksLocks (pop s).1 = (pop_plain s k).1 in
    let start : State = record (pop s).1 { keys = (pop s).1.keys + n } in
    let keys : AsksLocks (pops n start).1 = pops_plain n start (record { syms = first.syms; facts = first.facts }) in
    gives_unless AsksLocks (nat_le (counted + (pops n start).1.keys) 201) TooManyOps (pop (pops n start).1) _ (
    gives_any AsksLocks (count_of n (pop (pops n start).1).0) _ (λ m.
    let second : AsksLocks (pop (pops n start).1).1 = (pop_plain (pops n start).1 keys).1 in
    let sigs : AsksLocks (pops m (pop (pops n start).1).1).1 = pops_plain m (pop (pops n start).1).1 second in
    check_sigs_plain (reverse (pops n start).0) (reverse (pops m (pop (pops n start).1).1).0) (pop (pops m (pop (pops n start).1).1).1).0 (pop (pops m (pop (pops n start).1).1).1).1 (pop_plain (pops m (pop (pops n start).1).1).1 sigs).1)))

-- the locks
age_bits-clear : (n : ℕ) → bit_at 31 (age_bits n) ≡ false
age_bits-clear n = false_from_ne_true _ (λ t. absurd (high n (eqb-true _ _ t)))
  where
    high : (n : ℕ) → age_bits n / 2 ^ 31 % 2 ≡ 1 → ⊥
    high n h = omega arith

age_plain : (n : ℕ) (s : State) → AsksLocks s → AsksLocks (ask_age n s)
age_plain n s k = go (bit_at 31 n)
  where
    go : (b : Bool) → AsksLocks (if b then s else ask (Age (age_bits n)) true s)
    go true = k
    go false = ask_plain (Age (age_bits n)) true s (refl, age_bits-clear n) k

followed_plain : (counted : ℕ) (op : Op) (s : State) → AsksLocks s → Gives StaysPlain (rule_of counted op s)
unfolding rule_of check_multi_sig
followed_plain counted (Push item) s k = (tt, push_plain (Const item) s tt k)
followed_plain counted (SmallNumber n) s k = (tt, push_plain (Const (n ∷ [])) s tt k)
followed_plain counted If s k =
    let p = pop_plain s k in
    gives_then IsPlainCondition StaysPlain (condition_of (pop s).0) (λ c. branch true c (pop s).1) (condition_plain (pop s).0 p.0) (λ c h. branch_plain true c (pop s).1 h p.1)
followed_plain counted NotIf s k =
    let p = pop_plain s k in
    gives_then IsPlainCondition StaysPlain (condition_of (pop s).0) (λ c. branch false c (pop s).1) (condition_plain (pop s).0 p.0) (λ c h. branch_plain false c (pop s).1 h p.1)
followed_plain counted Else s k = (tt, k)
followed_plain counted EndIf s k = (tt, k)
followed_plain counted Drop s k = (tt, (pop_plain s k).1)
followed_plain counted Dup s k =
    let p = pop_plain s k in
    (tt, push_plain (pop s).0 (push (pop s).0 (pop s).1) p.0 (push_plain (pop s).0 (pop s).1 p.0 p.1))
followed_plain counted Swap s k =
    let p = pop_plain s k in let q = pop_plain (pop s).1 p.1 in
    (tt, push_plain (pop (pop s).1).0 (push (pop s).0 (pop (pop s).1).1) q.0 (push_plain (pop s).0 (pop (pop s).1).1 p.0 q.1))
followed_plain counted Size s k =
    let p = pop_plain s k in
    gives_then IsPlain StaysPlain (size_of (pop s).0) (λ x. goes_on (push x (push (pop s).0 (pop s).1))) (size_plain (pop s).0) (λ x h. (tt, push_plain x (push (pop s).0 (pop s).1) h (push_plain (pop s).0 (pop s).1 p.0 p.1)))
followed_plain counted Equal s k =
    let q = pop_plain (pop s).1 (pop_plain s k).1 in
    gives_then IsPlain StaysPlain (equal_of (pop s).0 (pop (pop s).1).0) (λ x. goes_on (push x (pop (pop s).1).1)) (equal_plain (pop s).0 (pop (pop s).1).0) (λ x h. (tt, push_plain x (pop (pop s).1).1 h q.1))
followed_plain counted EqualVerify s k =
    let q = pop_plain (pop s).1 (pop_plain s k).1 in
    gives_then IsPlain StaysPlain (equal_of (pop s).0 (pop (pop s).1).0) _ (equal_plain (pop s).0 (pop (pop s).1).0) (λ x h.
    gives_then IsPlainCondition StaysPlain (condition_of x) _ (condition_plain x h) (λ c d.
    gives_then AsksLocks StaysPlain (insist c (pop (pop s).1).1) goes_on (insist_plain c (pop (pop s).1).1 d q.1) (λ s' k'. (tt, k'))))
followed_plain counted Hash160 s k =
    gives_then IsPlain StaysPlain (hash_of (pop s).0) (λ x. goes_on (push x (pop s).1)) (hash_plain (pop s).0) (λ x h. (tt, push_plain x (pop s).1 h (pop_plain s k).1))
followed_plain counted CheckSig s k =
    gives_then AsksLocks StaysPlain (check_sig (pop s).0 (pop (pop s).1).0 (pop (pop s).1).1) goes_on (check_sig_plain (pop s).0 (pop (pop s).1).0 (pop (pop s).1).1 (pop_plain (pop s).1 (pop_plain s k).1).1) (λ s' k'. (tt, k'))
followed_plain counted CheckMultiSig s k = gives_then AsksLocks StaysPlain (check_multi_sig counted s) goes_on (multi_sig_plain counted s k) (λ s' k'. (tt, k'))
followed_plain counted CheckLockTimeVerify s k =
    let p = pop_plain s k in
    gives_any StaysPlain (lock_of (pop s).0) _ (λ n. (tt, push_plain (pop s).0 (ask (Lock n) true (pop s).1) p.0 (ask_plain (Lock n) true (pop s).1 refl p.1)))
followed_plain counted CheckSequenceVerify s k =
    let p = pop_plain s k in
    gives_any StaysPlain (lock_of (pop s).0) _ (λ n. (tt, push_plain (pop s).0 (ask_age n (pop s).1) p.0 (age_plain n (pop s).1 p.1)))

-- the ways on, and the paths that end
ways_plain : (turn : SymbolicJump) (rest : List Op) (s : State) → IsPlainTurn turn → AsksLocks s → Each AsksLocks (states_after_jump turn rest s)
ways_plain Next rest s h k = (k, tt)
ways_plain AfterElse rest s h k = (record { syms = k.syms; facts = k.facts }, tt)
ways_plain AfterEndIf rest s h k = (record { syms = k.syms; facts = k.facts }, tt)
ways_plain (Splits fact runs) rest s h k =
    let other : AsksLocks (ask fact (not runs) s) = ask_plain fact (not runs) s (no_lock_asked fact (not runs) h) k in
    (ask_plain fact runs s (no_lock_asked fact runs h) k, (record { syms = other.syms; facts = other.facts }, tt))

halted_plain : {A : Type 0} (P : A → Type 0) (at : ℕ) (none : A) (h : Halt) → P none → Gives P (refusal_at at none h)
halted_plain P at none NoMemory p = tt
halted_plain P at none Dead p = p
halted_plain P at none Undecided p = tt
halted_plain P at none TooManyOps p = tt

arrived_plain : (at : ℕ) (rest : List Op) (r : Result (SymbolicJump × State) Halt) → Gives StaysPlain r → Gives (Each AsksLocks) (states_after_rule at rest r)
arrived_plain at rest (Ok (turn, s)) h =
    gives_result_if (Each AsksLocks) (is_low (with_excess s)) TooTall (Ok (states_after_jump turn rest (with_excess s))) (λ e. ways_plain turn rest (with_excess s) h.0 (record { syms = h.1.syms; facts = h.1.facts }))
arrived_plain at rest (Err h) k = halted_plain (Each AsksLocks) at [] h tt

states_after-plain : (counted at : ℕ) (op : Op) (rest : List Op) (s : State) (n : ℕ) → AsksLocks s → Gives (Each AsksLocks) (states_after counted at op rest s n)
states_after-plain counted at op rest s zero k = arrived_plain at rest (rule_of counted op s) (followed_plain counted op s k)
states_after-plain counted at op rest s (suc n) k = (record { syms = k.syms; facts = k.facts }, tt)

-- a path's locks are asked, and its numbers are the greatest of them
pub record TellsLocks (p : Path) : Type 0 where
  pub asked : Each IsAskedIn p.facts
  pub lock : p.lock ≡ greatest_lock_in p.facts
  pub age : p.age ≡ greatest_age_in p.facts

end_plain : (xs : List Sym) (x : Sym) (s : State) → IsPlain x → AsksLocks s → Gives AsksLocks (end_of xs x s)
end_plain [] x s h k = gives_then IsPlainCondition AsksLocks (condition_of x) (λ c. insist c s) (condition_plain x h) (λ c d. insist_plain c s d k)
end_plain (y ∷ ys) x s h k = tt

closed_plain : (counted at : ℕ) (r : Result State Halt) → Gives AsksLocks r → Gives (Each TellsLocks) (path_at_end counted at r)
closed_plain counted at (Ok s) k = gives_result_if (Each TellsLocks) (is_low s) TooTall (Ok (path_of counted s ∷ [])) (λ e. (record { asked = k.facts; lock = refl; age = refl }, tt))
closed_plain counted at (Err h) k = halted_plain (Each TellsLocks) at [] h tt

abbrev AllTell : Listed → Type 0
AllTell l = Each TellsLocks l.paths

listed_plain : (l : Listed) (r : Result (List Path) CheckError) → AllTell l → Gives (Each TellsLocks) r → Gives AllTell (with_paths l r)
listed_plain l (Ok paths) h k = each_append TellsLocks l.paths paths h k
listed_plain l (Err e) h k = tt

along_plain : (go : State → Listed → Result Listed CheckError) → ((s : State) (l : Listed) → AsksLocks s → AllTell l → Gives AllTell (go s l)) → (r : Result (List State) CheckError) (l : Listed) → Gives (Each AsksLocks) r → AllTell l → Gives AllTell (walk_along go r l)
along_plain go f (Err e) l ways h = tt
along_plain go f (Ok []) l ways h = h
along_plain go f (Ok (s ∷ [])) l ways h = f s l ways.0 h
along_plain go f (Ok (s ∷ t ∷ more)) l ways h =
    gives_then AllTell AllTell (go s l) (λ l'. begins l' >>= go t) (f s l ways.0 h) (λ l' h'.
    gives_then AllTell AllTell (begins l') (go t) (gives_result_if AllTell (nat_lt l'.begun 64) TooManyPaths (Ok (record l' { begun = l'.begun + 1 })) (λ e. h')) (λ l2 h2. f t l2 ways.1.0 h2))

walk_plain : (counted : ℕ) (rest : List Op) (at : ℕ) (s : State) (l : Listed) → AsksLocks s → AllTell l → Gives AllTell (walk counted at rest s l)
walk_plain counted [] at s l k h =
    let p = pop_plain s k in
    listed_plain l (paths_at_end counted at s) h (closed_plain counted at (end_of (pop s).1.stack (pop s).0 (pop s).1) (end_plain (pop s).1.stack (pop s).0 (pop s).1 p.0 p.1))
walk_plain counted (op ∷ rest) at s l k h =
    along_plain (walk counted (at + 1) rest) (λ s' l' k' h'. walk_plain counted rest (at + 1) s' l' k' h') (states_after counted at op rest s s.ahead) l (states_after-plain counted at op rest s s.ahead k) h

listing_plain : (ops : List Op) → Gives (Each TellsLocks) (listing ops)
unfolding listing
listing_plain ops =
    gives_result_if (Each TellsLocks) (is_balanced ops []) OpenBranch _ (λ b.
    gives_result_if (Each TellsLocks) (nat_le (counted_in ops) 201) TooMany _ (λ few.
    gives_then AllTell (Each TellsLocks) (walk (counted_in ops) 0 ops beginning (record { begun = 1; paths = [] })) (λ l. Ok l.paths) (walk_plain (counted_in ops) ops 0 beginning (record { begun = 1; paths = [] }) (record { syms = tt; facts = tt }) tt) (λ l h. h)))

pub listing-tells : (ops : List Op) (paths : List Path) → listing ops ≡ Ok paths → Each TellsLocks paths
listing-tells ops paths e = rw e at (listing_plain ops)

-- if numbers pass, the greatest of them passes
max_either : (P : ℕ → Type 0) (m n : ℕ) → P m → P n → P (max m n)
max_either P m n p q = ⊎_elim (λ (l : m < n). subst P (later l) q) (λ (l : n ≤ m). subst P (first l) p) (cases_lt m n)
  where
    later : m < n → n ≡ max m n
    later l = omega arith

    first : n ≤ m → m ≡ max m n
    first l = omega arith

greater_either : (P : ℕ → Type 0) (o : Option ℕ) (n : ℕ) → IfSome o P → P n → IfSome (greater o n) P
greater_either P None n h q = q
greater_either P (Some m) n h q = max_either P m n h q

lock_met : (spend : Spend) (w : Elements) (fact : Fact) (b : Bool) (o : Option ℕ) → IsAsked fact b → holds_of spend w fact ≡ b → IfSome o (λ n. lock_passes spend n ≡ true) → IfSome (with_lock fact o) (λ n. lock_passes spend n ≡ true)
lock_met spend w (Lock n) b o k h q = greater_either (λ m. lock_passes spend m ≡ true) o n q (h ∙ k)
lock_met spend w fact b o k h q = q

locks_met : (spend : Spend) (w : Elements) (facts : List Stated) → Each IsAskedIn facts → AllStated spend w facts → IfSome (greatest_lock_in facts) (λ n. lock_passes spend n ≡ true)
locks_met spend w [] k h = tt
locks_met spend w (s ∷ facts) k h = lock_met spend w s.fact s.holds (greatest_lock_in facts) k.0 h.0 (locks_met spend w facts k.1 h.1)

-- an age in blocks has 16 bits
low-passes : (spend : Spend) (n : ℕ) → bit_at 31 n ≡ false → bit_at 22 n ≡ false → age_passes spend (n % 2 ^ 16) ≡ age_passes spend n
unfolding age_passes
low-passes spend n e f =
    let b31 : bit_at 31 (n % 2 ^ 16) ≡ false = false_from_ne_true _ (λ t. absurd (high n (eqb-true _ _ t))) in
    let b22 : bit_at 22 (n % 2 ^ 16) ≡ false = false_from_ne_true _ (λ t. absurd (middle n (eqb-true _ _ t))) in
    let low : n % 2 ^ 16 % 2 ^ 16 ≡ n % 2 ^ 16 = omega arith in
    rw (e, b31, f, b22, low) refl
  where
    high : (n : ℕ) → n % 2 ^ 16 / 2 ^ 31 % 2 ≡ 1 → ⊥
    high n h = omega arith

    middle : (n : ℕ) → n % 2 ^ 16 / 2 ^ 22 % 2 ≡ 1 → ⊥
    middle n h = omega arith

age_met_by : (spend : Spend) (n : ℕ) (o : Option ℕ) (t : Bool) → bit_at 22 n ≡ t → bit_at 31 n ≡ false → age_passes spend n ≡ true → IfSome o (λ m. age_passes spend m ≡ true) → IfSome (if t then o else greater o (n % 2 ^ 16)) (λ m. age_passes spend m ≡ true)
age_met_by spend n o true f e h q = q
age_met_by spend n o false f e h q = greater_either (λ m. age_passes spend m ≡ true) o (n % 2 ^ 16) q (low-passes spend n e f ∙ h)

age_met : (spend : Spend) (w : Elements) (fact : Fact) (b : Bool) (o : Option ℕ) → IsAsked fact b → holds_of spend w fact ≡ b → IfSome o (λ n. age_passes spend n ≡ true) → IfSome (with_age fact o) (λ n. age_passes spend n ≡ true)
age_met spend w (Age n) b o k h q = age_met_by spend n o (bit_at 22 n) refl k.1 (h ∙ k.0) q
age_met spend w fact b o k h q = q

ages_met : (spend : Spend) (w : Elements) (facts : List Stated) → Each IsAskedIn facts → AllStated spend w facts → IfSome (greatest_age_in facts) (λ n. age_passes spend n ≡ true)
ages_met spend w [] k h = tt
ages_met spend w (s ∷ facts) k h = age_met spend w s.fact s.holds (greatest_age_in facts) k.0 h.0 (ages_met spend w facts k.1 h.1)

-- whatever meets a path's facts meets its greatest locks
pub tells_met : (spend : Spend) (w : Elements) (p : Path) → TellsLocks p → AllStated spend w p.facts → MeetsLocks spend p
tells_met spend w p t h = record { lock = rw t.lock (locks_met spend w p.facts t.asked h); age = rw t.age (ages_met spend w p.facts t.asked h) }
