-- Each rule, by the effect of its opcode on elements.
use Rattle.std.proofs.Common.{◌≡◌, ℕ, ◌≤◌, Bool, true, false, not, ◌||◌, List, [], ◌∷◌, length, Option, Some, None, Ok, if◌then◌else◌, sym, ap, ◌∙◌, refl, arith}
use Rattle.std.specs.Str.{bytes_eq}
use Rattle.std.proofs.lemmas.Bool.{or_parts, not-true, not-false, or_left}
use Rattle.digest.specs.Hash.{hash160}
use Rattle.script.specs.declared.opcode.Op.{Op}
use Rattle.script.specs.declared.opcode.Op.TheVariants.{Push, Number as SmallNumber, If, NotIf, Else, EndIf, Drop, Dup, Swap, Size, Equal, EqualVerify, Hash160, CheckSig, CheckLockTimeVerify, CheckSequenceVerify}
use Rattle.script.specs.declared.spending.Spend.{Spend}
use Rattle.script.specs.declared.stops.Cause.TheVariants.{FailedCheck}
use Rattle.script.specs.declared.stops.Kind.TheVariants.{Verify}
use Rattle.script.specs.declared.num.Number.{Number as Signed}
use Rattle.script.specs.Number.{number_of, minimal_bytes_of}
use Rattle.script.specs.Token.{token_of, is_key, is_signature}
use Rattle.script.specs.Step.{Elements, effect, plain, branch_effect, truth, flag, bit_at, age_passes, check_sig_effect, ◌>>=◌}
use Rattle.facts.specs.Symbols.{KeySource}
use Rattle.facts.specs.declared.symbols.KeySourceOver.TheVariants.{Const as FixedKey, Slot as SlotKey}
use Rattle.facts.specs.Symbols.{Fact}
use Rattle.facts.specs.declared.symbols.FactOver.TheVariants.{KeyForm, Form, Token, Lock, Age}
use Rattle.facts.specs.Symbols.{Sym}
use Rattle.facts.specs.declared.symbols.SymOver.TheVariants.{Slot, Const, HashOf, SizeOf, Holds}
use Rattle.facts.specs.Meaning.{slot_of, key_of, item_for, holds_of, AllStated}
use Rattle.paths.specs.Plain.{State}
use Rattle.paths.specs.declared.state.Halt.TheVariants.{Dead}
use Rattle.paths.specs.Plain.{SymbolicJump}
use Rattle.paths.specs.declared.state.SymbolicJumpOver.TheVariants.{Next, AfterElse, AfterEndIf, Splits}
use Rattle.paths.specs.Plain.{Condition}
use Rattle.paths.specs.declared.state.ConditionOver.TheVariants.{Known, Asked}
use Rattle.paths.specs.Rules.{pop, push, ask, size_of, hash_of, equal_of, condition_of, insist, branch, is_bad_key, is_bad_signature, source_of, ask_key, signature_rule, check_sig, lock_by, lock_of, age_bits, ask_age}
use Rattle.paths.proofs.SoundWords.{Gives, entries_of, IsShort, decided_by, move_by, Grows, Asks, Follows}
use Rattle.paths.proofs.SoundPops.{gives_then, gives_result_if, result_if-true, stated_parts, asked_now, grows_refl, grows_trans, push_grows, pop_grows, asks_refl, asks_trans, ask_asks, asks_grows, asks_entries, pop_entries, pop_entries-2, plain_follows}
use Rattle.paths.proofs.SoundNumbers.{hash160-length, age_bits-passes, bytes_eq-sym, hash_is-good, size_is-good}

-- what is left of a rule has a turn and a state that the opcode leads to
abbrev pub FollowsTo : ℕ → Op → State → SymbolicJump × State → Type 0
FollowsTo counted op s r = Follows counted op s r.0 r.1

pub truth_flag : (b : Bool) → truth (flag b) ≡ b
truth_flag true = refl
truth_flag false = refl

-- a condition is true where its symbol's item is
abbrev pub IsDecided : Sym → Condition → Type 0
IsDecided x c = (spend : Spend) (w : Elements) → truth (item_for spend w x) ≡ decided_by spend w c

pub condition_good : (x : Sym) → Gives (IsDecided x) (condition_of x)
condition_good (Slot i) = λ spend w. refl
condition_good (Const b) = λ spend w. refl
condition_good (HashOf i) = tt
condition_good (SizeOf i) = tt
condition_good (Holds fact) = λ spend w. truth_flag (holds_of spend w fact)

-- the facts now say that the condition holds
pub record Insists (c : Condition) (s s' : State) : Type 0 where
  pub asks : Asks s s'
  pub now : (spend : Spend) (w : Elements) → AllStated spend w s'.facts → decided_by spend w c ≡ true

pub insist_good : (c : Condition) (s : State) → Gives (Insists c s) (insist c s)
insist_good (Known b) s = gives_result_if (Insists (Known b) s) b Dead (Ok s) (λ e. record { asks = asks_refl s; now = λ spend w h. e })
insist_good (Asked fact) s = record { asks = ask_asks fact true s; now = λ spend w h. asked_now spend w fact true s h }

-- IF and NOTIF
entered_known : (t : Bool) (spend : Spend) (w : Elements) (stack : Elements) → branch_effect t stack ≡ Ok (record { jump = move_by spend w (if t then Next else AfterElse); stack = stack; keys = 0 })
entered_known true spend w stack = refl
entered_known false spend w stack = refl

entered_asked : (t : Bool) (spend : Spend) (w : Elements) (fact : Fact) (runs : Bool) (stack : Elements) → (if holds_of spend w fact then runs else not runs) ≡ t → branch_effect t stack ≡ Ok (record { jump = move_by spend w (Splits fact runs); stack = stack; keys = 0 })
entered_asked true spend w fact runs stack e = rw e refl
entered_asked false spend w fact runs stack e = rw e refl

branch_good : (counted : ℕ) (op : Op) (s s' : State) (runs : Bool) (c : Condition) → Grows s s' → ((spend : Spend) (w : Elements) (k : ℕ) → s'.slots ≤ length w → effect spend k op (entries_of spend w s) ≡ branch_effect (if decided_by spend w c then runs else not runs) (entries_of spend w s')) → Gives (FollowsTo counted op s) (branch runs c s')
branch_good counted op s s' runs (Known b) g st = record {
  ahead = g.ahead;
  excess = g.excess;
  more = g.more;
  facts = g.facts;
  used = 0;
  keys = let e = g.keys in omega arith;
  few = λ l. let e = g.keys in omega arith;
  step = λ spend w c l sh en h. st spend w c en ∙ entered_known (if b then runs else not runs) spend w (entries_of spend w s');
}
branch_good counted op s s' runs (Asked fact) g st = record {
  ahead = g.ahead;
  excess = g.excess;
  more = g.more;
  facts = g.facts;
  used = 0;
  keys = let e = g.keys in omega arith;
  few = λ l. let e = g.keys in omega arith;
  step = λ spend w c l sh en h. st spend w c en ∙ entered_asked (if holds_of spend w fact then runs else not runs) spend w fact runs (entries_of spend w s') refl;
}

as_run : (b : Bool) → b ≡ (if b then true else not true)
as_run true = refl
as_run false = refl

as_not_run : (b : Bool) → not b ≡ (if b then false else not false)
as_not_run true = refl
as_not_run false = refl

pub if_good : (counted : ℕ) (s : State) (c : Condition) → IsDecided (pop s).0 c → Gives (FollowsTo counted If s) (branch true c (pop s).1)
unfolding effect
if_good counted s c d = branch_good counted If s (pop s).1 true c (pop_grows s) (λ spend w k en.
    ap (effect spend k If) (pop_entries spend w s en)
    ∙ ap (λ t. branch_effect t (entries_of spend w (pop s).1)) (d spend w ∙ as_run (decided_by spend w c)))

pub not_if_good : (counted : ℕ) (s : State) (c : Condition) → IsDecided (pop s).0 c → Gives (FollowsTo counted NotIf s) (branch false c (pop s).1)
unfolding effect
not_if_good counted s c d = branch_good counted NotIf s (pop s).1 false c (pop_grows s) (λ spend w k en.
    ap (effect spend k NotIf) (pop_entries spend w s en)
    ∙ ap (λ t. branch_effect t (entries_of spend w (pop s).1)) (ap not (d spend w) ∙ as_not_run (decided_by spend w c)))

-- SIZE, HASH160 and EQUAL
abbrev pub IsSizeOf : Sym → Sym → Type 0
IsSizeOf x y = (spend : Spend) (w : Elements) → minimal_bytes_of (length (item_for spend w x)) ≡ item_for spend w y

pub size_good : (x : Sym) → Gives (IsSizeOf x) (size_of x)
size_good (Slot i) = λ spend w. refl
size_good (Const b) = λ spend w. refl
size_good (HashOf i) = λ spend w. ap minimal_bytes_of (hash160-length (slot_of w i))
size_good (SizeOf i) = tt
size_good (Holds fact) = tt

abbrev pub IsHashOf : Sym → Sym → Type 0
IsHashOf x y = (spend : Spend) (w : Elements) → hash160 (item_for spend w x) ≡ item_for spend w y

pub hash_good : (x : Sym) → Gives (IsHashOf x) (hash_of x)
hash_good (Slot i) = λ spend w. refl
hash_good (Const b) = λ spend w. refl
hash_good (HashOf i) = tt
hash_good (SizeOf i) = tt
hash_good (Holds fact) = tt

abbrev pub IsEqualOf : Sym → Sym → Sym → Type 0
IsEqualOf x y z = (spend : Spend) (w : Elements) → IsShort w → flag (bytes_eq (item_for spend w x) (item_for spend w y)) ≡ item_for spend w z

pub equal_good : (x y : Sym) → Gives (IsEqualOf x y) (equal_of x y)
equal_good (Const a) (Const b) = λ spend w sh. refl
equal_good (HashOf i) (Const h) = λ spend w sh. sym (hash_is-good spend w i h)
equal_good (Const h) (HashOf i) = λ spend w sh. ap flag (bytes_eq-sym h (hash160 (slot_of w i))) ∙ sym (hash_is-good spend w i h)
equal_good (SizeOf i) (Const b) = λ spend w sh. sym (size_is-good spend w i b (sh i))
equal_good (Const b) (SizeOf i) = λ spend w sh. ap flag (bytes_eq-sym b (minimal_bytes_of (length (slot_of w i)))) ∙ sym (size_is-good spend w i b (sh i))
equal_good (Slot i) (Const b) = λ spend w sh. refl
equal_good (Const b) (Slot i) = λ spend w sh. ap flag (bytes_eq-sym b (slot_of w i))
equal_good x y = tt

-- the locks
pub record LockIs (x : Sym) (n : ℕ) : Type 0 where
  pub number : Signed
  pub same : (spend : Spend) (w : Elements) → number_of 5 (item_for spend w x) ≡ Some number
  pub positive : number.negative ≡ false
  pub magnitude : number.magnitude ≡ n

pub lock_good : (x : Sym) → Gives (LockIs x) (lock_of x)
lock_good (Const b) = go (number_of 5 b) refl
  where
    go : (o : Option Signed) → number_of 5 b ≡ o → Gives (LockIs (Const b)) (lock_by o)
    go None e = tt
    go (Some z) e = gives_result_if (LockIs (Const b)) (not z.negative) Dead (Ok z.magnitude) (λ p. record { number = z; same = λ spend w. e; positive = not-true z.negative p; magnitude = refl })
lock_good (Slot i) = tt
lock_good (HashOf i) = tt
lock_good (SizeOf i) = tt
lock_good (Holds fact) = tt

pub lock_follows : (counted : ℕ) (s : State) (n : ℕ) → LockIs (pop s).0 n → Follows counted CheckLockTimeVerify s Next (push (pop s).0 (ask (Lock n) true (pop s).1))
unfolding effect
lock_follows counted s n k =
    plain_follows counted CheckLockTimeVerify s (push (pop s).0 (ask (Lock n) true (pop s).1)) (push_grows s _ (pop s).0 (grows_trans s (pop s).1 _ (pop_grows s) (asks_grows _ _ (ask_asks (Lock n) true (pop s).1)))) (λ spend w c sh en h.
    ap (effect spend c CheckLockTimeVerify) (pop_entries spend w s en)
    ∙ rw (k.same spend w, k.positive, k.magnitude, asked_now spend w (Lock n) true (pop s).1 h) refl)

age_asks : (n : ℕ) (s : State) → Asks s (ask_age n s)
age_asks n s = go (bit_at 31 n)
  where
    go : (b : Bool) → Asks s (if b then s else ask (Age (age_bits n)) true s)
    go true = asks_refl s
    go false = ask_asks (Age (age_bits n)) true s

age_now : (spend : Spend) (w : Elements) (n : ℕ) (s : State) → AllStated spend w (ask_age n s).facts → age_passes spend n ≡ true
unfolding age_passes
age_now spend w n s h = go (bit_at 31 n) refl h
  where
    go : (b : Bool) → bit_at 31 n ≡ b → AllStated spend w (if b then s else ask (Age (age_bits n)) true s).facts → age_passes spend n ≡ true
    go true e h = or_left _ _ e
    go false e h = sym (age_bits-passes spend n e) ∙ asked_now spend w (Age (age_bits n)) true s h

pub age_follows : (counted : ℕ) (s : State) (n : ℕ) → LockIs (pop s).0 n → Follows counted CheckSequenceVerify s Next (push (pop s).0 (ask_age n (pop s).1))
unfolding effect
age_follows counted s n k =
    plain_follows counted CheckSequenceVerify s (push (pop s).0 (ask_age n (pop s).1)) (push_grows s _ (pop s).0 (grows_trans s (pop s).1 _ (pop_grows s) (asks_grows _ _ (age_asks n (pop s).1)))) (λ spend w c sh en h.
    let a = age_asks n (pop s).1 in
    let m = (asks_grows _ _ a).more in
    let sl = ap (λ t. t.slots) a.same in
    ap (effect spend c CheckSequenceVerify) (pop_entries spend w s (omega arith))
    ∙ rw (k.same spend w, k.positive, k.magnitude, age_now spend w n (pop s).1 h) (ap (λ st. plain (item_for spend w (pop s).0 ∷ st)) (sym (asks_entries spend w (pop s).1 _ a))))

-- EQUALVERIFY, and the others that push one symbol for what they take
pub verify_follows : (counted : ℕ) (s : State) (z : Sym) (c : Condition) (s' : State) → IsEqualOf (pop s).0 (pop (pop s).1).0 z → IsDecided z c → Insists c (pop (pop s).1).1 s' → Follows counted EqualVerify s Next s'
unfolding effect
verify_follows counted s z c s' q d i =
    plain_follows counted EqualVerify s s' (grows_trans s (pop s).1 s' (pop_grows s) (grows_trans (pop s).1 (pop (pop s).1).1 s' (pop_grows (pop s).1) (asks_grows _ _ i.asks))) (λ spend w k sh en h.
    let sl = ap (λ t. t.slots) i.asks.same in
    let equal : bytes_eq (item_for spend w (pop s).0) (item_for spend w (pop (pop s).1).0) ≡ true =
    sym (truth_flag _) ∙ ap truth (q spend w sh) ∙ d spend w ∙ i.now spend w h in
    ap (effect spend k EqualVerify) (pop_entries-2 spend w s (omega arith))
    ∙ result_if-true _ (FailedCheck Verify) (plain (entries_of spend w (pop (pop s).1).1)) equal
    ∙ ap plain (sym (asks_entries spend w _ s' i.asks)))

pub equal_follows : (counted : ℕ) (s : State) (z : Sym) → IsEqualOf (pop s).0 (pop (pop s).1).0 z → Follows counted Equal s Next (push z (pop (pop s).1).1)
unfolding effect
equal_follows counted s z q =
    plain_follows counted Equal s (push z (pop (pop s).1).1) (push_grows s _ z (grows_trans s (pop s).1 _ (pop_grows s) (pop_grows (pop s).1))) (λ spend w k sh en h.
    ap (effect spend k Equal) (pop_entries-2 spend w s en) ∙ ap (λ i. plain (i ∷ entries_of spend w (pop (pop s).1).1)) (q spend w sh))

pub size_follows : (counted : ℕ) (s : State) (z : Sym) → IsSizeOf (pop s).0 z → Follows counted Size s Next (push z (push (pop s).0 (pop s).1))
unfolding effect
size_follows counted s z q =
    plain_follows counted Size s _ (push_grows s _ z (push_grows s _ (pop s).0 (pop_grows s))) (λ spend w k sh en h.
    ap (effect spend k Size) (pop_entries spend w s en) ∙ ap (λ i. plain (i ∷ item_for spend w (pop s).0 ∷ entries_of spend w (pop s).1)) (q spend w))

pub hash_follows : (counted : ℕ) (s : State) (z : Sym) → IsHashOf (pop s).0 z → Follows counted Hash160 s Next (push z (pop s).1)
unfolding effect
hash_follows counted s z q =
    plain_follows counted Hash160 s _ (push_grows s _ z (pop_grows s)) (λ spend w k sh en h.
    ap (effect spend k Hash160) (pop_entries spend w s en) ∙ ap (λ i. plain (i ∷ entries_of spend w (pop s).1)) (q spend w))

pub drop_follows : (counted : ℕ) (s : State) → Follows counted Drop s Next (pop s).1
unfolding effect
drop_follows counted s = plain_follows counted Drop s _ (pop_grows s) (λ spend w k sh en h. ap (effect spend k Drop) (pop_entries spend w s en))

pub dup_follows : (counted : ℕ) (s : State) → Follows counted Dup s Next (push (pop s).0 (push (pop s).0 (pop s).1))
unfolding effect
dup_follows counted s = plain_follows counted Dup s _ (push_grows s _ (pop s).0 (push_grows s _ (pop s).0 (pop_grows s))) (λ spend w k sh en h. ap (effect spend k Dup) (pop_entries spend w s en))

pub swap_follows : (counted : ℕ) (s : State) → Follows counted Swap s Next (push (pop (pop s).1).0 (push (pop s).0 (pop (pop s).1).1))
unfolding effect
swap_follows counted s = plain_follows counted Swap s _ (push_grows s _ _ (push_grows s _ (pop s).0 (grows_trans s (pop s).1 _ (pop_grows s) (pop_grows (pop s).1)))) (λ spend w k sh en h. ap (effect spend k Swap) (pop_entries-2 spend w s en))

pub push_follows : (counted : ℕ) (s : State) (item : List ℕ) → Follows counted (Push item) s Next (push (Const item) s)
unfolding effect
push_follows counted s item = plain_follows counted (Push item) s _ (push_grows s s (Const item) (grows_refl s)) (λ spend w k sh en h. refl)

pub number_follows : (counted : ℕ) (s : State) (n : ℕ) → Follows counted (SmallNumber n) s Next (push (Const (n ∷ [])) s)
unfolding effect
number_follows counted s n = plain_follows counted (SmallNumber n) s _ (push_grows s s (Const (n ∷ [])) (grows_refl s)) (λ spend w k sh en h. refl)

pub end_follows : (counted : ℕ) (s : State) → Follows counted EndIf s Next s
unfolding effect
end_follows counted s = plain_follows counted EndIf s s (grows_refl s) (λ spend w k sh en h. refl)

pub else_follows : (counted : ℕ) (s : State) → Follows counted Else s AfterEndIf s
unfolding effect
else_follows counted s = record {
  ahead = refl;
  excess = refl;
  more = omega arith;
  facts = λ spend w h. h;
  used = 0;
  keys = omega arith;
  few = λ l. l;
  step = λ spend w c l sh en h. refl;
}

-- CHECKSIG
pub record IsSigned (key sig : Sym) (s s' : State) : Type 0 where
  pub grows : Grows s s'
  pub step : (spend : Spend) (w : Elements) → AllStated spend w s'.facts → check_sig_effect spend (item_for spend w key) (item_for spend w sig) (entries_of spend w s) ≡ plain (entries_of spend w s')

check_sig_effect-good : (spend : Spend) (key sig : List ℕ) (stack : Elements) (r : List ℕ) → is_signature sig ≡ true → is_key key ≡ true → flag (bytes_eq sig (token_of key spend.digest)) ≡ r → check_sig_effect spend key sig stack ≡ plain (r ∷ stack)
check_sig_effect-good spend key sig stack r a b e = rw (a, b, e) refl

-- the form of a key is asked, or it is known
pub key_asks : (source : KeySource) (s : State) → Asks s (ask_key source s)
key_asks (FixedKey b) s = asks_refl s
key_asks (SlotKey i) s = ask_asks (KeyForm i) true s

-- a symbol that a key comes from, and no bad one
pub record IsSource (x : Sym) (source : KeySource) : Type 0 where
  pub item : (spend : Spend) (w : Elements) → item_for spend w x ≡ key_of w source
  pub form : is_bad_key x ≡ false → (spend : Spend) (w : Elements) (s : State) → AllStated spend w (ask_key source s).facts → is_key (key_of w source) ≡ true

pub source_good : (x : Sym) → Gives (IsSource x) (source_of x)
source_good (Const b) = record { item = λ spend w. refl; form = λ e spend w s h. not-false (is_key b) e }
source_good (Slot i) = record { item = λ spend w. refl; form = λ e spend w s h. asked_now spend w (KeyForm i) true s h }
source_good (HashOf i) = tt
source_good (SizeOf i) = tt
source_good (Holds fact) = tt

-- the empty item is a signature of good form, and no token
empty_is_signature : is_signature [] ≡ true
unfolding is_signature
empty_is_signature = refl

empty_no_token : (key digest : List ℕ) → flag (bytes_eq [] (token_of key digest)) ≡ []
unfolding token_of
empty_no_token [] [] = refl
empty_no_token [] (d ∷ digest) = refl
empty_no_token (k ∷ key) digest = refl

signed_good : (key : Sym) (source : KeySource) (sig : Sym) (s : State) → is_bad_key key ≡ false → IsSource key source → Gives (IsSigned key sig s) (signature_rule source sig s)
signed_good key source (Slot i) s e k = record {
  grows = push_grows s _ (Holds (Token i source)) (grows_trans s (ask_key source s) _ (asks_grows _ _ (key_asks source s)) (asks_grows _ _ (ask_asks (Form i) true (ask_key source s))));
  step = λ spend w h.
      let a = asks_trans _ _ _ (key_asks source s) (ask_asks (Form i) true (ask_key source s)) in
      let keyed = (stated_parts spend w (ask_key source s).facts _ h).0 in
      ap (λ b. check_sig_effect spend b (slot_of w i) (entries_of spend w s)) (k.item spend w)
      ∙ check_sig_effect-good spend (key_of w source) (slot_of w i) (entries_of spend w s) _ (asked_now spend w (Form i) true (ask_key source s) h) (k.form e spend w s keyed) refl
      ∙ ap (λ st. plain (flag (holds_of spend w (Token i source)) ∷ st)) (sym (asks_entries spend w s _ a));
}
signed_good key source (Const []) s e k = record {
  grows = push_grows s _ (Const []) (asks_grows _ _ (key_asks source s));
  step = λ spend w h.
      ap (λ b. check_sig_effect spend b [] (entries_of spend w s)) (k.item spend w)
      ∙ check_sig_effect-good spend (key_of w source) [] (entries_of spend w s) [] empty_is_signature (k.form e spend w s h) (empty_no_token (key_of w source) spend.digest)
      ∙ ap (λ st. plain ([] ∷ st)) (sym (asks_entries spend w s _ (key_asks source s)));
}
signed_good key source (Const (b ∷ bs)) s e k = tt
signed_good key source (HashOf i) s e k = tt
signed_good key source (SizeOf i) s e k = tt
signed_good key source (Holds fact) s e k = tt

pub check_sig_good : (key sig : Sym) (s : State) → Gives (IsSigned key sig s) (check_sig key sig s)
check_sig_good key sig s =
    gives_result_if (IsSigned key sig s) (not (is_bad_key key || is_bad_signature sig)) Dead (source_of key >>= λ source. signature_rule source sig s) (λ e.
    let p = or_parts (is_bad_key key) (is_bad_signature sig) (not-true _ e) in
    gives_then (IsSource key) (IsSigned key sig s) (source_of key) (λ source. signature_rule source sig s) (source_good key) (λ source k. signed_good key source sig s p.0 k))

pub check_sig_follows : (counted : ℕ) (s s' : State) → IsSigned (pop s).0 (pop (pop s).1).0 (pop (pop s).1).1 s' → Follows counted CheckSig s Next s'
unfolding effect
check_sig_follows counted s s' i =
    plain_follows counted CheckSig s s' (grows_trans s (pop s).1 s' (pop_grows s) (grows_trans (pop s).1 (pop (pop s).1).1 s' (pop_grows (pop s).1) i.grows)) (λ spend w k sh en h.
    let m = i.grows.more in
    ap (effect spend k CheckSig) (pop_entries-2 spend w s (omega arith)) ∙ i.step spend w h)
