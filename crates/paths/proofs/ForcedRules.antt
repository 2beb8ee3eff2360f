-- Each rule but that of CHECKMULTISIG, where a run passes its opcode: the facts that it asks hold, and it does not die.
use Rattle.std.proofs.Common.{◌≡◌, ℕ, Bool, true, false, not, ◌||◌, List, [], ◌∷◌, Option, Some, None, Result, Ok, if◌then◌else◌, sym, ap, ◌∙◌, refl}
use Rattle.std.specs.Str.{bytes_eq}
use Rattle.std.proofs.lemmas.Bool.{or_from, not_from_true, not_from_false}
use Rattle.script.specs.declared.opcode.Op.TheVariants.{EqualVerify, CheckSig, CheckLockTimeVerify, CheckSequenceVerify}
use Rattle.script.specs.declared.spending.Spend.{Spend}
use Rattle.script.specs.declared.stops.Cause.{Cause}
use Rattle.script.specs.declared.stops.Cause.TheVariants.{MissingOperand, FailedCheck}
use Rattle.script.specs.declared.stops.Kind.{Kind}
use Rattle.script.specs.declared.stops.Kind.TheVariants.{Verify, LockTime, Sequence}
use Rattle.script.specs.declared.num.Number.{Number as Signed}
use Rattle.script.specs.Number.{number_of}
use Rattle.script.specs.Token.{is_key, is_signature}
use Rattle.script.specs.Step.{Elements, Effect, effect, plain, number_or_failure, magnitude_or_failure, lock_passes, age_passes, check_sig_effect, truth, bit_at, result_if, ◌>>=◌}
use Rattle.facts.specs.Symbols.{KeySource}
use Rattle.facts.specs.declared.symbols.KeySourceOver.TheVariants.{Const as FixedKey, Slot as SlotKey}
use Rattle.facts.specs.declared.symbols.FactOver.TheVariants.{KeyForm, Form, Lock, Age}
use Rattle.facts.specs.Symbols.{Sym}
use Rattle.facts.specs.declared.symbols.SymOver.TheVariants.{Slot, Const, HashOf, SizeOf, Holds}
use Rattle.facts.specs.Meaning.{key_of, item_for}
use Rattle.paths.specs.Plain.{State}
use Rattle.paths.specs.Plain.{Condition}
use Rattle.paths.specs.declared.state.ConditionOver.TheVariants.{Known, Asked}
use Rattle.paths.specs.Rules.{pop, push, ask, size_of, hash_of, equal_of, condition_of, insist, branch, is_bad_key, is_bad_signature, source_of, ask_key, signature_rule, check_sig, lock_of, age_bits, ask_age, goes_on}
use Rattle.paths.proofs.SoundWords.{entries_of, IsShort, decided_by, Asks}
use Rattle.paths.proofs.SoundPops.{pop_entries, pop_entries-2, asks_refl, ask_asks}
use Rattle.paths.proofs.SoundNumbers.{age_bits-passes}
use Rattle.paths.proofs.SoundRules.{truth_flag, IsDecided, condition_good, IsEqualOf, equal_good, IsSource, source_good}
use Rattle.paths.proofs.ForcedWords.{Forced, Lives, forced_then, forced_checked, forced_gives, ok_checked, ok_then, IsMet, IsMetBy, push_met, ask_met, pop_met, pop_met-2}

-- what decides a branch does not die, and neither does what the other opcodes push
pub condition_lives : (x : Sym) → Lives (condition_of x)
condition_lives (Slot i) = tt
condition_lives (Const b) = tt
condition_lives (HashOf i) = tt
condition_lives (SizeOf i) = tt
condition_lives (Holds fact) = tt

pub size_lives : (x : Sym) → Lives (size_of x)
size_lives (Slot i) = tt
size_lives (Const b) = tt
size_lives (HashOf i) = tt
size_lives (SizeOf i) = tt
size_lives (Holds fact) = tt

pub hash_lives : (x : Sym) → Lives (hash_of x)
hash_lives (Slot i) = tt
hash_lives (Const b) = tt
hash_lives (HashOf i) = tt
hash_lives (SizeOf i) = tt
hash_lives (Holds fact) = tt

pub equal_lives : (x y : Sym) → Lives (equal_of x y)
equal_lives (Const a) (Const b) = tt
equal_lives (HashOf i) (Const h) = tt
equal_lives (Const h) (HashOf i) = tt
equal_lives (SizeOf i) (Const b) = tt
equal_lives (Const b) (SizeOf i) = tt
equal_lives (Slot i) (Const b) = tt
equal_lives (Const b) (Slot i) = tt
equal_lives x y = tt

pub source_lives : (x : Sym) → Lives (source_of x)
source_lives (Slot i) = tt
source_lives (Const b) = tt
source_lives (HashOf i) = tt
source_lives (SizeOf i) = tt
source_lives (Holds fact) = tt

-- IF and NOTIF: nothing is asked before the ways part
pub branch_forced : (spend : Spend) (w : Elements) (runs : Bool) (c : Condition) (s : State) → IsMet spend w s → Forced (IsMetBy spend w) (branch runs c s)
branch_forced spend w runs (Known b) s m = m
branch_forced spend w runs (Asked fact) s m = m

-- a condition that holds
pub insist_forced : (spend : Spend) (w : Elements) (c : Condition) (s : State) → decided_by spend w c ≡ true → IsMet spend w s → Forced (λ s'. IsMet spend w s' × Asks s s') (insist c s)
insist_forced spend w (Known b) s e m = forced_checked (λ s'. IsMet spend w s' × Asks s s') b (Ok s) e (m, asks_refl s)
insist_forced spend w (Asked fact) s e m = (ask_met spend w fact true s e m, ask_asks fact true s)

-- EQUALVERIFY
pub verify_forced : (spend : Spend) (w : Elements) (c : ℕ) (s : State) (e : Effect) → IsShort w → IsMet spend w s → effect spend c EqualVerify (entries_of spend w s) ≡ Ok e → Forced (IsMetBy spend w) (equal_of (pop s).0 (pop (pop s).1).0 >>= λ x. condition_of x >>= λ d. insist d (pop (pop s).1).1 >>= goes_on)
unfolding effect
verify_forced spend w c s e sh m h =
    let m2 : IsMet spend w (pop (pop s).1).1 = pop_met-2 spend w s (effect spend c EqualVerify) MissingOperand e refl (λ x. refl) h m in
    let both : result_if (bytes_eq (item_for spend w (pop s).0) (item_for spend w (pop (pop s).1).0)) (FailedCheck Verify) (plain (entries_of spend w (pop (pop s).1).1)) ≡ Ok e =
    sym (ap (effect spend c EqualVerify) (pop_entries-2 spend w s m2.enough)) ∙ h in
    let same = (ok_checked _ _ _ e both).0 in
    forced_then (IsEqualOf (pop s).0 (pop (pop s).1).0) (IsMetBy spend w) (equal_of (pop s).0 (pop (pop s).1).0) _ (forced_gives (IsEqualOf (pop s).0 (pop (pop s).1).0) (equal_of (pop s).0 (pop (pop s).1).0) (equal_lives (pop s).0 (pop (pop s).1).0) (equal_good (pop s).0 (pop (pop s).1).0)) (λ z q.
    forced_then (IsDecided z) (IsMetBy spend w) (condition_of z) _ (forced_gives (IsDecided z) (condition_of z) (condition_lives z) (condition_good z)) (λ d k.
    forced_then (λ s'. IsMet spend w s' × Asks (pop (pop s).1).1 s') (IsMetBy spend w) (insist d (pop (pop s).1).1) goes_on (insist_forced spend w d (pop (pop s).1).1 (sym (k spend w) ∙ ap truth (sym (q spend w sh)) ∙ truth_flag _ ∙ same) m2) (λ s' m'. m'.0)))

-- CHECKSIG
pub good_key : (spend : Spend) (w : Elements) (x : Sym) → is_key (item_for spend w x) ≡ true → is_bad_key x ≡ false
good_key spend w (Const b) e = not_from_true (is_key b) e
good_key spend w (Slot i) e = refl
good_key spend w (HashOf i) e = refl
good_key spend w (SizeOf i) e = refl
good_key spend w (Holds fact) e = refl

good_signature : (spend : Spend) (w : Elements) (x : Sym) → is_signature (item_for spend w x) ≡ true → is_bad_signature x ≡ false
good_signature spend w (Const b) e = not_from_true (is_signature b) e
good_signature spend w (Slot i) e = refl
good_signature spend w (HashOf i) e = refl
good_signature spend w (SizeOf i) e = refl
good_signature spend w (Holds fact) e = refl

pub ask_key_met : (spend : Spend) (w : Elements) (key : KeySource) (s : State) → is_key (key_of w key) ≡ true → IsMet spend w s → IsMet spend w (ask_key key s)
ask_key_met spend w (FixedKey b) s e m = m
ask_key_met spend w (SlotKey i) s e m = ask_met spend w (KeyForm i) true s e m

signed_forced : (spend : Spend) (w : Elements) (key : KeySource) (sig : Sym) (s : State) → is_signature (item_for spend w sig) ≡ true → IsMet spend w (ask_key key s) → Forced (IsMet spend w) (signature_rule key sig s)
signed_forced spend w key (Slot i) s e m = push_met spend w _ _ (ask_met spend w (Form i) true (ask_key key s) e m)
signed_forced spend w key (Const []) s e m = push_met spend w (Const []) (ask_key key s) m
signed_forced spend w key (Const (b ∷ bs)) s e m = tt
signed_forced spend w key (HashOf i) s e m = tt
signed_forced spend w key (SizeOf i) s e m = tt
signed_forced spend w key (Holds fact) s e m = tt

pub check_sig_forced : (spend : Spend) (w : Elements) (c : ℕ) (s : State) (e : Effect) → IsMet spend w s → effect spend c CheckSig (entries_of spend w s) ≡ Ok e → Forced (IsMetBy spend w) (check_sig (pop s).0 (pop (pop s).1).0 (pop (pop s).1).1 >>= goes_on)
unfolding effect
check_sig_forced spend w c s e m h =
    let key = (pop s).0 in
    let sig = (pop (pop s).1).0 in
    let s2 = (pop (pop s).1).1 in
    let m2 : IsMet spend w (pop (pop s).1).1 = pop_met-2 spend w s (effect spend c CheckSig) MissingOperand e refl (λ x. refl) h m in
    let both : check_sig_effect spend (item_for spend w key) (item_for spend w sig) (entries_of spend w s2) ≡ Ok e = sym (ap (effect spend c CheckSig) (pop_entries-2 spend w s m2.enough)) ∙ h in
    let first = ok_checked _ _ _ e both in
    let second = ok_checked _ _ _ e first.1 in
    forced_then (IsMet spend w) (IsMetBy spend w) (check_sig key sig s2) goes_on (
    forced_checked (IsMet spend w) (not (is_bad_key key || is_bad_signature sig)) _ (not_from_false _ (or_from (is_bad_key key) (is_bad_signature sig) (good_key spend w key second.0) (good_signature spend w sig first.0))) (
    forced_then (IsSource key) (IsMet spend w) (source_of key) (λ source. signature_rule source sig s2) (forced_gives (IsSource key) (source_of key) (source_lives key) (source_good key)) (λ source k.
    signed_forced spend w source sig s2 first.0 (ask_key_met spend w source s2 (ap is_key (sym (k.item spend w)) ∙ second.0) m2)))
    ) (λ s' m'. m')

-- the locks
record Passes (limit : List ℕ) (passes : ℕ → Bool) : Type 0 where
  pub number : Signed
  pub same : number_of 5 limit ≡ Some number
  pub positive : not number.negative ≡ true
  pub passed : passes number.magnitude ≡ true

pub numbered_ok : (o : Option Signed) (z : Signed) → number_or_failure o ≡ Ok z → o ≡ Some z
numbered_ok (Some y) z e = cc
numbered_ok None z e = absurd (cc)

lock_parts : (kind : Kind) (item : List ℕ) (passes : ℕ → Bool) (r : Result Effect Cause) (e : Effect) → (number_or_failure (number_of 5 item) >>= λ z. magnitude_or_failure kind z >>= λ n. result_if (passes n) (FailedCheck kind) r) ≡ Ok e → Passes item passes
lock_parts kind item passes r e h =
    let first = ok_then (number_or_failure (number_of 5 item)) _ e h in
    let z : Signed = first.0 in
    let second = ok_then (magnitude_or_failure kind z) _ e first.2 in
    let n : ℕ = second.0 in
    let third = ok_checked (not z.negative) (FailedCheck kind) (Ok z.magnitude) n second.1 in
    let fourth = ok_checked (passes n) (FailedCheck kind) r e second.2 in
    let same : z.magnitude ≡ n = cc third.1 in
    record { number = z; same = numbered_ok (number_of 5 item) z first.1; positive = third.0; passed = ap passes same ∙ fourth.0 }

lock_forced : (spend : Spend) (w : Elements) (x : Sym) (passes : ℕ → Bool) → Passes (item_for spend w x) passes → Forced (λ n. passes n ≡ true) (lock_of x)
lock_forced spend w (Const b) passes p = rw p.same (forced_checked (λ n. passes n ≡ true) (not p.number.negative) (Ok p.number.magnitude) p.positive p.passed)
lock_forced spend w (Slot i) passes p = tt
lock_forced spend w (HashOf i) passes p = tt
lock_forced spend w (SizeOf i) passes p = tt
lock_forced spend w (Holds fact) passes p = tt

pub lock_time_forced : (spend : Spend) (w : Elements) (c : ℕ) (s : State) (e : Effect) → IsMet spend w s → effect spend c CheckLockTimeVerify (entries_of spend w s) ≡ Ok e → Forced (IsMetBy spend w) (lock_of (pop s).0 >>= λ n. goes_on (push (pop s).0 (ask (Lock n) true (pop s).1)))
unfolding effect
lock_time_forced spend w c s e m h =
    let m1 : IsMet spend w (pop s).1 = pop_met spend w s (effect spend c CheckLockTimeVerify) MissingOperand e refl h m in
    let p = lock_parts LockTime (item_for spend w (pop s).0) (lock_passes spend) (plain (item_for spend w (pop s).0 ∷ entries_of spend w (pop s).1)) e (sym (ap (effect spend c CheckLockTimeVerify) (pop_entries spend w s m1.enough)) ∙ h) in
    forced_then (λ n. lock_passes spend n ≡ true) (IsMetBy spend w) (lock_of (pop s).0) _ (lock_forced spend w (pop s).0 (lock_passes spend) p) (λ n k. push_met spend w (pop s).0 _ (ask_met spend w (Lock n) true (pop s).1 k m1))

age_met : (spend : Spend) (w : Elements) (n : ℕ) (s : State) → age_passes spend n ≡ true → IsMet spend w s → IsMet spend w (ask_age n s)
age_met spend w n s k m = go (bit_at 31 n) refl
  where
    go : (b : Bool) → bit_at 31 n ≡ b → IsMet spend w (if b then s else ask (Age (age_bits n)) true s)
    go true e = m
    go false e = ask_met spend w (Age (age_bits n)) true s (age_bits-passes spend n e ∙ k) m

pub sequence_forced : (spend : Spend) (w : Elements) (c : ℕ) (s : State) (e : Effect) → IsMet spend w s → effect spend c CheckSequenceVerify (entries_of spend w s) ≡ Ok e → Forced (IsMetBy spend w) (lock_of (pop s).0 >>= λ n. goes_on (push (pop s).0 (ask_age n (pop s).1)))
unfolding effect
sequence_forced spend w c s e m h =
    let m1 : IsMet spend w (pop s).1 = pop_met spend w s (effect spend c CheckSequenceVerify) MissingOperand e refl h m in
    let p = lock_parts Sequence (item_for spend w (pop s).0) (age_passes spend) (plain (item_for spend w (pop s).0 ∷ entries_of spend w (pop s).1)) e (sym (ap (effect spend c CheckSequenceVerify) (pop_entries spend w s m1.enough)) ∙ h) in
    forced_then (λ n. age_passes spend n ≡ true) (IsMetBy spend w) (lock_of (pop s).0) _ (lock_forced spend w (pop s).0 (age_passes spend) p) (λ n k. push_met spend w (pop s).0 _ (age_met spend w n (pop s).1 k m1))
