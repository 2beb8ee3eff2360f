-- A script ends in one way on a witness, so what the function answers is all that holds.
use Rattle.std.proofs.Common.{◌≡◌, ℕ, ◌+◌, ◌<◌, ◌≤◌, List, [], ◌∷◌, ◌++◌, length, take, drop, take-append-drop, sym, ap, ◌∙◌, refl, arith, subst, Result, Ok, Err, ⊎_elim, true≢false}
use Rattle.std.specs.Prelude.{Any, ◌↔◌}
use Rattle.std.proofs.lemmas.Bool.{cases_lt}
use Rattle.script.specs.declared.opcode.Op.{Op}
use Rattle.script.specs.declared.spending.Spend.{Spend}
use Rattle.script.specs.declared.stops.Cause.{Cause}
use Rattle.script.specs.Step.{Effect, effect, truth}
use Rattle.script.specs.Run.{counted_in, Outcome, Clean, Stopped, outcome}
use Rattle.script.specs.Clean.{Jumps, Point, Chain, ends, goes_on, RunsTo, start_on, AreShort, IsClean, Fails, FaultAt, too_many, misplaced, failing, AreFaultless, StopsAt, long_item, least_fault, open_end, not_one, false_end, CleanIsExact, StopIsExact, JumpIsExact}
use Rattle.script.proofs.Blocks.{jumps_are, jumps_made}
use Rattle.script.proofs.Chains.{stands_within, step_does, one_run, chain_rest, keys_grow, counted_in_part}
use Rattle.script.proofs.Following.{same_effect, Verdict, holds_so}

not_both : (witness : List (List ℕ)) → AreShort witness → Any (λ item. 520 < length item) witness → ⊥
not_both witness s a = let p = s a.0 a.1 a.2 in let q : length a.1 ≤ 520 = subst (λ x. length x ≤ 520) a.3 p in let r = a.4 in omega arith

-- one list: the values of a result
ok_same : (a b : Effect) → ◌≡◌ {A = Result Effect Cause} (Ok a) (Ok b) → a ≡ b
ok_same a b e = cc

-- a fault's position is in the list
fault_within : (spend : Spend) (ops : List Op) (witness : List (List ℕ)) (k : ℕ) (c : Cause) → FaultAt spend ops witness k c → k < length ops
fault_within spend ops witness k c (too_many o) = o.within
fault_within spend ops witness k c (misplaced n m) = let w = stands_within k ops m.op m.rest m.here in omega arith
fault_within spend ops witness k c (failing n m f) = let w = stands_within k ops f.op f.rest f.here in omega arith

-- one position has one first fault
fails_same : (r : Result Effect Cause) (c d : Cause) → Fails r c → Fails r d → c ≡ d
fails_same (Ok done) c d f g = f.1 ∙ sym g.1
fails_same (Err e) c d f g = f ∙ sym g

one_fault : (spend : Spend) (ops : List Op) (witness : List (List ℕ)) (k : ℕ) (c d : Cause) → FaultAt spend ops witness k c → FaultAt spend ops witness k d → c ≡ d
one_fault spend ops witness k c d (too_many o) (too_many o') = refl
one_fault spend ops witness k c d (too_many o) (misplaced n m) = absurd (n o)
one_fault spend ops witness k c d (too_many o) (failing n m f) = absurd (n o)
one_fault spend ops witness k c d (misplaced n m) (too_many o) = absurd (n o)
one_fault spend ops witness k c d (misplaced n m) (misplaced n' m') = refl
one_fault spend ops witness k c d (misplaced n m) (failing n' m' f) = absurd (m' m)
one_fault spend ops witness k c d (failing n m f) (too_many o) = absurd (n o)
one_fault spend ops witness k c d (failing n m f) (misplaced n' m') = absurd (m m')
one_fault spend ops witness k c d (failing n m f) (failing n' m' g) =
    fails_same (effect spend (counted_in (take (k + 1) ops) + f.point.keys) f.op f.point.stack) c d f.fails (same_effect spend ops witness k f.point f.op f.rest d f.runs f.here g).1

-- a chain that goes on does what the opcode does
fails_not : (spend : Spend) (ops : List Op) (m : ℕ) (x z : Point) (op : Op) (rest : List Op) (c : Cause) → drop x.at ops ≡ op ∷ rest → x.at < m → m ≤ z.at → Chain spend ops m x z → Fails (effect spend (counted_in (take (x.at + 1) ops) + x.keys) op x.stack) c → ⊥
fails_not spend ops m x z op rest c e l r ends f = omega arith
fails_not spend ops m x z op rest c e l r (goes_on {y = y} a s low d) f =
    let p = step_does spend ops x y op rest (effect spend (counted_in (take (x.at + 1) ops) + x.keys) op x.stack) s e refl in
    let q : Fails (Ok p.0) c = subst (λ r. Fails r c) p.1 f in
    let h : 1000 < length p.0.stack = q.0 in
    let g : y.stack ≡ p.0.stack = ap (λ t. t.stack) p.2 in
    let i : length y.stack ≡ length p.0.stack = ap length g in
    omega arith

-- the end of a clean run
abbrev final_point : List Op → List ℕ → ℕ → ℕ → Point
final_point ops last keys height = record { at = length ops; stack = last ∷ []; keys = keys; height = height }

-- a clean run has no fault
module _ (spend : Spend) (ops : List Op) (witness : List (List ℕ)) (counted height : ℕ) (clean : IsClean spend ops witness counted height) where
  later : (k : ℕ) (x : Point) → k ≤ length ops → RunsTo spend ops witness k x → Chain spend ops (length ops) x (final_point ops clean.last clean.keys height)
  later k x l r = chain_rest spend ops k (length ops) (start_on witness) x (final_point ops clean.last clean.keys height) l r.reached (omega arith) r.chain clean.runs.chain

  pub faultless : (k : ℕ) (c : Cause) → FaultAt spend ops witness k c → ⊥
  faultless k c (too_many o) =
      let l = o.within in
      let g = keys_grow spend ops (length ops) o.point (final_point ops clean.last clean.keys height) (later k o.point (omega arith) o.runs) in
      let p = counted_in_part (k + 1) ops in
      let a = o.above in let s = clean.sum in let m = clean.limit in
      omega arith
  faultless k c (misplaced n m) = m.refused (clean.placed (take k ops) m.rest m.op (sym (take-append-drop k ops) ∙ ap (λ xs. take k ops ++ xs) m.here))
  faultless k c (failing n m f) =
      let w = stands_within k ops f.op f.rest f.here in
      let e = f.comes in
      fails_not spend ops (length ops) f.point (final_point ops clean.last clean.keys height) f.op f.rest c
      (ap (λ i. drop i ops) e ∙ f.here) (omega arith) (omega arith) (later k f.point (omega arith) f.runs)
      (subst (λ i. Fails (effect spend (counted_in (take (i + 1) ops) + f.point.keys) f.op f.point.stack) c) (sym e) f.fails)

  final_stack : (x : Point) → RunsTo spend ops witness (length ops) x → x.stack ≡ clean.last ∷ []
  final_stack x r = ap (λ y. y.stack) (one_run spend ops witness (length ops) x (final_point ops clean.last clean.keys height) r clean.runs)

  pub not_stopped : (k : ℕ) (c : Cause) → StopsAt spend ops witness k c → ⊥
  not_stopped k c (long_item a) = not_both witness clean.short a
  not_stopped k c (least_fault s n f) = faultless k c f
  not_stopped k c (open_end s n h) = clean.closed h
  not_stopped k c (not_one {x = x} s n h r m) = m (ap length (final_stack x r))
  not_stopped k c (false_end {x = x} {last = last} s n h r e f) =
      let g : last ≡ clean.last = let p : last ∷ [] ≡ clean.last ∷ [] = sym e ∙ final_stack x r in cc in
      true≢false (sym clean.holds ∙ ap truth (sym g) ∙ f)

-- two clean ends are the same
same_clean : (spend : Spend) (ops : List Op) (witness : List (List ℕ)) (n h n' h' : ℕ) → IsClean spend ops witness n h → IsClean spend ops witness n' h' → Clean n h ≡ Clean n' h'
same_clean spend ops witness n h n' h' a b =
    let p = one_run spend ops witness (length ops) (final_point ops a.last a.keys h) (final_point ops b.last b.keys h') a.runs b.runs in
    let k : a.keys ≡ b.keys = ap (λ x. x.keys) p in
    let e : h ≡ h' = ap (λ x. x.height) p in
    let f : n ≡ n' = a.sum ∙ ap (λ k. counted_in ops + k) k ∙ sym b.sum in
    cc

-- two stops are the same
module _ (spend : Spend) (ops : List Op) (witness : List (List ℕ)) where
  by_order : (k j : ℕ) (c d : Cause) → AreFaultless spend ops witness k → AreFaultless spend ops witness j → FaultAt spend ops witness k c → FaultAt spend ops witness j d → (k ≡ j) × (c ≡ d)
  by_order k j c d n m f g =
      ⊎_elim
      (λ l. absurd (m k c l f))
      (λ l. ⊎_elim
      (λ l'. absurd (n j d l' g))
      (λ l'. let e : k ≡ j = omega arith in (e, one_fault spend ops witness j c d (subst (λ i. FaultAt spend ops witness i c) e f) g))
      (cases_lt j k))
      (cases_lt k j)

  not_late : (k : ℕ) (c : Cause) → AreFaultless spend ops witness (length ops) → FaultAt spend ops witness k c → ⊥
  not_late k c n f = n k c (fault_within spend ops witness k c f) f

  stacks_agree : (x y : Point) → RunsTo spend ops witness (length ops) x → RunsTo spend ops witness (length ops) y → x.stack ≡ y.stack
  stacks_agree x y r s = ap (λ z. z.stack) (one_run spend ops witness (length ops) x y r s)

  same_stop : (k j : ℕ) (c d : Cause) → StopsAt spend ops witness k c → StopsAt spend ops witness j d → (k ≡ j) × (c ≡ d)
  same_stop k j c d (long_item a) (long_item b) = (refl, refl)
  same_stop k j c d (long_item a) (least_fault s n f) = absurd (not_both witness s a)
  same_stop k j c d (long_item a) (open_end s n h) = absurd (not_both witness s a)
  same_stop k j c d (long_item a) (not_one s n h r m) = absurd (not_both witness s a)
  same_stop k j c d (long_item a) (false_end s n h r e f) = absurd (not_both witness s a)
  same_stop k j c d (least_fault s n f) (long_item a) = absurd (not_both witness s a)
  same_stop k j c d (open_end s n h) (long_item a) = absurd (not_both witness s a)
  same_stop k j c d (not_one s n h r m) (long_item a) = absurd (not_both witness s a)
  same_stop k j c d (false_end s n h r e f) (long_item a) = absurd (not_both witness s a)
  same_stop k j c d (least_fault s n f) (least_fault s' n' f') = by_order k j c d n n' f f'
  same_stop k j c d (least_fault s n f) (open_end s' n' h) = absurd (not_late k c n' f)
  same_stop k j c d (least_fault s n f) (not_one s' n' h r m) = absurd (not_late k c n' f)
  same_stop k j c d (least_fault s n f) (false_end s' n' h r e g) = absurd (not_late k c n' f)
  same_stop k j c d (open_end s' n' h) (least_fault s n f) = absurd (not_late j d n' f)
  same_stop k j c d (not_one s' n' h r m) (least_fault s n f) = absurd (not_late j d n' f)
  same_stop k j c d (false_end s' n' h r e g) (least_fault s n f) = absurd (not_late j d n' f)
  same_stop k j c d (open_end s n h) (open_end s' n' h') = (refl, refl)
  same_stop k j c d (open_end s n h) (not_one s' n' h' r m) = absurd (h' h)
  same_stop k j c d (open_end s n h) (false_end s' n' h' r e g) = absurd (h' h)
  same_stop k j c d (not_one s' n' h' r m) (open_end s n h) = absurd (h' h)
  same_stop k j c d (false_end s' n' h' r e g) (open_end s n h) = absurd (h' h)
  same_stop k j c d (not_one s n h r m) (not_one s' n' h' r' m') = (refl, refl)
  same_stop k j c d (not_one {x = x} s n h r m) (false_end {x = y} {last = last} s' n' h' r' e g) = absurd (m (ap length (stacks_agree x y r r' ∙ e)))
  same_stop k j c d (false_end {x = y} {last = last} s' n' h' r' e g) (not_one {x = x} s n h r m) = absurd (m (ap length (stacks_agree x y r r' ∙ e)))
  same_stop k j c d (false_end s n h r e f) (false_end s' n' h' r' e' f') = (refl, refl)

-- all that holds is what the function answers
verdicts_agree : (spend : Spend) (ops : List Op) (witness : List (List ℕ)) (o q : Outcome) → Verdict spend ops witness o → Verdict spend ops witness q → o ≡ q
verdicts_agree spend ops witness (Clean n h) (Clean n' h') a b = same_clean spend ops witness n h n' h' a b
verdicts_agree spend ops witness (Clean n h) (Stopped k c) a b = absurd (not_stopped spend ops witness n h a k c b)
verdicts_agree spend ops witness (Stopped k c) (Clean n h) a b = absurd (not_stopped spend ops witness n h b k c a)
verdicts_agree spend ops witness (Stopped k c) (Stopped j d) a b = let p = same_stop spend ops witness k j c d a b in let e = p.0 in let f = p.1 in cc

pub is_exact : (spend : Spend) (ops : List Op) (witness : List (List ℕ)) (o : Outcome) → (outcome spend ops witness ≡ o) ↔ Verdict spend ops witness o
is_exact spend ops witness o = (
  λ e. subst (Verdict spend ops witness) e (holds_so spend ops witness),
  λ v. verdicts_agree spend ops witness (outcome spend ops witness) o (holds_so spend ops witness) v,
)

pub clean_is_exact : CleanIsExact
clean_is_exact spend ops witness counted height = is_exact spend ops witness (Clean counted height)

pub stop_is_exact : StopIsExact
stop_is_exact spend ops witness at cause = is_exact spend ops witness (Stopped at cause)

pub jump_is_exact : JumpIsExact
jump_is_exact rest move n = (jumps_are rest move n, λ e. subst (Jumps rest move) (sym e) (jumps_made move rest))
