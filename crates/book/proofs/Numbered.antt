-- Flags beside the numbers that are kept.
use Rattle.std.proofs.Common.{◌≡◌, ℕ, zero, suc, ◌+◌, ◌<◌, ◌≤◌, ◌==◌, ◌||◌, if◌then◌else◌, Bool, true, false, List, [], ◌∷◌, ◌++◌, length, cond, get_or, Some, None, Result, Ok, Err, refl, sym, ap, ◌∙◌, subst, arith, ⊎_elim, set}
use Rattle.std.specs.Prelude.{slice_get, is_ok, nat_lt}
use Rattle.std.proofs.lemmas.Bool.{eqb-true, eqb-false, cases_lt}
use Rattle.std.proofs.lemmas.List.{length-set, length-append}
use Rattle.std.proofs.lemmas.List.Folds.{list_any-append}
use Rattle.book.specs.Books.{is_kept, missing_from}
use Rattle.book.specs.Kept.{AreFlags}

-- the lowest missing number is `below`, where all numbers below it are kept and it is not
pub missing_is : (kept : List ℕ) (n count below : ℕ) → n ≤ below → ((m : ℕ) → m < below → is_kept kept m ≡ true) → is_kept kept below ≡ false
    → missing_from kept n count ≡ (if nat_lt below (n + count) then Some below else None)
missing_is kept n zero below from before here = let e : nat_lt below (n + 0) ≡ false = grind arith in rw e refl
missing_is kept n (suc count) below from before here = ⊎_elim (λ lt. earlier lt (missing_is kept (n + 1) count below (omega arith) before here)) now (cases_lt n below)
  where
    earlier : n < below → missing_from kept (n + 1) count ≡ (if nat_lt below (n + 1 + count) then Some below else None)
        → missing_from kept n (suc count) ≡ (if nat_lt below (n + suc count) then Some below else None)
    earlier lt rest =
        let sum : n + 1 + count ≡ n + suc count = omega arith in
        rw (before n lt) (subst (λ k. missing_from kept (n + 1) count ≡ (if nat_lt below k then Some below else None)) sum rest)

    now : below ≤ n → missing_from kept n (suc count) ≡ (if nat_lt below (n + suc count) then Some below else None)
    now le =
        let same : below ≡ n = omega arith in
        let e : nat_lt below (n + suc count) ≡ true = grind arith in
        let gone : is_kept kept n ≡ false = ap (is_kept kept) (sym same) ∙ here in
        rw (gone, e) (ap Some (sym same))

-- the lowest missing number, and that none is missing
pub missing_here : (kept : List ℕ) (flags : List Bool) (below : ℕ) → AreFlags kept flags below → below < length flags → missing_from kept 0 (length flags) ≡ Some below
missing_here kept flags below are lt = let e : nat_lt below (0 + length flags) ≡ true = grind arith in missing_is kept 0 (length flags) below (omega arith) are.before are.here ∙ rw e refl

pub missing_none : (kept : List ℕ) (flags : List Bool) (below : ℕ) → AreFlags kept flags below → length flags ≤ below → missing_from kept 0 (length flags) ≡ None
missing_none kept flags below are le = let e : nat_lt below (0 + length flags) ≡ false = grind arith in missing_is kept 0 (length flags) below (omega arith) are.before are.here ∙ rw e refl

-- ---- a flag that is set

set_here : (flags : List Bool) (n : ℕ) → n < length flags → slice_get (set flags n true) n ≡ Some true
set_here [] n within = absurd (omega (arith, within))
set_here (x ∷ flags) zero within = refl
set_here (x ∷ flags) (suc n) within = set_here flags n (omega arith)

set_other : (flags : List Bool) (n m : ℕ) → (n ≡ m → ⊥) → slice_get (set flags n true) m ≡ slice_get flags m
set_other [] n m other = refl
set_other (x ∷ flags) zero zero other = absurd (other refl)
set_other (x ∷ flags) zero (suc m) other = refl
set_other (x ∷ flags) (suc n) zero other = refl
set_other (x ∷ flags) (suc n) (suc m) other = set_other flags n m (λ e. other (ap suc e))

some_is : {a b : Bool} → Some a ≡ Some b → a ≡ b
some_is e = cc

one_more : (kept : List ℕ) (n m : ℕ) → is_kept (kept ++ n ∷ []) m ≡ (is_kept kept m || (n == m))
one_more kept n m = list_any-append (λ k. k == m) kept (n ∷ []) ∙ last (is_kept kept m) (n == m)
  where
    last : (a b : Bool) → (a || (b || false)) ≡ (a || b)
    last true b = refl
    last false true = refl
    last false false = refl

or_true : (a : Bool) → (a || true) ≡ true
or_true true = refl
or_true false = refl

or_false : (a : Bool) → (a || false) ≡ a
or_false true = refl
or_false false = refl

-- one more number is kept
pub kept_one : (kept : List ℕ) (flags : List Bool) (below n next : ℕ) → AreFlags kept flags below → n < length flags → below ≤ next
    → next ≤ length (set flags n true)
    → ((m : ℕ) → below ≤ m → m < next → slice_get (set flags n true) m ≡ Some true)
    → (next < length (set flags n true) → slice_get (set flags n true) next ≡ Some false)
    → AreFlags (kept ++ n ∷ []) (set flags n true) next
kept_one kept flags below n next are within from to passed stopped = record {
  each = each;
  later = later;
  before = λ m lt. ⊎_elim (λ old. rw (one_more kept n m) (rw (are.before m old) refl)) (λ le. some_is (sym (each m (omega (arith, lt, to))) ∙ passed m le lt)) (cases_lt m below);
  here = ⊎_elim (λ lt. some_is (sym (each next lt) ∙ stopped lt)) (λ le. later next le) (cases_lt next (length (set flags n true)));
}
  where
    same : length (set flags n true) ≡ length flags
    same = length-set flags n true

    by : (m : ℕ) → m < length flags → (here : Bool) → (n == m) ≡ here → slice_get (set flags n true) m ≡ Some (is_kept kept m || here)
    by m lt true e = rw (or_true (is_kept kept m)) (subst (λ k. slice_get (set flags n true) k ≡ Some true) (eqb-true n m e) (set_here flags n within))
    by m lt false e = rw (or_false (is_kept kept m)) (set_other flags n m (eqb-false n m e) ∙ are.each m lt)

    each : (m : ℕ) → m < length (set flags n true) → slice_get (set flags n true) m ≡ Some (is_kept (kept ++ n ∷ []) m)
    each m lt = by m (omega (arith, same, lt)) (n == m) refl ∙ ap Some (sym (one_more kept n m))

    later : (m : ℕ) → length (set flags n true) ≤ m → is_kept (kept ++ n ∷ []) m ≡ false
    later m le =
        let other : (n == m) ≡ false = grind (arith, same) in
        one_more kept n m ∙ rw (are.later m (omega (arith, same, le)), other) refl

-- ---- one more flag, which is not set

-- the items after a push
pub grown : {A T E : Type 0} (r : Result T E) (x : T) (items before history : List A) (e : A) → r ≡ Ok x → items ≡ cond (is_ok r) (before ++ e ∷ []) before → before ≡ history → items ≡ history ++ e ∷ []
grown (Ok y) x items before history e ok is same = is ∙ ap (λ es. es ++ e ∷ []) same
grown (Err y) x items before history e ok is same = absurd cc

as_before : (flags : List Bool) (n : ℕ) → n < length flags → slice_get (flags ++ false ∷ []) n ≡ slice_get flags n
as_before [] n within = absurd (omega (arith, within))
as_before (x ∷ flags) zero within = refl
as_before (x ∷ flags) (suc n) within = as_before flags n (omega (arith, within))

at_last : (flags : List Bool) (n : ℕ) → n ≡ length flags → slice_get (flags ++ false ∷ []) n ≡ Some false
at_last [] n e = rw e refl
at_last (x ∷ flags) zero e = absurd (omega (arith, e))
at_last (x ∷ flags) (suc n) e = at_last flags n (omega (arith, e))

pub one_unset : (kept : List ℕ) (flags : List Bool) (below : ℕ) → AreFlags kept flags below → AreFlags kept (flags ++ false ∷ []) below
one_unset kept flags below are = record { each = each; later = λ n le. are.later n (omega (arith, longer, le)); before = are.before; here = are.here }
  where
    longer : length (flags ++ false ∷ []) ≡ length flags + 1
    longer = length-append flags (false ∷ [])

    each : (n : ℕ) → n < length (flags ++ false ∷ []) → slice_get (flags ++ false ∷ []) n ≡ Some (is_kept kept n)
    each n lt = ⊎_elim (λ old. as_before flags n old ∙ are.each n old) (λ le. at_last flags n (omega (arith, longer, lt, le)) ∙ ap Some (sym (are.later n le))) (cases_lt n (length flags))

-- ---- a scan of the flags

flag_here : (flags : List Bool) (n : ℕ) (b : Bool) → n < length flags → get_or flags n false ≡ b → slice_get flags n ≡ Some b
flag_here [] n b within e = absurd (omega (arith, within))
flag_here (x ∷ flags) zero b within e = ap Some e
flag_here (x ∷ flags) (suc n) b within e = flag_here flags n b (omega (arith, within)) e

-- the scan stops here
pub stops : (flags : List Bool) (n : ℕ) → get_or flags n false ≡ false → n < length flags → slice_get flags n ≡ Some false
stops flags n e within = flag_here flags n false within e

-- one more is set
pub goes_on : (flags : List Bool) (from n : ℕ) → n < length flags → get_or flags n false ≡ true → ((m : ℕ) → from ≤ m → m < n → slice_get flags m ≡ Some true)
    → (m : ℕ) → from ≤ m → m < n + 1 → slice_get flags m ≡ Some true
goes_on flags from n within e before m lo hi = ⊎_elim (before m lo) (λ le. let same : n ≡ m = omega (arith, hi, le) in subst (λ k. slice_get flags k ≡ Some true) same (flag_here flags n true within e)) (cases_lt m n)
