-- What all views contain together, after one view changed or a new seat came.
use Rattle.std.proofs.Common.{◌≡◌, ◌≢◌, ℕ, zero, suc, ◌+◌, ◌*◌, ◌<◌, ◌≤◌, List, [], ◌∷◌, ◌++◌, length, set, sym, refl, ap, ◌∙◌, subst, ⊎_elim, All, Contains, sum_by, arith, add-one, append_assoc, length-append}
use Rattle.std.specs.List.{flat_map}
use Rattle.std.specs.List.Sorted.{IsPermutation}
use Rattle.std.proofs.lemmas.List.Elements.{All-push, All-weaker, All-contains, All-contains_itself, Contains-append_left, Contains-append_right}
use Rattle.std.proofs.lemmas.List.Sorted.{IsPermutation-append_comm, IsPermutation-append_right}
use Rattle.std.proofs.lemmas.List.Sums.{sum_by-cons}
use mathlib.Core.Option.{some, some-ne-none, some-injective}
use lib.ListN.{get_elem?}
use Rattle.atomic_table.proofs.Lists.{at_set, at_snoc}
use Rattle.board.specs.declared.rule.SeatView.{SeatView}
use Rattle.board.specs.Rule.{numbers_below}

abbrev pub At : List SeatView → ℕ → SeatView → Type 0
At views p v = get_elem? views p ≡ some v

-- a fact of each view, after one changed
pub set_each : (F : SeatView → Type 0) (views : List SeatView) (p : ℕ) (w : SeatView) → F w → ((j : ℕ) (u : SeatView) → At views j u → F u) → (j : ℕ) (u : SeatView) → At (set views p w) j u → F u
set_each F views p w mine others j u e = ⊎_elim
    (λ (is : (j ≡ p) × (w ≡ u)). subst F is.1 mine)
    (λ (is : (j ≢ p) × At views j u). others j u is.1)
    (at_set views p j w u e)

-- a fact of each view, after a new seat came
pub push_each : (F : SeatView → Type 0) (views : List SeatView) (w : SeatView) → F w → ((j : ℕ) (u : SeatView) → At views j u → F u) → (j : ℕ) (u : SeatView) → At (views ++ w ∷ []) j u → F u
push_each F views w new others j u e = ⊎_elim (λ is. others j u is) (λ is. subst F is new) (at_snoc views w u j e)

pub sum_by_set : (f : SeatView → ℕ) (views : List SeatView) (p : ℕ) (v w : SeatView) → At views p v → sum_by f (set views p w) + f v ≡ sum_by f views + f w
sum_by_set f [] p v w e = absurd (some-ne-none v (sym e))
sum_by_set f (x ∷ xs) zero v w e = let s : f x ≡ f v = ap f (some-injective x v e) in omega (arith, sum_by-cons f w xs, sum_by-cons f x xs)
sum_by_set f (x ∷ xs) (suc p) v w e = let s = sum_by_set f xs p v w e in omega (arith, sum_by-cons f x (set xs p w), sum_by-cons f x xs)

-- if f is at most 2^32 times g in each view, so are their sums
pub sum_by_within : (f g : SeatView → ℕ) (views : List SeatView) → ((j : ℕ) (u : SeatView) → At views j u → f u ≤ 4294967296 * g u) → sum_by f views ≤ 4294967296 * sum_by g views
sum_by_within f g [] each = omega arith
sum_by_within f g (x ∷ xs) each = let here = each 0 x refl in let rest = sum_by_within f g xs (λ j u e. each (suc j) u e) in omega (arith, sum_by-cons f x xs, sum_by-cons g x xs)

module _ {X : Type 0} (g : SeatView → List X) where
  -- one view has one more element, and so have all views together
  pub grown : (views : List SeatView) (p : ℕ) (v w : SeatView) (x : X) → At views p v → g w ≡ g v ++ x ∷ [] → IsPermutation (flat_map g views ++ x ∷ []) (flat_map g (set views p w))
  grown [] p v w x e is = absurd (some-ne-none v (sym e))
  grown (u ∷ us) zero v w x e is =
      let mine : g w ≡ g u ++ x ∷ [] = is ∙ ap (λ s. g s ++ x ∷ []) (sym (some-injective u v e)) in
      let P : List X → Type 0 = λ l. IsPermutation ((g u ++ flat_map g us) ++ x ∷ []) (l ++ flat_map g us) in
      let Q : List X → Type 0 = λ l. IsPermutation l ((g u ++ x ∷ []) ++ flat_map g us) in
      let R : List X → Type 0 = λ l. IsPermutation (g u ++ (flat_map g us ++ x ∷ [])) l in
      subst P (sym mine) (subst Q (sym (append_assoc (g u) (flat_map g us) (x ∷ []))) (subst R (sym (append_assoc (g u) (x ∷ []) (flat_map g us))) (IsPermutation-append_right (g u) (flat_map g us ++ x ∷ []) (x ∷ [] ++ flat_map g us) (IsPermutation-append_comm (flat_map g us) (x ∷ [])))))
  grown (u ∷ us) (suc p) v w x e is =
      let Q : List X → Type 0 = λ l. IsPermutation l (g u ++ flat_map g (set us p w)) in
      subst Q (sym (append_assoc (g u) (flat_map g us) (x ∷ []))) (IsPermutation-append_right (g u) (flat_map g us ++ x ∷ []) (flat_map g (set us p w)) (grown us p v w x e is))

  -- one view changed, but not in g
  pub unmoved : (views : List SeatView) (p : ℕ) (v w : SeatView) → At views p v → g w ≡ g v → flat_map g (set views p w) ≡ flat_map g views
  unmoved [] p v w e is = refl
  unmoved (u ∷ us) zero v w e is = ap (λ l. l ++ flat_map g us) (is ∙ ap g (sym (some-injective u v e)))
  unmoved (u ∷ us) (suc p) v w e is = ap (λ l. g u ++ l) (unmoved us p v w e is)

  -- a new seat came with nothing
  pub joined : (views : List SeatView) (w : SeatView) → g w ≡ [] → flat_map g (views ++ w ∷ []) ≡ flat_map g views
  joined [] w is = ap (λ l. l ++ []) is
  joined (u ∷ us) w is = ap (λ l. g u ++ l) (joined us w is)

  -- an element of one view's list is one of all views' lists
  pub part : (views : List SeatView) (p : ℕ) (v : SeatView) (x : X) → At views p v → Contains (g v) x → Contains (flat_map g views) x
  part [] p v x e c = absurd (some-ne-none v (sym e))
  part (u ∷ us) zero v x e c = Contains-append_left (g u) (flat_map g us) x (subst (λ s. Contains (g s) x) (sym (some-injective u v e)) c)
  part (u ∷ us) (suc p) v x e c = Contains-append_right (g u) (flat_map g us) x (part us p v x e c)

  pub All_part : (P : X → Type 0) (views : List SeatView) (p : ℕ) (v : SeatView) → At views p v → All P (flat_map g views) → All P (g v)
  All_part P views p v e all = All-weaker (Contains (g v)) P (λ x c. All-contains P (flat_map g views) x all (part views p v x e c)) (g v) (All-contains_itself (g v))

pub numbers_below-one_more : (n : ℕ) → numbers_below (n + 1) ≡ numbers_below n ++ n ∷ []
numbers_below-one_more n = ap numbers_below (add-one n)

pub length-numbers_below : (n : ℕ) → length (numbers_below n) ≡ n
length-numbers_below zero = refl
length-numbers_below (suc n) = let s = length-numbers_below n in omega (arith, length-append (numbers_below n) (n ∷ []))

pub numbers_below-are_below : (n : ℕ) → All (λ x. x < n) (numbers_below n)
numbers_below-are_below zero = λ k d h. absurd (omega arith)
numbers_below-are_below (suc n) = All-push (λ x. x < suc n) (numbers_below n) n (All-weaker (λ x. x < n) (λ x. x < suc n) (λ x h. omega arith) (numbers_below n) (numbers_below-are_below n)) (omega arith)
