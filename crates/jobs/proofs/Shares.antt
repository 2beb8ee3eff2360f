-- The shares of all passes, after a step of one pass, and after a pass made another.
use Rattle.std.proofs.Common.{◌≡◌, ◌≢◌, ℕ, zero, suc, ◌+◌, ◌-◌, ◌*◌, ◌≤◌, ◌^◌, List, [], ◌∷◌, ◌++◌, set, sym, refl, ap, ◌∙◌, subst, ⊎_elim, sum_by, arith}
use Rattle.std.proofs.Math.Nat.{pow-succ'}
use Rattle.std.proofs.lemmas.List.Sums.{sum_by-cons, sum_by_push}
use mathlib.Core.Option.{some, some-ne-none, some-injective}
use lib.ListN.{get_elem?}
use Rattle.atomic_table.proofs.Lists.{at_set, at_snoc}
use Rattle.jobs.specs.declared.rule.Hand.{Hand}
use Rattle.jobs.specs.Rule.{idle, halved, other_half, HoldAllShares}

twice : (most n : ℕ) → n ≤ most → 2 ^ (most + 1 - n) ≡ 2 * 2 ^ (most - n)
twice most n le = let e : most + 1 - n ≡ suc (most - n) = omega (arith, le) in ap (λ k. 2 ^ k) e ∙ pow-succ' 2 (most - n)

module _ {J : Type 0} where
  -- a share in parts of 1 / 2^most
  abbrev pub parts : ℕ → Hand J → ℕ
  parts most v = 2 ^ (most - v.halvings)

  abbrev Few : ℕ → List (Hand J) → Type 0
  Few most views = (pass : ℕ) (v : Hand J) → get_elem? views pass ≡ some v → v.halvings ≤ most

  sum_by_set : (f : Hand J → ℕ) (views : List (Hand J)) (p : ℕ) (v w : Hand J) → get_elem? views p ≡ some v → sum_by f (set views p w) + f v ≡ sum_by f views + f w
  sum_by_set f [] p v w e = absurd (some-ne-none v (sym e))
  sum_by_set f (x ∷ xs) zero v w e = let s : f x ≡ f v = ap f (some-injective x v e) in omega (arith, sum_by-cons f w xs, sum_by-cons f x xs)
  sum_by_set f (x ∷ xs) (suc p) v w e = let s = sum_by_set f xs p v w e in omega (arith, sum_by-cons f x (set xs p w), sum_by-cons f x xs)

  -- in parts of half the size there are twice as many
  all_twice : (most : ℕ) (views : List (Hand J)) → Few most views → sum_by (parts (most + 1)) views ≡ 2 * sum_by (parts most) views
  all_twice most [] few = refl
  all_twice most (x ∷ xs) few =
      let here = twice most x.halvings (few 0 x refl) in
      let rest = all_twice most xs (λ j u e. few (suc j) u e) in
      omega (arith, here, rest, sum_by-cons (parts (most + 1)) x xs, sum_by-cons (parts most) x xs)

  few_set : (most : ℕ) (views : List (Hand J)) (p : ℕ) (w : Hand J) → w.halvings ≤ most → Few most views → Few most (set views p w)
  few_set most views p w mine others j u e = ⊎_elim
      (λ (is : (j ≡ p) × (w ≡ u)). subst (λ (x : Hand J). x.halvings ≤ most) is.1 mine)
      (λ (is : (j ≢ p) × (get_elem? views j ≡ some u)). others j u is.1)
      (at_set views p j w u e)

  few_push : (most : ℕ) (views : List (Hand J)) (w : Hand J) → w.halvings ≤ most → Few most views → Few most (views ++ w ∷ [])
  few_push most views w new others j u e = ⊎_elim (λ is. others j u is) (λ is. subst (λ (x : Hand J). x.halvings ≤ most) is new) (at_snoc views w u j e)

  pub of_first : HoldAllShares {J = J} (idle 0 ∷ [])
  of_first = record {
    most = 0;
    few = few_push 0 [] (idle 0) (omega arith) (λ j u e. absurd (some-ne-none u (sym e)));
    whole = refl;
  }

  pub as_before : (views : List (Hand J)) (p : ℕ) (v w : Hand J) → HoldAllShares views → get_elem? views p ≡ some v → w.halvings ≡ v.halvings → HoldAllShares (set views p w)
  as_before views p v w h at same =
      let sums = sum_by_set (parts h.most) views p v w at in
      let mine : parts h.most w ≡ parts h.most v = ap (λ k. 2 ^ (h.most - k)) same in
      record {
        most = h.most;
        few = few_set h.most views p w (omega (arith, same, h.few p v at)) h.few;
        whole = omega (arith, sums, mine, h.whole);
      }

  pub of_halves : (views : List (Hand J)) (p : ℕ) (v : Hand J) → HoldAllShares views → get_elem? views p ≡ some v → HoldAllShares (set views p (halved v) ++ other_half v ∷ [])
  of_halves views p v h at =
      let more = h.most + 1 in
      let cut = set views p (halved v) in
      let few = h.few p v at in
      let less : v.halvings + 1 ≤ more = omega (arith, few) in
      let before : Few more views = λ j u e. let b = h.few j u e in omega (arith, b) in
      let sums = sum_by_set (parts more) views p v (halved v) at in
      let half : parts more (halved v) ≡ parts h.most v = ap (λ k. 2 ^ k) (omega (arith, few)) in
      let one = twice h.most v.halvings few in
      let all = all_twice h.most views h.few in
      let power : 2 ^ more ≡ 2 * 2 ^ h.most = (let e : more ≡ suc h.most = omega arith in ap (λ k. 2 ^ k) e ∙ pow-succ' 2 h.most) in
      let new = sum_by_push (parts more) cut (other_half v) in
      record {
        most = more;
        few = few_push more cut (other_half v) less (few_set more views p (halved v) less before);
        whole = omega (arith, sums, half, one, all, power, new, h.whole);
      }
