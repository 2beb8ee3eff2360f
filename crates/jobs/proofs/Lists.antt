-- What all passes hold together, after one view changed or a new pass came; and a log with one more step.
use Rattle.std.proofs.Common.{◌≡◌, ◌≢◌, ℕ, zero, suc, ◌<◌, ◌==◌, Bool, List, [], ◌∷◌, ◌++◌, length, filter, set, sym, refl, ap, ◌∙◌, subst, append_assoc, eq-eqb, ne_eqb, arith}
use Rattle.std.specs.List.{flat_map}
use Rattle.std.specs.List.Sorted.{IsPermutation}
use Rattle.std.proofs.lemmas.List.{append-nil}
use Rattle.std.proofs.lemmas.List.Elements.{filter-append}
use Rattle.std.proofs.lemmas.List.Sorted.{IsPermutation-append_comm, IsPermutation-append_right}
use mathlib.Core.Option.{some, some-ne-none, some-injective}
use lib.ListN.{get_elem?}
use Rattle.jobs.specs.declared.rule.Hand.{Hand}
use Rattle.jobs.specs.Rule.{Log, jobs_of, by_pass}

pub in_range : {A : Type 0} (l : List A) (i : ℕ) (a : A) → get_elem? l i ≡ some a → i < length l
in_range [] i a e = absurd (some-ne-none a (sym e))
in_range (x ∷ xs) zero a e = omega arith
in_range (x ∷ xs) (suc i) a e = let r = in_range xs i a e in omega arith

module _ {J : Type 0} (g : Hand J → List J) where
  -- one view has one more job, and so have all views together
  pub grown : (views : List (Hand J)) (p : ℕ) (v w : Hand J) (x : J) → get_elem? views p ≡ some v → g w ≡ g v ++ x ∷ [] → IsPermutation (flat_map g views ++ x ∷ []) (flat_map g (set views p w))
  grown [] p v w x e is = absurd (some-ne-none v (sym e))
  grown (u ∷ us) zero v w x e is =
      let mine : g w ≡ g u ++ x ∷ [] = is ∙ ap (λ s. g s ++ x ∷ []) (sym (some-injective u v e)) in
      let P : List J → Type 0 = λ l. IsPermutation ((g u ++ flat_map g us) ++ x ∷ []) (l ++ flat_map g us) in
      let Q : List J → Type 0 = λ l. IsPermutation l ((g u ++ x ∷ []) ++ flat_map g us) in
      let R : List J → Type 0 = λ l. IsPermutation (g u ++ (flat_map g us ++ x ∷ [])) l in
      subst P (sym mine) (subst Q (sym (append_assoc (g u) (flat_map g us) (x ∷ []))) (subst R (sym (append_assoc (g u) (x ∷ []) (flat_map g us))) (IsPermutation-append_right (g u) (flat_map g us ++ x ∷ []) (x ∷ [] ++ flat_map g us) (IsPermutation-append_comm (flat_map g us) (x ∷ [])))))
  grown (u ∷ us) (suc p) v w x e is =
      let Q : List J → Type 0 = λ l. IsPermutation l (g u ++ flat_map g (set us p w)) in
      subst Q (sym (append_assoc (g u) (flat_map g us) (x ∷ []))) (IsPermutation-append_right (g u) (flat_map g us ++ x ∷ []) (flat_map g (set us p w)) (grown us p v w x e is))

  -- one view changed, but not in g
  pub unmoved : (views : List (Hand J)) (p : ℕ) (v w : Hand J) → get_elem? views p ≡ some v → g w ≡ g v → flat_map g (set views p w) ≡ flat_map g views
  unmoved [] p v w e is = refl
  unmoved (u ∷ us) zero v w e is = ap (λ l. l ++ flat_map g us) (is ∙ ap g (sym (some-injective u v e)))
  unmoved (u ∷ us) (suc p) v w e is = ap (λ l. g u ++ l) (unmoved us p v w e is)

  -- a new pass came with nothing
  pub joined : (views : List (Hand J)) (w : Hand J) → g w ≡ [] → flat_map g (views ++ w ∷ []) ≡ flat_map g views
  joined [] w is = ap (λ l. l ++ []) is
  joined (u ∷ us) w is = ap (λ l. g u ++ l) (joined us w is)

module _ {J : Type 0} where
  pub jobs_of-push : (log : Log J) (s : ℕ × J) → jobs_of (log ++ s ∷ []) ≡ jobs_of log ++ s.1 ∷ []
  jobs_of-push [] s = refl
  jobs_of-push (t ∷ log) s = ap (λ l. t.1 ∷ l) (jobs_of-push log s)

  abbrev of_pass : ℕ → ℕ × J → Bool
  of_pass p s = s.0 == p

  one_own : (p : ℕ) (x : J) → filter (of_pass p) ((p, x) ∷ []) ≡ (p, x) ∷ []
  one_own p x = rw (eq-eqb p p refl) refl

  one_other : (p q : ℕ) (x : J) → q ≢ p → filter (of_pass p) ((q, x) ∷ []) ≡ []
  one_other p q x n = rw (ne_eqb q p n) refl

  -- a step is among those of its own pass
  pub by_own : (p : ℕ) (log : Log J) (x : J) → by_pass p (log ++ (p, x) ∷ []) ≡ by_pass p log ++ x ∷ []
  by_own p log x = ap jobs_of (filter-append (of_pass p) log ((p, x) ∷ []) ∙ ap (λ l. filter (of_pass p) log ++ l) (one_own p x)) ∙ jobs_of-push (filter (of_pass p) log) (p, x)

  pub by_other : (p q : ℕ) (log : Log J) (x : J) → q ≢ p → by_pass p (log ++ (q, x) ∷ []) ≡ by_pass p log
  by_other p q log x n = ap jobs_of (filter-append (of_pass p) log ((q, x) ∷ []) ∙ (ap (λ l. filter (of_pass p) log ++ l) (one_other p q x n) ∙ append-nil (filter (of_pass p) log)))
