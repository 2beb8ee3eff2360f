-- Each step keeps the rule of the queue.
use Rattle.std.proofs.Common.{◌≡◌, ◌≢◌, ℕ, zero, suc, ◌≤◌, List, [], ◌∷◌, ◌++◌, length, set, sym, refl, ap, ◌∙◌, subst, ⊎_elim, ◌⊎◌, inl, inr, append_assoc, length-append, arith}
use Rattle.std.proofs.Math.ListN.{length-set}
use Rattle.std.specs.List.Sorted.{IsPermutation}
use Rattle.std.proofs.lemmas.List.Sorted.{IsPermutation-refl, IsPermutation-sym, IsPermutation-trans, IsPermutation-append_left}
use mathlib.Core.Option.{some, some-ne-none, some-injective}
use lib.ListN.{get_elem?}
use Rattle.crossbeam_channel.specs.Fifo.{Pushes, Pops, Forks, Learns}
use Rattle.atomic_table.proofs.Lists.{at_set}
use Rattle.jobs.specs.declared.rule.Hand.{Hand}
use Rattle.jobs.specs.Rule.{hand, idle, halved, other_half, put_by_all, taken_by_all, jobs_of, by_pass, IsFair}
use Rattle.jobs.specs.Steps.{IsPut, IsTake, HeldThen}
use Rattle.jobs.proofs.Lists.{in_range, grown, unmoved, joined, jobs_of-push, by_own, by_other}
use Rattle.jobs.proofs.Shares.{of_first, as_before, of_halves}

module _ {J : Type 0} where
  -- a view at the end, or one that stood there before
  push_cases : (l : List (Hand J)) (a b : Hand J) (j : ℕ) → get_elem? (l ++ a ∷ []) j ≡ some b → (get_elem? l j ≡ some b) ⊎ ((j ≡ length l) × (a ≡ b))
  push_cases [] a b zero e = inr (refl, some-injective a b e)
  push_cases [] a b (suc j) e = absurd (some-ne-none b (sym e))
  push_cases (x ∷ xs) a b zero e = inl e
  push_cases (x ∷ xs) a b (suc j) e = ⊎_elim (λ t. inl t) (λ t. inr (ap suc t.0, t.1)) (push_cases xs a b j e)

  pub begins : IsFair {J = J} [] (idle 0 ∷ [])
  begins = record {
    puts = [];
    takes = [];
    in_order = refl;
    each = λ p v at. ⊎_elim
        (λ none_there. absurd (some-ne-none v (sym none_there)))
        (λ (is : (p ≡ 0) × (idle 0 ≡ v)). (sym (ap (λ (u : Hand J). u.put) is.1), sym (ap (λ (u : Hand J). u.taken) is.1)))
        (push_cases [] (idle 0) v p at);
    no_others = λ p far. (refl, refl);
    balanced = IsPermutation-refl [];
    shares = of_first;
  }

  put_keeps : (p : ℕ) (v : Hand J) (x : J) (items : List J) (views : List (Hand J)) → IsFair items views → get_elem? views p ≡ some v → IsFair (items ++ x ∷ []) (set views p (hand v.halvings (v.put ++ x ∷ []) v.taken))
  put_keeps p v x items views h at =
      let w = hand v.halvings (v.put ++ x ∷ []) v.taken in
      let near = in_range views p v at in
      let mine = h.each p v at in
      let after = set views p w in
      let put = put_by_all views in
      let taken = taken_by_all views in record {
        puts = h.puts ++ (p, x) ∷ [];
        takes = h.takes;
        in_order = jobs_of-push h.puts (p, x) ∙ (ap (λ l. l ++ x ∷ []) h.in_order ∙ append_assoc (jobs_of h.takes) items (x ∷ []));
        each = λ j u e. ⊎_elim
            (λ (is : (j ≡ p) × (w ≡ u)). subst (λ (y : ℕ × Hand J). (y.1.put ≡ by_pass y.0 (h.puts ++ (p, x) ∷ [])) × (y.1.taken ≡ by_pass y.0 h.takes)) (λ i. (sym is.0 i, is.1 i)) (ap (λ l. l ++ x ∷ []) mine.0 ∙ sym (by_own p h.puts x), mine.1))
            (λ (is : (j ≢ p) × (get_elem? views j ≡ some u)). ((h.each j u is.1).0 ∙ sym (by_other j p h.puts x (λ q. is.0 (sym q))), (h.each j u is.1).1))
            (at_set views p j w u e);
        no_others = λ j far. let far' : length views ≤ j = subst (λ n. n ≤ j) (length-set views p w) far in let o = h.no_others j far' in (by_other j p h.puts x (λ is. absurd (omega arith)) ∙ o.0, o.1);
        balanced =
            let Q : List J → Type 0 = λ l. IsPermutation (put_by_all after) (l ++ (items ++ x ∷ [])) in
            let R : List J → Type 0 = λ l. IsPermutation (put_by_all after) l in
            subst Q (sym (unmoved (λ u. u.taken) views p v w at refl)) (subst R (append_assoc taken items (x ∷ [])) (IsPermutation-trans (put_by_all after) (put ++ x ∷ []) ((taken ++ items) ++ x ∷ [])
            (IsPermutation-sym (put ++ x ∷ []) (put_by_all after) (grown (λ u. u.put) views p v w x at refl))
            (IsPermutation-append_left (x ∷ []) put (taken ++ items) h.balanced)));
        shares = as_before views p v w h.shares at refl;
      }

  take_keeps : (p : ℕ) (v : Hand J) (x : J) (items : List J) (views : List (Hand J)) → IsFair (x ∷ items) views → get_elem? views p ≡ some v → IsFair items (set views p (hand v.halvings v.put (v.taken ++ x ∷ [])))
  take_keeps p v x items views h at =
      let w = hand v.halvings v.put (v.taken ++ x ∷ []) in
      let near = in_range views p v at in
      let mine = h.each p v at in
      let after = set views p w in
      let put = put_by_all views in
      let taken = taken_by_all views in record {
        puts = h.puts;
        takes = h.takes ++ (p, x) ∷ [];
        in_order = h.in_order ∙ (sym (append_assoc (jobs_of h.takes) (x ∷ []) items) ∙ ap (λ l. l ++ items) (sym (jobs_of-push h.takes (p, x))));
        each = λ j u e. ⊎_elim
            (λ (is : (j ≡ p) × (w ≡ u)). subst (λ (y : ℕ × Hand J). (y.1.put ≡ by_pass y.0 h.puts) × (y.1.taken ≡ by_pass y.0 (h.takes ++ (p, x) ∷ []))) (λ i. (sym is.0 i, is.1 i)) (mine.0, ap (λ l. l ++ x ∷ []) mine.1 ∙ sym (by_own p h.takes x)))
            (λ (is : (j ≢ p) × (get_elem? views j ≡ some u)). ((h.each j u is.1).0, (h.each j u is.1).1 ∙ sym (by_other j p h.takes x (λ q. is.0 (sym q)))))
            (at_set views p j w u e);
        no_others = λ j far. let far' : length views ≤ j = subst (λ n. n ≤ j) (length-set views p w) far in let o = h.no_others j far' in (o.0, by_other j p h.takes x (λ is. absurd (omega arith)) ∙ o.1);
        balanced =
            let Q : List J → Type 0 = λ l. IsPermutation l (taken_by_all after ++ items) in
            let R : List J → Type 0 = λ l. IsPermutation put l in
            subst Q (sym (unmoved (λ u. u.put) views p v w at refl)) (IsPermutation-trans put ((taken ++ x ∷ []) ++ items) (taken_by_all after ++ items)
            (subst R (sym (append_assoc taken (x ∷ []) items)) h.balanced)
            (IsPermutation-append_left items (taken ++ x ∷ []) (taken_by_all after) (grown (λ u. u.taken) views p v w x at refl)));
        shares = as_before views p v w h.shares at refl;
      }

  -- a new pass comes, with half of the pass's share
  pub forks : (p : ℕ) (v : Hand J) → Forks IsFair p v (halved v) (other_half v)
  forks p v items views h at =
      let cut = set views p (halved v) in
      let mine = h.each p v at in
      let same = length-set views p (halved v) in
      let put : put_by_all (cut ++ other_half v ∷ []) ≡ put_by_all views = joined (λ u. u.put) cut (other_half v) refl ∙ unmoved (λ u. u.put) views p v (halved v) at refl in
      let taken : taken_by_all (cut ++ other_half v ∷ []) ≡ taken_by_all views = joined (λ u. u.taken) cut (other_half v) refl ∙ unmoved (λ u. u.taken) views p v (halved v) at refl in record {
        puts = h.puts;
        takes = h.takes;
        in_order = h.in_order;
        each = λ j u e. ⊎_elim
            (λ old. ⊎_elim
            (λ (is : (j ≡ p) × (halved v ≡ u)). subst (λ (y : ℕ × Hand J). (y.1.put ≡ by_pass y.0 h.puts) × (y.1.taken ≡ by_pass y.0 h.takes)) (λ i. (sym is.0 i, is.1 i)) mine)
            (λ (is : (j ≢ p) × (get_elem? views j ≡ some u)). h.each j u is.1)
            (at_set views p j (halved v) u old))
            (λ (is : (j ≡ length cut) × (other_half v ≡ u)). let o = h.no_others j (omega (arith, same, is.0)) in (sym (ap (λ (y : Hand J). y.put) is.1) ∙ sym o.0, sym (ap (λ (y : Hand J). y.taken) is.1) ∙ sym o.1))
            (push_cases cut (other_half v) u j e);
        no_others = λ j far. h.no_others j (omega (arith, same, length-append cut (other_half v ∷ [])));
        balanced =
            let R : List J → Type 0 = λ l. IsPermutation l (taken_by_all (cut ++ other_half v ∷ []) ++ items) in
            let S : List J → Type 0 = λ l. IsPermutation (put_by_all views) (l ++ items) in
            subst R (sym put) (subst S (sym taken) h.balanced);
        shares = of_halves views p v h.shares at;
      }

  pub puts : (n p : ℕ) (v : Hand J) (x : J) → n ≤ 64 → Pushes IsFair n p v x (IsPut v x)
  puts n p v x le items views room h at =
      let w = hand v.halvings (v.put ++ x ∷ []) v.taken in
      let after = put_keeps p v x items views h at in
      (w, after, record { pass = p; items = items; views = views; before = h; here = at; room = omega arith; after = after; added = refl })

  pub takes : (p : ℕ) (v : Hand J) → Pops IsFair p v (IsTake v)
  takes p v x items views h at =
      let w = hand v.halvings v.put (v.taken ++ x ∷ []) in
      let after = take_keeps p v x items views h at in
      (w, after, record { pass = p; items = items; views = views; before = h; here = at; after = after; added = refl })

  pub learns : (p : ℕ) (v : Hand J) → Learns IsFair p v (HeldThen v)
  learns p v items views h at = record { pass = p; views = views; rule = h; here = at }
