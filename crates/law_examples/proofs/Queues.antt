-- The queue of jobs: a put at its limit, and the shares of its passes.
use Rattle.std.proofs.Common.{◌≡◌, ℕ, zero, suc, ◌≤◌, List, [], ◌∷◌, ◌++◌, length, sym, ap, refl, arith, length-append}
use Rattle.std.specs.Prelude.{slice_set}
use mathlib.Core.Option.{some, some-ne-none, some-injective}
use lib.ListN.{get_elem?}
use Rattle.jobs.specs.declared.rule.Hand.{Hand}
use Rattle.jobs.specs.Rule.{hand, IsFair, HoldAllShares}
use Rattle.jobs.specs.Steps.{IsPut}

-- yes: IsFair, by crates/jobs/proofs/Examples.antt: one_left
-- no: IsFair, by crates/jobs/proofs/Examples.antt: lost
-- no: HoldAllShares, by crates/jobs/proofs/Examples.antt: one_pass_more

module _ {J : Type 0} (v w : Hand J) (job : J) where
  -- the 64th job is put, and then the queue is full
  -- yes: IsPut
  last_put : (items : List J) (views : List (Hand J)) → length items ≡ 63 → IsFair items views → get_elem? views 1 ≡ some v → IsFair (items ++ job ∷ []) (slice_set views 1 w) → w ≡ hand v.halvings (v.put ++ job ∷ []) v.taken
      → IsPut v job w
  last_put items views l b h a e = record { pass = 1; items = items; views = views; before = b; here = h; room = omega (arith, l); after = a; added = e }

  -- no: IsPut
  full : (p : IsPut v job w) → length p.items ≡ 64 → ⊥
  full p e = let r = p.room in omega (arith, e, r)

  -- no: IsPut
  not_added : length v.put ≡ 1 → length w.put ≡ 1 → IsPut v job w → ⊥
  not_added e f p =
      let g : length w.put ≡ length (v.put ++ job ∷ []) = ap (λ (u : Hand J). length u.put) p.added in
      let h = length-append v.put (job ∷ []) in
      omega (arith, e, f, g, h)

whole_few : (pass : ℕ) (v : Hand ℕ) → get_elem? (hand 0 (7 ∷ []) [] ∷ []) pass ≡ some v → v.halvings ≤ 0
whole_few zero v at = let e : 0 ≡ v.halvings = ap (λ (u : Hand ℕ). u.halvings) (some-injective (hand 0 (7 ∷ []) []) v at) in omega (arith, e)
whole_few (suc pass) v at = absurd (some-ne-none v (sym at))

-- yes: HoldAllShares
one_has_all : HoldAllShares {J = ℕ} (hand 0 (7 ∷ []) [] ∷ [])
one_has_all = record { most = 0; few = whole_few; whole = refl }
