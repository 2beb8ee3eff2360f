-- Lists of one, and short chains: with one transaction, with a granted output, and with one that is taken.
use Rattle.std.proofs.Common.{◌≡◌, ℕ, zero, suc, true, false, List, [], ◌∷◌, Some, sym, ◌∙◌, refl, subst, ⊎_elim, arith, lit<}
use Rattle.std.specs.Prelude.{slice_get}
use Rattle.std.specs.List.{Contains}
use Rattle.std.proofs.lemmas.Option.{same_Some, slice_get_past}
use Rattle.std.proofs.lemmas.Slice.Eq.{bytes_eq-Decides}
use Rattle.tx.specs.declared.input.TxIn.{TxIn}
use Rattle.tx.specs.Parts.{Output}
use Rattle.tx.specs.Fields.{Transaction}
use Rattle.chain.specs.Blocks.{Contents as Block, Coin, grant_id, grant_outpoint, coin_at}
use Rattle.safety.specs.Standing.{StandsAt}
use Rattle.safety.proofs.Slots.{contains_cases}
use Rattle.safety.proofs.Lists.{none_some, contains_none}

-- ---- lists

pub only : {X : Type 0} (x y : X) → Contains (x ∷ []) y → x ≡ y
only {X} x y c = ⊎_elim {C = x ≡ y} (λ (e : x ≡ y). e) (λ (d : Contains [] y). absurd (contains_none y d)) (contains_cases x [] y c)

pub only_at : {X : Type 0} (x : X) (n : ℕ) (y : X) → slice_get (x ∷ []) n ≡ Some y → x ≡ y
only_at x zero y e = same_Some x y e
only_at x (suc n) y e = absurd (none_some y (sym (slice_get_past (x ∷ []) (suc n) (omega arith)) ∙ e))

pub none_at : {X : Type 0} (n : ℕ) (y : X) → slice_get [] n ≡ Some y → ⊥
none_at n y e = none_some y (sym (slice_get_past [] n (omega arith)) ∙ e)

-- ---- a transaction in the block of height 1

abbrev pub bare : Block
bare = record { transactions = []; granted = [] }

abbrev pub with_it : Transaction → List Block
with_it t = record { transactions = t ∷ []; granted = [] } ∷ bare ∷ []

pub stands_there : (t : Transaction) → StandsAt (with_it t) 1 t
stands_there t = record { block = record { transactions = t ∷ []; granted = [] }; there = refl; within = (0, lit< tt, refl) }

pub nothing_below : (t u : Transaction) → StandsAt (with_it t) 0 u → ⊥
nothing_below t u s = contains_none u (subst (λ (b : Block). Contains b.transactions u) (sym (same_Some bare s.block s.there)) s.within)

pub nothing_above : (t u : Transaction) (n : ℕ) → StandsAt (with_it t) (suc (suc n)) u → ⊥
nothing_above t u n s = none_some s.block (sym (slice_get_past (bare ∷ record { transactions = t ∷ []; granted = [] } ∷ []) (suc (suc n)) (omega arith)) ∙ s.there)

pub alone_there : (t : Transaction) (height : ℕ) (u : Transaction) → StandsAt (with_it t) height u → t ≡ u
alone_there t zero u s = absurd (nothing_below t u s)
alone_there t (suc zero) u s = only t u (subst (λ (b : Block). Contains b.transactions u) (sym (same_Some (record { transactions = t ∷ []; granted = [] }) s.block s.there)) s.within)
alone_there t (suc (suc n)) u s = absurd (nothing_above t u n s)

pub nothing_stands : (height : ℕ) (u : Transaction) → StandsAt [] height u → ⊥
nothing_stands height u s = none_at height s.block s.there

-- ---- an output that was granted in the block of height 1, and one that is taken in the block of height 2

abbrev pub granting : Output → List Block
granting out = record { transactions = []; granted = out ∷ [] } ∷ bare ∷ []

abbrev pub coin_from : Output → ℕ → Coin
coin_from out height = record { output = out; height = height; spent = false }

pub granted_there : (out : Output) → coin_at (granting out) (grant_outpoint 0) ≡ Some (coin_from out 1)
granted_there out = rw ((bytes_eq-Decides (grant_id 0) (grant_id 0)).1 refl) refl

module _ (out : Output) (outputs : List Output) (witness : List (List ℕ)) where
  abbrev pub naming : TxIn
  naming = record { outpoint = grant_outpoint 0; sequence = 0; witness = witness }

  abbrev pub taker : Transaction
  taker = record { version = 2; inputs = naming ∷ []; outputs = outputs; lock_time = 0 }

  abbrev pub with_taker : List Block
  with_taker = record { transactions = taker ∷ []; granted = [] } ∷ granting out

  pub taker_stands : StandsAt with_taker 2 taker
  taker_stands = record { block = record { transactions = taker ∷ []; granted = [] }; there = refl; within = (0, lit< tt, refl) }

  pub taken_there : coin_at with_taker (grant_outpoint 0) ≡ Some (record { output = out; height = 1; spent = true })
  taken_there = rw ((bytes_eq-Decides (grant_id 0) (grant_id 0)).1 refl) refl

  taker_alone : (n : ℕ) (u : Transaction) → StandsAt with_taker n u → (2 ≡ n) × (taker ≡ u)
  taker_alone zero u s = absurd (contains_none u (subst (λ (b : Block). Contains b.transactions u) (sym (same_Some bare s.block s.there)) s.within))
  taker_alone (suc zero) u s = absurd (contains_none u (subst (λ (b : Block). Contains b.transactions u) (sym (same_Some (record { transactions = []; granted = out ∷ [] }) s.block s.there)) s.within))
  taker_alone (suc (suc zero)) u s = (refl, only taker u (subst (λ (b : Block). Contains b.transactions u) (sym (same_Some (record { transactions = taker ∷ []; granted = [] }) s.block s.there)) s.within))
  taker_alone (suc (suc (suc n))) u s =
      absurd (none_some s.block (sym (slice_get_past (bare ∷ record { transactions = []; granted = out ∷ [] } ∷ record { transactions = taker ∷ []; granted = [] } ∷ []) (suc (suc (suc n))) (omega arith)) ∙ s.there))

  pub taken_at_two : (height : ℕ) (u : Transaction) → StandsAt with_taker height u → 2 ≡ height
  taken_at_two height u s = (taker_alone height u s).0

  pub taken_by_it : (height : ℕ) (u : Transaction) → StandsAt with_taker height u → taker ≡ u
  taken_by_it height u s = (taker_alone height u s).1
