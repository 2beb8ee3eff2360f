-- What stays marked.
use Rattle.std.proofs.Common.{◌≡◌, ℕ, zero, suc, ◌≤◌, Bool, true, false, ◌||◌, ◌&&◌, List, [], ◌∷◌, length, Option, Some, None, Result, Ok, Err, sym, ap, ◌∙◌, refl, subst, arith}
use Rattle.std.specs.Prelude.{if◌then◌else◌, nat_lt, slice_set, unwrap_or, OnOk, OnErr}
use Rattle.std.specs.Option.{option_or}
use Rattle.std.specs.Str.{bytes_eq}
use Rattle.std.proofs.lemmas.Bool.{false≢true, and_parts}
use Rattle.std.proofs.lemmas.Option.{none-some, slice_get_past}
use Rattle.std.proofs.lemmas.Slice.Eq.{bytes_eq-Decides}
use Rattle.tx.specs.declared.input.OutPoint.{OutPoint}
use Rattle.tx.specs.Fields.{same_outpoint}
use Rattle.tx.specs.Spelling.{transaction_id}
use Rattle.chain.proofs.Noting.{same_is}
use Rattle.sights.specs.declared.sighted.Sighted.{Sighted}
use Rattle.sights.specs.Sights.{is_funding, sighted_as, oldest, up_to}
use Rattle.sights.specs.Marks.{place_in, is_set, is_marked, AreMarked}
use Rattle.sights.proofs.Reading.{IsBelow, itself, onto}
use Rattle.sights.proofs.Staying.{sighted_later}

-- ---- a table

pub past : (xs : List Bool) (i : ℕ) → length xs ≤ i → is_set xs i ≡ true
past xs i l = ap (λ o. unwrap_or o true) (slice_get_past xs i l)

pub set_here : (xs : List Bool) (i : ℕ) → is_set (slice_set xs i true) i ≡ true
set_here [] i = past [] i (omega arith)
set_here (x ∷ xs) zero = refl
set_here (x ∷ xs) (suc i) = set_here xs i

pub set_others : (xs : List Bool) (i q : ℕ) → is_set xs q ≡ true → is_set (slice_set xs i true) q ≡ true
set_others [] i q h = h
set_others (x ∷ xs) zero zero h = refl
set_others (x ∷ xs) zero (suc q) h = h
set_others (x ∷ xs) (suc i) zero h = h
set_others (x ∷ xs) (suc i) (suc q) h = set_others xs i q h

pub both : (a b : Bool) → a ≡ true → b ≡ true → (a && b) ≡ true
both true b e f = f
both false b e f = absurd (false≢true e)

pub marked_here : (g t : List Bool) (id : List ℕ) (p q : ℕ) → p ≡ place_in id 0 1 → q ≡ place_in id 2 3 → is_set g p ≡ true → is_set t q ≡ true → is_marked g t id ≡ true
marked_here g t id p q first second e h = both (is_set g (place_in id 0 1)) (is_set t (place_in id 2 3)) (ap (is_set g) (sym first) ∙ e) (ap (is_set t) (sym second) ∙ h)

pub marked_still : (f s g t : List Bool) → ((q : ℕ) → is_set f q ≡ true → is_set g q ≡ true) → ((q : ℕ) → is_set s q ≡ true → is_set t q ≡ true) → (id : List ℕ) → is_marked f s id ≡ true → is_marked g t id ≡ true
marked_still f s g t m n id e =
    let parts = and_parts (is_set f (place_in id 0 1)) (is_set s (place_in id 2 3)) e in
    both (is_set g (place_in id 0 1)) (is_set t (place_in id 2 3)) (m (place_in id 0 1) parts.0) (n (place_in id 2 3) parts.1)

-- ---- what is there is marked

module _ (f s : List Bool) where
  pub nothing_marked : AreMarked f s [] []
  nothing_marked = record { outputs = λ o e. absurd (false≢true e); ids = λ id x e. absurd (none-some x e) }

  -- the marks of more
  pub more_marks : (g t : List Bool) (fs : List OutPoint) (ss : List Sighted) → ((q : List ℕ) → is_marked f s q ≡ true → is_marked g t q ≡ true) → AreMarked f s fs ss → AreMarked g t fs ss
  more_marks g t fs ss more m = record { outputs = λ o e. more o.txid (m.outputs o e); ids = λ id x e. more id (m.ids id x e) }

  by_funding : (fs : List OutPoint) (ss : List Sighted) (p o : OutPoint) (same : Bool) → is_marked f s p.txid ≡ true → AreMarked f s fs ss → same_outpoint p o ≡ same → (same || is_funding fs o) ≡ true → is_marked f s o.txid ≡ true
  by_funding fs ss p o true here m at e = ap (λ (q : OutPoint). is_marked f s q.txid) (sym (same_is p o at)) ∙ here
  by_funding fs ss p o false here m at e = m.outputs o e

  pub one_funding : (fs : List OutPoint) (ss : List Sighted) (p : OutPoint) → is_marked f s p.txid ≡ true → AreMarked f s fs ss → AreMarked f s (p ∷ fs) ss
  one_funding fs ss p here m = record { outputs = λ o e. by_funding fs ss p o (same_outpoint p o) here m refl e; ids = m.ids }

  by_sighted : (fs : List OutPoint) (ss : List Sighted) (n : Sighted) (id : List ℕ) (x : Sighted) (found : Option Sighted) (own : Bool) → is_marked f s (transaction_id n.tx) ≡ true → AreMarked f s fs ss → sighted_as id ss ≡ found
      → bytes_eq (transaction_id n.tx) id ≡ own → option_or found (if own then Some n else None) ≡ Some x → is_marked f s id ≡ true
  by_sighted fs ss n id x (Some y) own here m at same e = m.ids id y at
  by_sighted fs ss n id x None true here m at same e = ap (is_marked f s) (sym ((bytes_eq-Decides (transaction_id n.tx) id).0 same)) ∙ here
  by_sighted fs ss n id x None false here m at same e = absurd (none-some x e)

  pub one_sighted : (fs : List OutPoint) (ss : List Sighted) (n : Sighted) → is_marked f s (transaction_id n.tx) ≡ true → AreMarked f s fs ss → AreMarked f s fs (n ∷ ss)
  one_sighted fs ss n here m = record { outputs = m.outputs; ids = λ id x e. by_sighted fs ss n id x (sighted_as id ss) (bytes_eq (transaction_id n.tx) id) here m refl refl e }

  -- fewer are marked too
  pub fewer : (fs : List OutPoint) (old ss : List Sighted) → IsBelow old ss → AreMarked f s fs ss → AreMarked f s fs old
  fewer fs old ss b m = record { outputs = m.outputs; ids = λ id x e. m.ids id x (sighted_later id old ss b x e) }

  -- after a push, whether or not there was memory
  pub after_funding : {A E : Type 0} (r : Result A E) (before after : List OutPoint) (ss : List Sighted) (p : OutPoint) → OnOk r (after ≡ p ∷ before) → OnErr r (after ≡ before) → is_marked f s p.txid ≡ true → AreMarked f s before ss → AreMarked f s after ss
  after_funding (Ok v) before after ss p ok err here m = subst (λ (fs : List OutPoint). AreMarked f s fs ss) (sym ok) (one_funding before ss p here m)
  after_funding (Err e) before after ss p ok err here m = subst (λ (fs : List OutPoint). AreMarked f s fs ss) (sym err) m

  pub after_sighted : {A E : Type 0} (r : Result A E) (fs : List OutPoint) (before after : List Sighted) (n : Sighted) → OnOk r (after ≡ n ∷ before) → OnErr r (after ≡ before) → is_marked f s (transaction_id n.tx) ≡ true → AreMarked f s fs before
      → AreMarked f s fs after
  after_sighted (Ok v) fs before after n ok err here m = subst (λ (xs : List Sighted). AreMarked f s fs xs) (sym ok) (one_sighted fs before n here m)
  after_sighted (Err e) fs before after n ok err here m = subst (λ (xs : List Sighted). AreMarked f s fs xs) (sym err) m

pub oldest_below : (count : ℕ) (ss : List Sighted) → IsBelow (oldest count ss) ss
oldest_below count [] = itself
oldest_below count (x ∷ xs) = by (nat_lt count (length (x ∷ xs))) (oldest_below count xs)
  where
    by : (b : Bool) → IsBelow (oldest count xs) xs → IsBelow (if b then oldest count xs else x ∷ xs) (x ∷ xs)
    by true below = onto below
    by false below = itself

pub up_to_below : (height : ℕ) (ss : List Sighted) → IsBelow (up_to height ss) ss
up_to_below height [] = itself
up_to_below height (x ∷ xs) = by (nat_lt height x.height) (up_to_below height xs)
  where
    by : (b : Bool) → IsBelow (up_to height xs) xs → IsBelow (if b then up_to height xs else x ∷ xs) (x ∷ xs)
    by true below = onto below
    by false below = itself
