-- A secret is foreign exactly where the store refuses it.
use Rattle.std.proofs.Common.{◌≡◌, ℕ, zero, suc, ◌-◌, ◌/◌, ◌^◌, ◌<◌, Bool, true, false, not, ◌||◌, eqb, nat_lt, List, [], ◌∷◌, length, Some, None, sym, ap, ◌∙◌, subst, refl, arith, inl, inr, slice_get}
use Rattle.std.specs.Str.{bytes_eq}
use Rattle.std.specs.Int.Count.{count_trailing_zeros}
use Rattle.std.proofs.lemmas.Bool.{cases_lt, and_parts, and_from, eqb-true, eq-eqb, cond-true, lt-ltb}
use Rattle.std.proofs.lemmas.Option.{slice_get_past}
use Rattle.secrets.proofs.Storing.{inserted_at-above}
use Rattle.std.proofs.lemmas.Slice.Eq.{bytes_eq-Decides}
use Rattle.secrets.specs.Derivation.{derived_secret}
use Rattle.secrets.specs.Inserted.{inserted_at, IsNext, LeadsTo}
use Rattle.channel.specs.Points.{index_of, leads_to_one, leads_to, is_foreign}

imply : (c d : Bool) → (c ≡ true → d ≡ true) → not c || d ≡ true
imply true d f = f refl
imply false d f = refl

implies : (c d : Bool) → not c || d ≡ true → c ≡ true → d ≡ true
implies true d h e = h
implies false d h e = absurd (cc)

pub one_from : (secret : List ℕ) (i : ℕ) (other : List ℕ) (j : ℕ) → (j / 2 ^ count_trailing_zeros 48 i ≡ i / 2 ^ count_trailing_zeros 48 i → other ≡ derived_secret secret (count_trailing_zeros 48 i) j) → leads_to_one secret i other j ≡ true
one_from secret i other j f =
    let b = count_trailing_zeros 48 i in
    imply (eqb (j / 2 ^ b) (i / 2 ^ b)) (bytes_eq other (derived_secret secret b j))
    (λ same. (bytes_eq-Decides other (derived_secret secret b j)).1 (f (eqb-true (j / 2 ^ b) (i / 2 ^ b) same)))

pub one_gives : (secret : List ℕ) (i : ℕ) (other : List ℕ) (j : ℕ) → leads_to_one secret i other j ≡ true → j / 2 ^ count_trailing_zeros 48 i ≡ i / 2 ^ count_trailing_zeros 48 i → other ≡ derived_secret secret (count_trailing_zeros 48 i) j
one_gives secret i other j h same =
    let b = count_trailing_zeros 48 i in
    (bytes_eq-Decides other (derived_secret secret b j)).0
    (implies (eqb (j / 2 ^ b) (i / 2 ^ b)) (bytes_eq other (derived_secret secret b j)) h (eq-eqb (j / 2 ^ b) (i / 2 ^ b) same))

all_from : (secret : List ℕ) (i : ℕ) (others : List (List ℕ)) (j : ℕ) → ((k : ℕ) (t : List ℕ) → slice_get others k ≡ Some t → leads_to_one secret i t (j - k) ≡ true) → leads_to secret i others j ≡ true
all_from secret i [] j f = refl
all_from secret i (other ∷ others) j f =
    let e : j - zero ≡ j = omega arith in
    and_from (leads_to_one secret i other j) (leads_to secret i others (j - 1)) (subst (λ n. leads_to_one secret i other n ≡ true) e (f zero other refl))
    (all_from secret i others (j - 1)
    (λ k t g. let e : j - suc k ≡ j - 1 - k = omega arith in subst (λ n. leads_to_one secret i t n ≡ true) e (f (suc k) t g)))

all_gives : (secret : List ℕ) (i : ℕ) (others : List (List ℕ)) (j : ℕ) → leads_to secret i others j ≡ true → (k : ℕ) (t : List ℕ) → slice_get others k ≡ Some t → leads_to_one secret i t (j - k) ≡ true
all_gives secret i [] j h k t g = absurd (cc)
all_gives secret i (other ∷ others) j h zero t g =
    let (first, rest) = and_parts (leads_to_one secret i other j) (leads_to secret i others (j - 1)) h in
    let e : j ≡ j - zero = omega arith in
    let same : other ≡ t = cc in
    subst (λ n. leads_to_one secret i t n ≡ true) e (subst (λ s. leads_to_one secret i s j ≡ true) same first)
all_gives secret i (other ∷ others) j h (suc k) t g =
    let (first, rest) = and_parts (leads_to_one secret i other j) (leads_to secret i others (j - 1)) h in
    let e : j - 1 - k ≡ j - suc k = omega arith in
    subst (λ n. leads_to_one secret i t n ≡ true) e (all_gives secret i others (j - 1) rest k t g)

inserted_at-within : (secrets : List (List ℕ)) (j : ℕ) → j < 2 ^ 48 → inserted_at secrets j ≡ slice_get secrets (2 ^ 48 - 1 - j)
unfolding inserted_at
inserted_at-within secrets j less = cond-true (nat_lt j (2 ^ 48)) (slice_get secrets (2 ^ 48 - 1 - j)) None (lt-ltb j (2 ^ 48) less)

-- the secret that was inserted at the index of a number stands at the number
pub numbered_at : (secrets : List (List ℕ)) (n : ℕ) → n < 2 ^ 48 → inserted_at secrets (2 ^ 48 - 1 - n) ≡ slice_get secrets n
numbered_at secrets n less =
    let e : 2 ^ 48 - 1 - (2 ^ 48 - 1 - n) ≡ n = omega (arith, less) in
    inserted_at-within secrets (2 ^ 48 - 1 - n) (omega arith) ∙ ap (slice_get secrets) e

-- what stands at a position was inserted at its index
stored_at : (secrets : List (List ℕ)) (k : ℕ) (t : List ℕ) → length secrets < 2 ^ 48 → slice_get secrets k ≡ Some t → inserted_at secrets (2 ^ 48 - 1 - k) ≡ Some t
stored_at secrets k t l g =
    elim (cases_lt k (length secrets)) [
      | inl small ↦
          (let e : 2 ^ 48 - 1 - (2 ^ 48 - 1 - k) ≡ k = omega arith in
          inserted_at-within secrets (2 ^ 48 - 1 - k) (omega arith) ∙ ap (slice_get secrets) e ∙ g)
      | inr past ↦ (let none = slice_get_past secrets k past in cc)
    ]

pub not_foreign : (secrets : List (List ℕ)) (secret : List ℕ) → length secrets < 2 ^ 48 → LeadsTo secret (index_of (length secrets)) secrets → is_foreign secrets secret ≡ false
unfolding is_foreign LeadsTo
not_foreign secrets secret l leads =
    let i = index_of (length secrets) in
    ap not (all_from secret i secrets (2 ^ 48 - 1) (λ k t g. one_from secret i t (2 ^ 48 - 1 - k) (leads (2 ^ 48 - 1 - k) t (stored_at secrets k t l g))))

leads_when : (secrets : List (List ℕ)) (secret : List ℕ) (i : ℕ) → leads_to secret i secrets (2 ^ 48 - 1) ≡ true → LeadsTo secret i secrets
unfolding LeadsTo
leads_when secrets secret i h j t eq same =
    elim (cases_lt j (2 ^ 48)) [
      | inl small ↦
          (let e : 2 ^ 48 - 1 - (2 ^ 48 - 1 - j) ≡ j = omega arith in
          let g : slice_get secrets (2 ^ 48 - 1 - j) ≡ Some t = sym (inserted_at-within secrets j small) ∙ eq in
          let one = all_gives secret i secrets (2 ^ 48 - 1) h (2 ^ 48 - 1 - j) t g in
          one_gives secret i t j (subst (λ n. leads_to_one secret i t n ≡ true) e one) same)
      | inr high ↦ (let none = inserted_at-above secrets j high in cc)
    ]

pub foreign_when : (secrets : List (List ℕ)) (secret : List ℕ) → (LeadsTo secret (index_of (length secrets)) secrets → ⊥) → is_foreign secrets secret ≡ true
unfolding is_foreign
foreign_when secrets secret n = by (leads_to secret (index_of (length secrets)) secrets (2 ^ 48 - 1)) refl
  where
    by : (b : Bool) → leads_to secret (index_of (length secrets)) secrets (2 ^ 48 - 1) ≡ b → not (leads_to secret (index_of (length secrets)) secrets (2 ^ 48 - 1)) ≡ true
    by true e = absurd (n (leads_when secrets secret (index_of (length secrets)) e))
    by false e = ap not e

-- a copy of the store takes a secret exactly where it isn't foreign
pub taken : (secrets copy : List (List ℕ)) (secret : List ℕ) (n : ℕ) → copy ≡ secrets → length secrets ≡ n → n < 2 ^ 48 → LeadsTo secret (2 ^ 48 - 1 - n) copy → is_foreign secrets secret ≡ false
unfolding index_of
taken secrets copy secret n e l h leads =
    let i : 2 ^ 48 - 1 - n ≡ index_of (length secrets) = ap (λ k. 2 ^ 48 - 1 - k) (sym l) in
    not_foreign secrets secret (omega (arith, l, h)) (subst (λ k. LeadsTo secret k secrets) i (subst (λ s. LeadsTo secret (2 ^ 48 - 1 - n) s) e leads))

pub refused : (secrets copy : List (List ℕ)) (secret : List ℕ) (n : ℕ) → copy ≡ secrets → length secrets ≡ n → n < 2 ^ 48
    → (IsNext copy (2 ^ 48 - 1 - n) × LeadsTo secret (2 ^ 48 - 1 - n) copy → false ≡ true) → is_foreign secrets secret ≡ true
unfolding index_of
refused secrets copy secret n e l h f =
    let i : index_of (length secrets) ≡ 2 ^ 48 - 1 - n = ap (λ k. 2 ^ 48 - 1 - k) l in
    let m = ap length e in
    foreign_when secrets secret
    (λ leads. let b : false ≡ true = f (omega (arith, m, l, h), subst (λ s. LeadsTo secret (2 ^ 48 - 1 - n) s) (sym e) (subst (λ k. LeadsTo secret k secrets) i leads)) in cc)
