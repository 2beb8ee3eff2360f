-- The list of all secrets inserted, and what an insertion makes of it.
use Rattle.std.proofs.Common.{◌≡◌, ◌≢◌, ℕ, zero, suc, ◌+◌, ◌-◌, ◌*◌, ◌/◌, ◌%◌, ◌^◌, ◌<◌, ◌≤◌, ◌⊎◌, List, [], ◌∷◌, ◌++◌, Some, None, length, map, get_or, set, refl, sym, ap, ◌∙◌, subst, inl, inr, arith, slice_get, get_or-set_same, get_or-set_other, nat_lt, take, not, true, false, ◌↔◌, length-take, get_or-take, length-append}
use Rattle.std.specs.List.{range_with_len}
use Rattle.std.specs.Int.Count.{count_trailing_zeros}
use Rattle.std.proofs.lemmas.Bool.{cases_lt, cases_order, lt-ltb, le-ltb, cond-true, cond-false, both_ways, not-true, not-false}
use Rattle.std.proofs.lemmas.Nat.{pow_pos, div-add-mod', le-div, div_below, mod_below, trailing_le, shr_high, pow_below}
use Rattle.std.proofs.lemmas.List.FromFn.{length-map-range_with_len, get_or-map-range_with_len, map-range_with_len_more}
use Rattle.std.proofs.lemmas.Option.{slice_get-get_or, slice_get_past, unwrap_or-slice_get}
use Rattle.std.proofs.lemmas.Slice.Eq.{bytes_eq-Decides}
use Rattle.std.specs.Str.{bytes_eq}
use Rattle.std.proofs.Math.Nat.{mul-div_cancel, mul-le-mul_right, mul-mod_left, div-mul-le_self, mod-eq_of_lt}
use Rattle.sha2.specs.Sha256.{sha256}
use Rattle.secrets.specs.Derivation.{flipped, derived_secret, commitment_secret}
use Rattle.secrets.specs.Buckets.{kept_at, floor_of, secret_from, secrets_of}
use Rattle.secrets.specs.Inserted.{inserted_at, IsNext, LeadsTo, AreOfSeed}
use Rattle.secrets.proofs.Numbers.{trailing_splits, multiple_of_lower}
use Rattle.secrets.proofs.Deriving.{derived-zero, derived-self, derived-one, derived-split}
use Rattle.secrets.proofs.Keeping.{after_below, before_below, before_at, same_above, from-at, from-miss}

-- ---- the list

map_same : {X : Type 0} (f g : ℕ → X) (n : ℕ) → ((k : ℕ) → k < n → f k ≡ g k) → map f (range_with_len 0 n) ≡ map g (range_with_len 0 n)
map_same f g zero same = refl
map_same {X} f g (suc n) same =
    let e : suc n ≡ n + 1 = omega arith in
    let more : (h : ℕ → X) → map h (range_with_len 0 (suc n)) ≡ map h (range_with_len 0 n) ++ h n ∷ [] =
    λ h. ap (λ (k : ℕ). map h (range_with_len 0 k)) e ∙ map-range_with_len_more h 0 n n (omega arith) in
    more f
    ∙ ap (λ (xs : List X). xs ++ f n ∷ []) (map_same f g n (λ k l. same k (omega arith)))
    ∙ ap (λ (x : X). map g (range_with_len 0 n) ++ x ∷ []) (same n (omega arith))
    ∙ sym (more g)

-- the last element, and those before it
slice_get-last : (xs : List (List ℕ)) (s : List ℕ) (k : ℕ) → k ≡ length xs → slice_get (xs ++ s ∷ []) k ≡ Some s
slice_get-last [] s zero e = refl
slice_get-last [] s (suc k) e = absurd (omega (arith, e))
slice_get-last (x ∷ xs) s zero e = absurd (omega (arith, e))
slice_get-last (x ∷ xs) s (suc k) e = slice_get-last xs s k (omega (arith, e))

slice_get-front : (xs : List (List ℕ)) (s : List ℕ) (k : ℕ) → k < length xs → slice_get (xs ++ s ∷ []) k ≡ slice_get xs k
slice_get-front [] s k h = absurd (omega (arith, h))
slice_get-front (x ∷ xs) s zero h = refl
slice_get-front (x ∷ xs) s (suc k) h = slice_get-front xs s k (omega (arith, h))

pub length-secrets_of : (e : List (List ℕ)) (m : ℕ) → length (secrets_of e m) ≡ 2 ^ 48 - m
unfolding secrets_of
length-secrets_of e m = length-map-range_with_len (λ n. secret_from e m (2 ^ 48 - 1 - n) 48) 0 (2 ^ 48 - m)

slice_get-secrets_of : (e : List (List ℕ)) (m k : ℕ) → k < 2 ^ 48 - m → slice_get (secrets_of e m) k ≡ Some (secret_from e m (2 ^ 48 - 1 - k) 48)
unfolding secrets_of
slice_get-secrets_of e m k h =
    let f : ℕ → List ℕ = λ n. secret_from e m (2 ^ 48 - 1 - n) 48 in
    let within : k < length (secrets_of e m) = omega (arith, length-secrets_of e m) in
    slice_get-get_or (secrets_of e m) k [] within
    ∙ ap Some (get_or-map-range_with_len f 0 (2 ^ 48 - m) k k [] h (omega arith))

pub inserted_at-is : (e : List (List ℕ)) (m j : ℕ) → m ≤ j → j < 2 ^ 48 → inserted_at (secrets_of e m) j ≡ Some (secret_from e m j 48)
unfolding inserted_at
inserted_at-is e m j low high =
    let back : 2 ^ 48 - 1 - (2 ^ 48 - 1 - j) ≡ j = omega arith in
    cond-true (nat_lt j (2 ^ 48)) (slice_get (secrets_of e m) (2 ^ 48 - 1 - j)) None (lt-ltb j (2 ^ 48) high)
    ∙ slice_get-secrets_of e m (2 ^ 48 - 1 - j) (omega arith)
    ∙ ap (λ (n : ℕ). Some (secret_from e m n 48)) back

inserted_at-within : (secrets : List (List ℕ)) (j : ℕ) → j < 2 ^ 48 → inserted_at secrets j ≡ slice_get secrets (2 ^ 48 - 1 - j)
unfolding inserted_at
inserted_at-within secrets j less =
    cond-true (nat_lt j (2 ^ 48)) (slice_get secrets (2 ^ 48 - 1 - j)) None (lt-ltb j (2 ^ 48) less)

pub inserted_at-above : (secrets : List (List ℕ)) (j : ℕ) → 2 ^ 48 ≤ j → inserted_at secrets j ≡ None
unfolding inserted_at
inserted_at-above secrets j high = cond-false (nat_lt j (2 ^ 48)) (slice_get secrets (2 ^ 48 - 1 - j)) None (le-ltb j (2 ^ 48) high)

pub inserted_at-below : (e : List (List ℕ)) (m j : ℕ) → m ≤ 2 ^ 48 → j < m → inserted_at (secrets_of e m) j ≡ None
unfolding inserted_at
inserted_at-below e m j within low =
    cond-true (nat_lt j (2 ^ 48)) (slice_get (secrets_of e m) (2 ^ 48 - 1 - j)) None (lt-ltb j (2 ^ 48) (omega arith))
    ∙ slice_get_past (secrets_of e m) (2 ^ 48 - 1 - j) (omega (arith, length-secrets_of e m))

-- what finding a secret says
pub record IsFound (e : List (List ℕ)) (m j : ℕ) (t : List ℕ) : Type 0 where
  pub low : m ≤ j
  pub high : j < 2 ^ 48
  pub is : t ≡ secret_from e m j 48

pub found : (e : List (List ℕ)) (m j : ℕ) (t : List ℕ) → m ≤ 2 ^ 48 → inserted_at (secrets_of e m) j ≡ Some t → IsFound e m j t
found e m j t within eq =
    elim (cases_lt j m) [
      | inl less ↦ (let none = inserted_at-below e m j within less in cc)
      | inr low ↦
          elim (cases_lt j (2 ^ 48)) [
            | inl high ↦
                (let some = inserted_at-is e m j low high in
                let same : t ≡ secret_from e m j 48 = cc in
                record { low = low; high = high; is = same })
            | inr past ↦ (let none = inserted_at-above (secrets_of e m) j past in cc)
          ]
    ]

pub secrets_of-none : (e : List (List ℕ)) → secrets_of e (2 ^ 48) ≡ []
unfolding secrets_of
secrets_of-none e = refl

-- ---- a write to a bucket

pub kept_at-same : (e : List (List ℕ)) (b : ℕ) (s : List ℕ) → b < length e → kept_at (set e b s) b ≡ s
kept_at-same e b s h = unwrap_or-slice_get (set e b s) b [] ∙ get_or-set_same e b s [] h

pub kept_at-other : (e : List (List ℕ)) (b : ℕ) (s : List ℕ) (k : ℕ) → k ≢ b → kept_at (set e b s) k ≡ kept_at e k
kept_at-other e b s k h = unwrap_or-slice_get (set e b s) k [] ∙ get_or-set_other e b k s [] h ∙ sym (unwrap_or-slice_get e k [])

-- ---- the insertion at i = q * 2^b, where q is odd or b is 48

-- each bucket below b holds what s leads to by the bucket's bit
abbrev pub HoldsBits : List (List ℕ) → List ℕ → ℕ → Type 0
HoldsBits e s b = (k : ℕ) → k < b → kept_at e k ≡ sha256 (flipped k s)

abbrev pub LeadsBy : List ℕ → ℕ → ℕ → List (List ℕ) → Type 0
LeadsBy s b i secrets = (j : ℕ) (t : List ℕ) → inserted_at secrets j ≡ Some t → j / 2 ^ b ≡ i / 2 ^ b → t ≡ derived_secret s b j

module _ (e : List (List ℕ)) (s : List ℕ) (q b : ℕ) (top : b ≤ 48) (odd : (b ≡ 48) ⊎ ((x : ℕ) × (q ≡ 2 * x + 1))) (within : q * 2 ^ b + 1 ≤ 2 ^ 48) where
  -- an index with the leading bits q
  rest_of : (j : ℕ) → j / 2 ^ b ≡ q → j ≡ q * 2 ^ b + j % 2 ^ b
  rest_of j same = sym (div-add-mod' j (2 ^ b)) ∙ ap (λ (n : ℕ). n * 2 ^ b + j % 2 ^ b) same

  before_is : (j : ℕ) → j / 2 ^ b ≡ q → q * 2 ^ b < j → HoldsBits e s b → secret_from e (q * 2 ^ b + 1) j 48 ≡ derived_secret s b j
  before_is j same low holds =
      let r = j % 2 ^ b in
      let is : j ≡ q * 2 ^ b + r = rest_of j same in
      let small : r < 2 ^ b = mod_below j (2 ^ b) (pow_pos b) in
      let some : 0 < r = omega (arith, is) in
      ap (λ (n : ℕ). secret_from e (q * 2 ^ b + 1) n 48) is
      ∙ before_below e s q b r top odd holds some small
      ∙ sym (ap (derived_secret s b) is)

  leads_by : HoldsBits e s b → LeadsBy s b (q * 2 ^ b) (secrets_of e (q * 2 ^ b + 1))
  leads_by holds j t eq same =
      let f = found e (q * 2 ^ b + 1) j t within eq in
      let g : j / 2 ^ b ≡ q = same ∙ mul-div_cancel q (pow_pos b) in
      f.is ∙ before_is j g (omega (arith, f.low)) holds

  room : (r : ℕ) → r < 2 ^ b → q * 2 ^ b + r < 2 ^ 48
  room r small =
      let n = 2 ^ (48 - b) in
      let whole : 1 * 2 ^ 48 ≡ 1 * n * 2 ^ b = multiple_of_lower 1 48 b top in
      elim (cases_lt q n) [
        | inl less ↦ (let le : (q + 1) * 2 ^ b ≤ n * 2 ^ b = mul-le-mul_right (2 ^ b) (omega arith) in omega (arith, le, whole))
        | inr more ↦ (let le : n * 2 ^ b ≤ q * 2 ^ b = mul-le-mul_right (2 ^ b) more in absurd (omega (arith, le, whole)))
      ]

  holds_by : LeadsBy s b (q * 2 ^ b) (secrets_of e (q * 2 ^ b + 1)) → HoldsBits e s b
  holds_by leads k l =
      let j = q * 2 ^ b + 2 ^ k in
      let small : 2 ^ k < 2 ^ b = pow_below k b l in
      let low : q * 2 ^ b + 1 ≤ j = omega (arith, pow_pos k) in
      let at = inserted_at-is e (q * 2 ^ b + 1) j low (room (2 ^ k) small) in
      let same : j / 2 ^ b ≡ q * 2 ^ b / 2 ^ b = shr_high q b (2 ^ k) small ∙ sym (mul-div_cancel q (pow_pos b)) in
      sym (before_at e q b k top odd l) ∙ leads j (secret_from e (q * 2 ^ b + 1) j 48) at same ∙ derived-one s q b k l

  module _ (e' : List (List ℕ)) (here : kept_at e' b ≡ s) (others : (k : ℕ) → k ≢ b → kept_at e' k ≡ kept_at e k) where
    after_is : (j : ℕ) → j / 2 ^ b ≡ q → secret_from e' (q * 2 ^ b) j 48 ≡ derived_secret s b j
    after_is j same =
        let r = j % 2 ^ b in
        let is : j ≡ q * 2 ^ b + r = rest_of j same in
        ap (λ (n : ℕ). secret_from e' (q * 2 ^ b) n 48) is
        ∙ after_below e' s q b r top odd (mod_below j (2 ^ b) (pow_pos b)) here
        ∙ sym (ap (derived_secret s b) is)

    further : (j : ℕ) → q < j / 2 ^ b → j < 2 ^ 48 → secret_from e' (q * 2 ^ b) j 48 ≡ secret_from e (q * 2 ^ b + 1) j 48
    further j far high =
        let none : b ≡ 48 → ⊥ = λ z.
        (let w : 2 ^ b ≡ 2 ^ 48 = ap (λ (n : ℕ). 2 ^ n) z in
        let none : j / 2 ^ b < 1 = div_below j (2 ^ b) 1 (pow_pos b) (omega (arith, w)) in
        omega arith) in
        let below : b < 48 = omega (arith, none) in
        elim odd [
          | inl z ↦ absurd (none z)
          | inr (x, is) ↦
              (let P : ℕ → Type 0 = λ n. secret_from e' (n * 2 ^ b) j 48 ≡ secret_from e (n * 2 ^ b + 1) j 48 in
              let far' : 2 * x + 1 < j / 2 ^ b = omega arith in
              subst P (sym is) (same_above e e' x b j 48 others far' below))
        ]

    unchanged : HoldsBits e s b → (j : ℕ) → q * 2 ^ b < j → j < 2 ^ 48 → secret_from e' (q * 2 ^ b) j 48 ≡ secret_from e (q * 2 ^ b + 1) j 48
    unchanged holds j low high =
        elim (cases_lt q (j / 2 ^ b)) [
          | inl far ↦ further j far high
          | inr le ↦
              (let ge : q ≤ j / 2 ^ b = le-div q j (2 ^ b) (pow_pos b) (omega arith) in
              let same : j / 2 ^ b ≡ q = omega arith in
              after_is j same ∙ sym (before_is j same low holds))
        ]

secrets_of-more : (e e' : List (List ℕ)) (i : ℕ) (s : List ℕ) → i < 2 ^ 48 → ((j : ℕ) → i < j → j < 2 ^ 48 → secret_from e' i j 48 ≡ secret_from e (i + 1) j 48) → secret_from e' i i 48 ≡ s → secrets_of e' i ≡ secrets_of e (i + 1) ++ s ∷ []
unfolding secrets_of
secrets_of-more e e' i s high same here =
    let n = 2 ^ 48 - (i + 1) in
    let f : ℕ → List ℕ = λ k. secret_from e (i + 1) (2 ^ 48 - 1 - k) 48 in
    let f' : ℕ → List ℕ = λ k. secret_from e' i (2 ^ 48 - 1 - k) 48 in
    let count : 2 ^ 48 - i ≡ n + 1 = omega arith in
    let last : 2 ^ 48 - 1 - n ≡ i = omega arith in
    ap (λ (k : ℕ). map f' (range_with_len 0 k)) count
    ∙ map-range_with_len_more f' 0 n n (omega arith)
    ∙ ap (λ (xs : List (List ℕ)). xs ++ f' n ∷ []) (map_same f' f n (λ k l. same (2 ^ 48 - 1 - k) (omega arith) (omega arith)))
    ∙ ap (λ (t : List ℕ). map f (range_with_len 0 n) ++ t ∷ []) (ap (λ (k : ℕ). secret_from e' i k 48) last ∙ here)

-- ---- the same at any index

pub leads_from_bits : (e : List (List ℕ)) (s : List ℕ) (i : ℕ) → i + 1 ≤ 2 ^ 48 → HoldsBits e s (count_trailing_zeros 48 i) → LeadsTo s i (secrets_of e (i + 1))
unfolding LeadsTo
leads_from_bits e s i within holds =
    let b = count_trailing_zeros 48 i in
    let split = trailing_splits 48 i in
    subst (λ (n : ℕ). LeadsBy s b n (secrets_of e (n + 1))) (sym split.is)
    (leads_by e s split.high b (trailing_le 48 i) split.odd (omega (arith, split.is)) holds)

pub bits_from_leads : (e : List (List ℕ)) (s : List ℕ) (i : ℕ) → i + 1 ≤ 2 ^ 48 → LeadsTo s i (secrets_of e (i + 1)) → HoldsBits e s (count_trailing_zeros 48 i)
unfolding LeadsTo
bits_from_leads e s i within leads =
    let b = count_trailing_zeros 48 i in
    let split = trailing_splits 48 i in
    holds_by e s split.high b (trailing_le 48 i) split.odd (omega (arith, split.is))
    (subst (λ (n : ℕ). LeadsBy s b n (secrets_of e (n + 1))) split.is leads)

pub inserted-more : (e : List (List ℕ)) (s : List ℕ) (i : ℕ) → length e ≡ 49 → i + 1 ≤ 2 ^ 48 → HoldsBits e s (count_trailing_zeros 48 i) → secrets_of (set e (count_trailing_zeros 48 i) s) i ≡ secrets_of e (i + 1) ++ s ∷ []
inserted-more e s i size within holds =
    let b = count_trailing_zeros 48 i in
    let split = trailing_splits 48 i in
    let q = split.high in
    let top : b ≤ 48 = trailing_le 48 i in
    let e' = set e b s in
    let here : kept_at e' b ≡ s = kept_at-same e b s (omega arith) in
    let others : (k : ℕ) → k ≢ b → kept_at e' k ≡ kept_at e k = kept_at-other e b s in
    let room' : q * 2 ^ b + 1 ≤ 2 ^ 48 = omega (arith, split.is) in
    let same = unchanged e s q b top split.odd room' e' here others holds in
    let at : secret_from e' (q * 2 ^ b) (q * 2 ^ b) 48 ≡ s =
    after_is e s q b top split.odd room' e' here others (q * 2 ^ b) (mul-div_cancel q (pow_pos b)) ∙ derived-self s q b in
    subst (λ (n : ℕ). secrets_of e' n ≡ secrets_of e (n + 1) ++ s ∷ []) (sym split.is)
    (secrets_of-more e e' (q * 2 ^ b) s (omega arith) same at)

-- ---- the secrets of one seed

pub seed-leads : (seed : List ℕ) (i b j : ℕ) → b ≤ 48 → i % 2 ^ b ≡ 0 → j / 2 ^ b ≡ i / 2 ^ b → commitment_secret seed j ≡ derived_secret (commitment_secret seed i) b j
seed-leads seed i b j top clear same =
    let is : i ≡ i / 2 ^ b * 2 ^ b = omega (arith, div-add-mod' i (2 ^ b)) in
    let same' : j / 2 ^ b ≡ i / 2 ^ b * 2 ^ b / 2 ^ b = same ∙ ap (λ (n : ℕ). n / 2 ^ b) is in
    derived-split seed (i / 2 ^ b) b 48 j top same'
    ∙ sym (ap (λ (n : ℕ). derived_secret (derived_secret seed 48 n) b j) is)

pub seed-leads_to : (seed s : List ℕ) (i : ℕ) (secrets : List (List ℕ)) → AreOfSeed seed secrets → s ≡ commitment_secret seed i → LeadsTo s i secrets
unfolding LeadsTo AreOfSeed
seed-leads_to seed s i secrets all is j t eq same =
    let b = count_trailing_zeros 48 i in
    let split = trailing_splits 48 i in
    let clear : i % 2 ^ b ≡ 0 = ap (λ (n : ℕ). n % 2 ^ b) split.is ∙ mul-mod_left split.high (2 ^ b) in
    all j t eq
    ∙ seed-leads seed i b j (trailing_le 48 i) clear same
    ∙ sym (ap (λ (x : List ℕ). derived_secret x b j) is)

pub none_of_seed : (seed : List ℕ) → AreOfSeed seed []
unfolding AreOfSeed
none_of_seed seed j t eq =
    elim (cases_lt j (2 ^ 48)) [
      | inl less ↦ (let none = inserted_at-within [] j less in cc)
      | inr past ↦ (let none = inserted_at-above [] j past in cc)
    ]

pub more_of_seed : (seed s : List ℕ) (i : ℕ) (secrets : List (List ℕ)) → AreOfSeed seed secrets → IsNext secrets i → s ≡ commitment_secret seed i → AreOfSeed seed (secrets ++ s ∷ [])
unfolding AreOfSeed
more_of_seed seed s i secrets all next is j t eq =
    elim (cases_lt j (2 ^ 48)) [
      | inr past ↦ (let none = inserted_at-above (secrets ++ s ∷ []) j past in cc)
      | inl less ↦
          (let k = 2 ^ 48 - 1 - j in
          let read = inserted_at-within (secrets ++ s ∷ []) j less in
          let was = inserted_at-within secrets j less in
          elim (cases_order k (length secrets)) [
            | inl last ↦
                (let same : j ≡ i = omega arith in
                let here : slice_get (secrets ++ s ∷ []) k ≡ Some s = slice_get-last secrets s k last in
                let t-is : t ≡ s = cc in
                t-is ∙ is ∙ ap (commitment_secret seed) (sym same))
            | inr (inl before) ↦
                (let here : slice_get (secrets ++ s ∷ []) k ≡ slice_get secrets k = slice_get-front secrets s k before in
                let found : inserted_at secrets j ≡ Some t = cc in
                all j t found)
            | inr (inr past) ↦
                (let here : slice_get (secrets ++ s ∷ []) k ≡ None =
                slice_get_past (secrets ++ s ∷ []) k (omega (arith, length-append secrets (s ∷ []))) in
                cc)
          ])
    ]

-- ---- what the code tests

-- the next index, by the lowest one
pub next-is : (e : List (List ℕ)) (m i : ℕ) (secrets : List (List ℕ)) → m ≤ 2 ^ 48 → secrets_of e m ≡ secrets → IsNext secrets i → m ≡ i + 1
next-is e m i secrets within view next = omega (arith, length-secrets_of e m, ap length view)

pub next-from : (e : List (List ℕ)) (m i : ℕ) (secrets : List (List ℕ)) → m ≤ 2 ^ 48 → secrets_of e m ≡ secrets → m ≡ i + 1 → IsNext secrets i
next-from e m i secrets within view is = omega (arith, length-secrets_of e m, ap length view)

-- a front of the buckets, as the code reads it
abbrev pub HoldsFront : List (List ℕ) → List ℕ → Type 0
HoldsFront front s = (b : ℕ) → b < length front → slice_get front b ≡ Some (sha256 (flipped b s))

front-get : (e : List (List ℕ)) (b k : ℕ) → b ≤ length e → k < b → slice_get (take b e) k ≡ Some (kept_at e k)
front-get e b k size less =
    let within : k < length (take b e) = omega (arith, length-take b e) in
    slice_get-get_or (take b e) k [] within
    ∙ ap Some (get_or-take b e k [] less ∙ sym (unwrap_or-slice_get e k []))

bits_of_front : (e : List (List ℕ)) (s : List ℕ) (b : ℕ) → b ≤ length e → HoldsFront (take b e) s → HoldsBits e s b
bits_of_front e s b size holds k less =
    let within : k < length (take b e) = omega (arith, length-take b e) in
    let here = holds k within in
    let read = front-get e b k size less in
    cc

front_of_bits : (e : List (List ℕ)) (s : List ℕ) (b : ℕ) → b ≤ length e → HoldsBits e s b → HoldsFront (take b e) s
front_of_bits e s b size holds k within =
    let less : k < b = omega (arith, length-take b e) in
    front-get e b k size less ∙ ap Some (holds k less)

pub record IsStore (e : List (List ℕ)) (m : ℕ) (secrets : List (List ℕ)) : Type 0 where
  pub size : length e ≡ 49
  pub within : m ≤ 2 ^ 48
  pub view : secrets_of e m ≡ secrets

pub front-tells : (e : List (List ℕ)) (m : ℕ) (secrets : List (List ℕ)) (s : List ℕ) (i b : ℕ) → IsStore e m secrets → IsNext secrets i → b ≡ count_trailing_zeros 48 i → HoldsFront (take b e) s ↔ LeadsTo s i secrets
front-tells e m secrets s i b is next at =
    let m-is : m ≡ i + 1 = next-is e m i secrets is.within is.view next in
    let same : secrets_of e (i + 1) ≡ secrets = sym (ap (secrets_of e) m-is) ∙ is.view in
    let room : i + 1 ≤ 2 ^ 48 = omega (arith, is.within) in
    let top : b ≤ length e = omega (arith, at, trailing_le 48 i, is.size) in (
      λ holds. subst (LeadsTo s i) same
          (leads_from_bits e s i room (subst (HoldsBits e s) at (bits_of_front e s b top holds))),
      λ leads. front_of_bits e s b top
          (subst (HoldsBits e s) (sym at) (bits_from_leads e s i room (subst (LeadsTo s i) (sym same) leads))),
    )

pub inserted-is : (e : List (List ℕ)) (m : ℕ) (secrets : List (List ℕ)) (s : List ℕ) (i b : ℕ) → IsStore e m secrets → IsNext secrets i → b ≡ count_trailing_zeros 48 i → LeadsTo s i secrets → secrets_of (set e b s) i ≡ secrets ++ s ∷ []
inserted-is e m secrets s i b is next at leads =
    let m-is : m ≡ i + 1 = next-is e m i secrets is.within is.view next in
    let same : secrets_of e (i + 1) ≡ secrets = sym (ap (secrets_of e) m-is) ∙ is.view in
    let room : i + 1 ≤ 2 ^ 48 = omega (arith, is.within) in
    let bits = bits_from_leads e s i room (subst (LeadsTo s i) (sym same) leads) in
    ap (λ (k : ℕ). secrets_of (set e k s) i) at
    ∙ inserted-more e s i is.size room bits
    ∙ ap (λ (xs : List (List ℕ)). xs ++ s ∷ []) same

-- an entry that `!=` finds different, or the same
pub differs-tells : (e : List (List ℕ)) (t : List ℕ) (b : ℕ) → b < length e → not (bytes_eq (get_or e b []) t) ≡ true → slice_get e b ≡ Some t → ⊥
differs-tells e t b less ne same =
    let read = slice_get-get_or e b [] less in
    let eq : get_or e b [] ≡ t = cc in
    both_ways (bytes_eq (get_or e b []) t) (not-true (bytes_eq (get_or e b []) t) ne) ((bytes_eq-Decides (get_or e b []) t).1 eq)

pub same-tells : (e : List (List ℕ)) (t : List ℕ) (b : ℕ) → b < length e → not (bytes_eq (get_or e b []) t) ≡ false → slice_get e b ≡ Some t
same-tells e t b less eq =
    slice_get-get_or e b [] less
    ∙ ap Some ((bytes_eq-Decides (get_or e b []) t).0 (not-false (bytes_eq (get_or e b []) t) eq))

-- the bucket that reaches an index, as the code reads it
pub reached-is : (e : List (List ℕ)) (m : ℕ) (secrets : List (List ℕ)) (i p : ℕ) → IsStore e m secrets → m ≤ i → i < 2 ^ 48 → secret_from e m i 48 ≡ secret_from e m i p → m ≤ floor_of p i → inserted_at secrets i ≡ Some (derived_secret (get_or e p []) p i)
reached-is e m secrets i p is low high so_far here =
    ap (λ (xs : List (List ℕ)). inserted_at xs i) (sym is.view)
    ∙ inserted_at-is e m i low high
    ∙ ap Some (so_far ∙ from-at e m i p here ∙ ap (λ (t : List ℕ). derived_secret t p i) (unwrap_or-slice_get e p []))

-- two shifts clear the lowest bits, and lose none above them
floor-is : (i p : ℕ) → i < 2 ^ 48 → i / 2 ^ p * 2 ^ p % 2 ^ 64 ≡ floor_of p i
floor-is i p high =
    let le : i / 2 ^ p * 2 ^ p ≤ i = div-mul-le_self i (2 ^ p) in
    let fits : i / 2 ^ p * 2 ^ p < 2 ^ 64 = omega arith in
    mod-eq_of_lt fits

pub floor-reaches : (m i p : ℕ) → i < 2 ^ 48 → m ≤ i / 2 ^ p * 2 ^ p % 2 ^ 64 → m ≤ floor_of p i
floor-reaches m i p high h = subst (λ (n : ℕ). m ≤ n) (floor-is i p high) h

-- one bucket further down
pub past-bucket : (e : List (List ℕ)) (m i p : ℕ) → i < 2 ^ 48 → 0 < p → i / 2 ^ p * 2 ^ p % 2 ^ 64 < m → secret_from e m i p ≡ secret_from e m i (p - 1)
past-bucket e m i p high some h =
    let is : p ≡ suc (p - 1) = omega arith in
    let below : floor_of p i < m = subst (λ (n : ℕ). n < m) (floor-is i p high) h in
    ap (secret_from e m i) is
    ∙ from-miss e m i (p - 1) (subst (λ (k : ℕ). floor_of k i < m) is below)

-- and the last
pub last-bucket : (e : List (List ℕ)) (m : ℕ) (secrets : List (List ℕ)) (i p : ℕ) → IsStore e m secrets → m ≤ i → i < 2 ^ 48 → secret_from e m i 48 ≡ secret_from e m i p → p ≡ 0 → inserted_at secrets i ≡ Some (get_or e 0 [])
last-bucket e m secrets i p is low high so_far last =
    let whole : floor_of 0 i ≡ i = omega arith in
    reached-is e m secrets i 0 is low high (so_far ∙ ap (secret_from e m i) last) (omega (arith, whole))
    ∙ ap Some (derived-zero (get_or e 0 []) i)
