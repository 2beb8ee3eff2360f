-- What a kept secret stands for: the bucket that reaches an index, before and after an insertion.
use Rattle.std.proofs.Common.{◌≡◌, ◌≢◌, ℕ, zero, suc, ◌+◌, ◌-◌, ◌*◌, ◌/◌, ◌^◌, ◌<◌, ◌≤◌, ◌⊎◌, Bool, List, refl, sym, ap, ◌∙◌, subst, inl, inr, arith}
use Rattle.std.specs.Int.{bit_at}
use Rattle.std.proofs.lemmas.Bool.{cases_lt, le-leb, lt-leb}
use Rattle.std.proofs.lemmas.Nat.{shr_high, pow_below, pow_pos}
use Rattle.std.proofs.Math.Nat.{mul-div_cancel}
use Rattle.sha2.specs.Sha256.{sha256}
use Rattle.secrets.specs.Derivation.{flipped, derived_secret}
use Rattle.secrets.specs.Buckets.{kept_at, floor_of, reached, secret_from}
use Rattle.secrets.proofs.Numbers.{doubled, floor_of-sum, multiple_of_lower, odd_is_no_floor, floor_below_odd, floor_above_odd}
use Rattle.secrets.proofs.Deriving.{derived-zero, derived-clear, derived-set, derived-self, derived-one}

-- a bucket that reaches the index
pub from-hit : (e : List (List ℕ)) (m j p : ℕ) → m ≤ floor_of (suc p) j → secret_from e m j (suc p) ≡ derived_secret (kept_at e (suc p)) (suc p) j
unfolding secret_from
from-hit e m j p h =
    let t = derived_secret (kept_at e (suc p)) (suc p) j in
    ap (λ (b : Bool). reached b t (secret_from e m j p)) (le-leb m (floor_of (suc p) j) h)

-- a bucket that does not
pub from-miss : (e : List (List ℕ)) (m j p : ℕ) → floor_of (suc p) j < m → secret_from e m j (suc p) ≡ secret_from e m j p
unfolding secret_from
from-miss e m j p h =
    let t = derived_secret (kept_at e (suc p)) (suc p) j in
    ap (λ (b : Bool). reached b t (secret_from e m j p)) (lt-leb m (floor_of (suc p) j) h)

pub from-zero : (e : List (List ℕ)) (m j : ℕ) → secret_from e m j zero ≡ derived_secret (kept_at e zero) zero j
unfolding secret_from
from-zero e m j = sym (derived-zero (kept_at e 0) j)

-- past buckets that do not reach it
pub from-down : (e : List (List ℕ)) (m j a b : ℕ) → a ≤ b → ((c : ℕ) → a < c → c ≤ b → floor_of c j < m) → secret_from e m j b ≡ secret_from e m j a
from-down e m j a zero h miss = let z : zero ≡ a = omega arith in ap (secret_from e m j) z
from-down e m j a (suc b) h miss =
    elim (cases_lt b a) [
      | inl over ↦ (let z : suc b ≡ a = omega arith in ap (secret_from e m j) z)
      | inr le ↦
          from-miss e m j b (miss (suc b) (omega arith) (omega arith))
          ∙ from-down e m j a b le (λ c low high. miss c low (omega arith))
    ]

-- the highest bucket that reaches it
pub from-at : (e : List (List ℕ)) (m j p : ℕ) → m ≤ floor_of p j → secret_from e m j p ≡ derived_secret (kept_at e p) p j
from-at e m j zero h = from-zero e m j
from-at e m j (suc p) h = from-hit e m j p h

pub from-is : (e : List (List ℕ)) (m j p b : ℕ) → p ≤ b → m ≤ floor_of p j → ((c : ℕ) → p < c → c ≤ b → floor_of c j < m) → secret_from e m j b ≡ derived_secret (kept_at e p) p j
from-is e m j p b h here miss = from-down e m j p b h miss ∙ from-at e m j p here

-- no bucket above that of i = q * 2^b reaches the indices from i on that share its leading bits
no_higher : (q b r : ℕ) → (b ≡ 48) ⊎ ((x : ℕ) × (q ≡ 2 * x + 1)) → r < 2 ^ b → (c : ℕ) → b < c → c ≤ 48 → floor_of c (q * 2 ^ b + r) < q * 2 ^ b
no_higher q b r (inl top) small c low high = absurd (omega arith)
no_higher q b r (inr (x, odd)) small c low high =
    subst (λ (n : ℕ). floor_of c (n * 2 ^ b + r) < n * 2 ^ b) (sym odd) (floor_below_odd x b c r low small)

-- once i is inserted with s: what stands for the indices that share its leading bits
pub after_below : (e : List (List ℕ)) (s : List ℕ) (q b r : ℕ) → b ≤ 48 → (b ≡ 48) ⊎ ((x : ℕ) × (q ≡ 2 * x + 1)) → r < 2 ^ b → kept_at e b ≡ s → secret_from e (q * 2 ^ b) (q * 2 ^ b + r) 48 ≡ derived_secret s b (q * 2 ^ b + r)
after_below e s q b r h odd small kept =
    let j = q * 2 ^ b + r in
    let f : floor_of b j ≡ q * 2 ^ b = floor_of-sum q b r small in
    from-is e (q * 2 ^ b) j b 48 h (omega (arith, f)) (no_higher q b r odd small)
    ∙ ap (λ (t : List ℕ). derived_secret t b j) kept

-- before it, by the lowest buckets, where each holds what s leads to by one bit
from_low : (e : List (List ℕ)) (s : List ℕ) (p i a r : ℕ) → i ≡ a * 2 ^ suc p → ((k : ℕ) → k ≤ p → kept_at e k ≡ sha256 (flipped k s)) → 0 < r → r < 2 ^ suc p → secret_from e (i + 1) (i + r) p ≡ derived_secret s (suc p) (i + r)
from_low e s zero i a r is holds some small =
    let one : r ≡ 1 = omega arith in
    let j : i + r ≡ a * 2 ^ 1 + 2 ^ 0 = omega (arith, is, one) in
    from-zero e (i + 1) (i + r)
    ∙ derived-zero (kept_at e 0) (i + r)
    ∙ holds 0 (omega arith)
    ∙ sym (derived-one s a 1 0 (omega arith))
    ∙ sym (ap (λ (n : ℕ). derived_secret s 1 n) j)
from_low e s (suc p) i a r is holds some small =
    let w = 2 ^ suc p in
    let d : 2 ^ suc (suc p) ≡ w * 2 = doubled (suc p) in
    let e2 : a * 2 ^ suc (suc p) ≡ a * (w * 2) = ap (λ (n : ℕ). a * n) d in
    elim (cases_lt r w) [
      | inl less ↦
          (let is' : i ≡ a * 2 * w = omega (arith, is, e2) in
          let high : (i + r) / w ≡ a * 2 =
          subst (λ (n : ℕ). (n + r) / w ≡ a * 2) (sym is') (shr_high (a * 2) (suc p) r less) in
          let clear : bit_at (i + r) (suc p) ≡ 0 = omega (arith, high) in
          let floor : floor_of (suc p) (i + r) ≡ a * 2 * w = ap (λ (n : ℕ). n * w) high in
          from-miss e (i + 1) (i + r) p (omega (arith, floor, is'))
          ∙ from_low e s p i (a * 2) r is' (λ k l. holds k (omega arith)) some less
          ∙ sym (derived-clear s (suc p) (i + r) clear))
      | inr more ↦
          (let t = r - w in
          let rest : t < w = omega (arith, d) in
          let is' : i + r ≡ (a * 2 + 1) * w + t = omega (arith, is, e2) in
          let high : (i + r) / w ≡ a * 2 + 1 =
          subst (λ (n : ℕ). n / w ≡ a * 2 + 1) (sym is') (shr_high (a * 2 + 1) (suc p) t rest) in
          let set : bit_at (i + r) (suc p) ≡ 1 = omega (arith, high) in
          let floor : floor_of (suc p) (i + r) ≡ (a * 2 + 1) * w = ap (λ (n : ℕ). n * w) high in
          from-hit e (i + 1) (i + r) p (omega (arith, floor, is, e2, pow_pos (suc p)))
          ∙ ap (λ (x : List ℕ). derived_secret x (suc p) (i + r)) (holds (suc p) (omega arith))
          ∙ sym (derived-set s (suc p) (i + r) set))
    ]

-- before i is inserted: what stands for the indices above it that share its leading bits
pub before_below : (e : List (List ℕ)) (s : List ℕ) (q b r : ℕ) → b ≤ 48 → (b ≡ 48) ⊎ ((x : ℕ) × (q ≡ 2 * x + 1)) → ((k : ℕ) → k < b → kept_at e k ≡ sha256 (flipped k s)) → 0 < r → r < 2 ^ b → secret_from e (q * 2 ^ b + 1) (q * 2 ^ b + r) 48 ≡ derived_secret s b (q * 2 ^ b + r)
before_below e s q zero r h odd holds some small = absurd (omega arith)
before_below e s q (suc p) r h odd holds some small =
    let j = q * 2 ^ suc p + r in
    let f : floor_of (suc p) j ≡ q * 2 ^ suc p = floor_of-sum q (suc p) r small in
    let miss : (c : ℕ) → p < c → c ≤ 48 → floor_of c j < q * 2 ^ suc p + 1 = λ c low high.
    elim (cases_lt (suc p) c) [
      | inl more ↦ (let below = no_higher q (suc p) r odd small c more high in omega (arith, below))
      | inr le ↦
          (let e : c ≡ suc p = omega arith in
          subst (λ (n : ℕ). floor_of n j < q * 2 ^ suc p + 1) (sym e) (omega (arith, f)))
    ] in
    from-down e (q * 2 ^ suc p + 1) j p 48 (omega arith) miss
    ∙ from_low e s p (q * 2 ^ suc p) q r refl (λ k l. holds k (omega arith)) some small

-- before i is inserted: what stands for the index one bit above it is what is kept at the bit's bucket
pub before_at : (e : List (List ℕ)) (q b k : ℕ) → b ≤ 48 → (b ≡ 48) ⊎ ((x : ℕ) × (q ≡ 2 * x + 1)) → k < b → secret_from e (q * 2 ^ b + 1) (q * 2 ^ b + 2 ^ k) 48 ≡ kept_at e k
before_at e q b k h odd l =
    let i = q * 2 ^ b in
    let j = i + 2 ^ k in
    let part = λ (c : ℕ). q * 2 ^ (b - c) in
    let at_k : i ≡ part k * 2 ^ k = multiple_of_lower q b k (omega arith) in
    let is : j ≡ (part k + 1) * 2 ^ k = omega (arith, at_k) in
    let itself : floor_of k ((part k + 1) * 2 ^ k) ≡ (part k + 1) * 2 ^ k =
    ap (λ (n : ℕ). n * 2 ^ k) (mul-div_cancel (part k + 1) (pow_pos k)) in
    let floor : floor_of k j ≡ j = ap (floor_of k) is ∙ itself ∙ sym is in
    let miss : (c : ℕ) → k < c → c ≤ 48 → floor_of c j < i + 1 = λ c low high.
    elim (cases_lt b c) [
      | inl more ↦ (let below = no_higher q b (2 ^ k) odd (pow_below k b l) c more high in omega (arith, below))
      | inr le ↦
          (let at_c : i ≡ part c * 2 ^ c = multiple_of_lower q b c le in
          let f : floor_of c (part c * 2 ^ c + 2 ^ k) ≡ part c * 2 ^ c = floor_of-sum (part c) c (2 ^ k) (pow_below k c low) in
          let g : floor_of c j ≡ i = ap (λ (n : ℕ). floor_of c (n + 2 ^ k)) at_c ∙ f ∙ sym at_c in
          omega (arith, g))
    ] in
    from-is e (i + 1) j k 48 (omega arith) (omega (arith, floor, pow_pos k)) miss
    ∙ ap (derived_secret (kept_at e k) k) is
    ∙ derived-self (kept_at e k) (part k + 1) k

-- an index above all that share the leading bits of i stands for the same before and after
pub same_above : (e e' : List (List ℕ)) (x b j p : ℕ) → ((k : ℕ) → k ≢ b → kept_at e' k ≡ kept_at e k) → 2 * x + 1 < j / 2 ^ b → b < p → secret_from e' ((2 * x + 1) * 2 ^ b) j p ≡ secret_from e ((2 * x + 1) * 2 ^ b + 1) j p
same_above e e' x b j zero others far low = absurd (omega arith)
same_above e e' x b j (suc p) others far low =
    let i = (2 * x + 1) * 2 ^ b in
    let f = floor_of (suc p) j in
    elim (cases_lt f (i + 1)) [
      | inl under ↦
          (let apart : f ≢ i = odd_is_no_floor x b (suc p) j low in
          let above : i + 1 ≤ floor_of (suc b) j = floor_above_odd x b j far in
          let more : b < p = (elim (cases_lt b p) [
            | inl l ↦ l
            | inr le ↦
                (let z : suc p ≡ suc b = omega arith in
                let g : f ≡ floor_of (suc b) j = ap (λ (n : ℕ). floor_of n j) z in
                absurd (omega (arith, g, above, under)))
          ]) in
          from-miss e' i j p (omega (arith, apart, under))
          ∙ same_above e e' x b j p others far more
          ∙ sym (from-miss e (i + 1) j p under))
      | inr hit ↦
          (let differs : suc p ≢ b = omega arith in
          from-hit e' i j p (omega (arith, hit))
          ∙ ap (λ (t : List ℕ). derived_secret t (suc p) j) (others (suc p) differs)
          ∙ sym (from-hit e (i + 1) j p hit))
    ]
