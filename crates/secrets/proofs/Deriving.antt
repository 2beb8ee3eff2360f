-- Derivation over ranges of bits.
use Rattle.std.proofs.Common.{◌≡◌, ◌≢◌, ℕ, zero, suc, ◌+◌, ◌-◌, ◌*◌, ◌/◌, ◌%◌, ◌^◌, ◌<◌, ◌≤◌, List, refl, sym, ap, ◌∙◌, inl, inr, arith, set, get_or, bit_and, bit_xor}
use Rattle.std.specs.Int.{bit_at}
use Rattle.std.proofs.lemmas.Bool.{cases_lt}
use Rattle.std.proofs.lemmas.Nat.{shr-shr, one_shl, mod_below}
use Rattle.std.proofs.lemmas.Nat.Bits.{bit_at_cat_low, bit_at-pow_same, bit_at-pow_other, shr_and_one, bit_at-lt}
use Rattle.sha2.specs.Sha256.{sha256}
use Rattle.secrets.specs.Derivation.{flipped, after_bit, derived_secret}
use Rattle.secrets.proofs.Numbers.{bit_at_multiple}

pub derived-zero : (s : List ℕ) (i : ℕ) → derived_secret s zero i ≡ s
unfolding derived_secret
derived-zero s i = refl

-- past a bit that is 0
pub derived-clear : (s : List ℕ) (b i : ℕ) → bit_at i b ≡ 0 → derived_secret s (suc b) i ≡ derived_secret s b i
unfolding derived_secret
derived-clear s b i e = ap (λ (d : ℕ). derived_secret (after_bit d b s) b i) e

-- past a bit that is 1
pub derived-set : (s : List ℕ) (b i : ℕ) → bit_at i b ≡ 1 → derived_secret s (suc b) i ≡ derived_secret (sha256 (flipped b s)) b i
unfolding derived_secret
derived-set s b i e = ap (λ (d : ℕ). derived_secret (after_bit d b s) b i) e

-- past bits that are all 0
pub derived-down : (s : List ℕ) (a b i : ℕ) → a ≤ b → ((c : ℕ) → a ≤ c → c < b → bit_at i c ≡ 0) → derived_secret s b i ≡ derived_secret s a i
derived-down s a zero i h clear = let e : zero ≡ a = omega arith in ap (λ (n : ℕ). derived_secret s n i) e
derived-down s a (suc b) i h clear =
    elim (cases_lt b a) [
      | inl over ↦ (let e : suc b ≡ a = omega arith in ap (λ (n : ℕ). derived_secret s n i) e)
      | inr le ↦
          derived-clear s b i (clear b le (omega arith))
          ∙ derived-down s a b i le (λ c low high. clear c low (omega arith))
    ]

-- a secret leads to itself
pub derived-self : (s : List ℕ) (q b : ℕ) → derived_secret s b (q * 2 ^ b) ≡ s
derived-self s q b =
    derived-down s zero b (q * 2 ^ b) (omega arith) (λ c low high. bit_at_multiple q b c high) ∙ derived-zero s (q * 2 ^ b)

-- by a single bit
pub derived-one : (s : List ℕ) (q b k : ℕ) → k < b → derived_secret s b (q * 2 ^ b + 2 ^ k) ≡ sha256 (flipped k s)
derived-one s q b k h =
    let j = q * 2 ^ b + 2 ^ k in
    let bit : (c : ℕ) → c < b → bit_at j c ≡ bit_at (2 ^ k) c = λ c l. bit_at_cat_low q b (2 ^ k) c l in
    derived-down s (suc k) b j (omega arith) (λ c low high. bit c high ∙ bit_at-pow_other k c (omega arith))
    ∙ derived-set s k j (bit k h ∙ bit_at-pow_same k)
    ∙ derived-down (sha256 (flipped k s)) zero k j (omega arith)
    (λ c low high. bit c (omega arith) ∙ bit_at-pow_other k c (omega arith))
    ∙ derived-zero (sha256 (flipped k s)) j

-- numbers with the same bits from b on
same_high : (i j b n : ℕ) → b ≤ n → j / 2 ^ b ≡ i / 2 ^ b → bit_at j n ≡ bit_at i n
same_high i j b n h e =
    let split : n ≡ b + (n - b) = omega arith in
    let at : (m : ℕ) → m / 2 ^ n ≡ m / 2 ^ b / 2 ^ (n - b) =
    λ m. ap (λ (k : ℕ). m / 2 ^ k) split ∙ sym (shr-shr m b (n - b)) in
    ap (λ (m : ℕ). m % 2) (at j ∙ ap (λ (m : ℕ). m / 2 ^ (n - b)) e ∙ sym (at i))

-- derivation in two steps: by the bits of a multiple of 2^b first, then by the lowest b
pub derived-split : (s : List ℕ) (q b n j : ℕ) → b ≤ n → j / 2 ^ b ≡ q * 2 ^ b / 2 ^ b → derived_secret s n j ≡ derived_secret (derived_secret s n (q * 2 ^ b)) b j
unfolding derived_secret
derived-split s q b zero j h e =
    let z : b ≡ zero = omega arith in
    let x = derived_secret s zero (q * 2 ^ b) in
    sym (ap (λ (n : ℕ). derived_secret x n j) z)
derived-split s q b (suc n) j h e =
    let i = q * 2 ^ b in
    elim (cases_lt n b) [
      | inl over ↦
          (let z : suc n ≡ b = omega arith in
          let self : derived_secret s (suc n) i ≡ s =
          ap (λ (k : ℕ). derived_secret s k i) z ∙ derived-self s q b in
          ap (λ (k : ℕ). derived_secret s k j) z ∙ sym (ap (λ (x : List ℕ). derived_secret x b j) self))
      | inr le ↦
          ap (λ (d : ℕ). derived_secret (after_bit d n s) n j) (same_high i j b n le e)
          ∙ derived-split (after_bit (bit_at i n) n s) q b n j le e
    ]

-- ---- what the code computes

-- a byte with one bit flipped by a shift
pub flipped-is : (s : List ℕ) (b : ℕ) → set s (b / 8) (bit_xor (get_or s (b / 8) 0) (1 * 2 ^ (b % 8) % 2 ^ 8)) ≡ flipped b s
unfolding flipped
flipped-is s b =
    ap (λ (n : ℕ). set s (b / 8) (bit_xor (get_or s (b / 8) 0) n)) (one_shl (b % 8) 8 (mod_below b 8 (omega arith)))

-- one bit further down, where it is set
pub further-set : (s t x : List ℕ) (b i : ℕ) → 0 < b → bit_and (i / 2 ^ (b - 1)) 1 ≡ 1 → t ≡ sha256 (flipped (b - 1) s) → derived_secret s b i ≡ x → derived_secret t (b - 1) i ≡ x
further-set s t x b i some set is so_far =
    let e : b ≡ suc (b - 1) = omega arith in
    ap (λ (u : List ℕ). derived_secret u (b - 1) i) is
    ∙ sym (derived-set s (b - 1) i (sym (shr_and_one i (b - 1)) ∙ set))
    ∙ sym (ap (λ (n : ℕ). derived_secret s n i) e)
    ∙ so_far

-- and where it is not
pub further-clear : (s x : List ℕ) (b i : ℕ) → 0 < b → bit_and (i / 2 ^ (b - 1)) 1 ≢ 1 → derived_secret s b i ≡ x → derived_secret s (b - 1) i ≡ x
further-clear s x b i some clear so_far =
    let e : b ≡ suc (b - 1) = omega arith in
    let zero : bit_at i (b - 1) ≡ 0 = omega (arith, clear, shr_and_one i (b - 1), bit_at-lt i (b - 1)) in
    sym (derived-clear s (b - 1) i zero)
    ∙ sym (ap (λ (n : ℕ). derived_secret s n i) e)
    ∙ so_far
