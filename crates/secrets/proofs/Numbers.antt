-- Indices with their lowest bits cleared, and the count of an index's trailing zeros.
use Rattle.std.proofs.Common.{◌≡◌, ◌≢◌, ℕ, zero, suc, ◌+◌, ◌-◌, ◌*◌, ◌/◌, ◌%◌, ◌^◌, ◌<◌, ◌≤◌, ◌⊎◌, min, refl, sym, ap, ◌∙◌, subst, inl, inr, arith}
use Rattle.std.specs.Int.{bit_at}
use Rattle.std.specs.Int.Count.{count_trailing_zeros, under}
use Rattle.std.proofs.lemmas.Nat.{pow_pos, pow-add, shr-shr, shr_high}
use Rattle.std.proofs.lemmas.Nat.Bits.{bit_at_cat_low, bit_at-zero}
use Rattle.std.proofs.Math.Nat.{pow-suc, mul_assoc, mul_comm, div-mul-le_self, mul-le-mul_right, mul-div_cancel}
use Rattle.secrets.specs.Buckets.{floor_of}

-- a power by one more, with its double
pub doubled : (p : ℕ) → 2 ^ suc p ≡ 2 ^ p * 2
doubled p = pow-suc 2 p

-- a multiple of 2^b has no bit below b
pub bit_at_multiple : (q b c : ℕ) → c < b → bit_at (q * 2 ^ b) c ≡ 0
bit_at_multiple q b c h = subst (λ (n : ℕ). bit_at n c ≡ 0) (omega arith) (bit_at_cat_low q b 0 c h ∙ bit_at-zero c)

-- a rest below 2^c is cleared
pub floor_of-sum : (a c r : ℕ) → r < 2 ^ c → floor_of c (a * 2 ^ c + r) ≡ a * 2 ^ c
floor_of-sum a c r h = ap (λ (n : ℕ). n * 2 ^ c) (shr_high a c r h)

-- a multiple of 2^b is also a multiple of each lower power
pub multiple_of_lower : (q b c : ℕ) → c ≤ b → q * 2 ^ b ≡ q * 2 ^ (b - c) * 2 ^ c
multiple_of_lower q b c h =
    let e : b ≡ (b - c) + c = omega arith in
    ap (λ (n : ℕ). q * 2 ^ n) e ∙ ap (λ (n : ℕ). q * n) (pow-add 2 (b - c) c) ∙ sym (mul_assoc q (2 ^ (b - c)) (2 ^ c))

-- the index with its lowest c bits cleared, by its bits above the lowest b
pub floor_of-higher : (j b d : ℕ) → floor_of (b + suc d) j ≡ j / 2 ^ b / 2 ^ suc d * 2 ^ d * 2 * 2 ^ b
floor_of-higher j b d =
    let y = j / 2 ^ b / 2 ^ suc d in
    let e : j / 2 ^ (b + suc d) ≡ y = sym (shr-shr j b (suc d)) in
    let p : 2 ^ (b + suc d) ≡ 2 ^ suc d * 2 ^ b = pow-add 2 b (suc d) ∙ mul_comm (2 ^ b) (2 ^ suc d) in
    let r : y * (2 ^ suc d * 2 ^ b) ≡ y * 2 ^ suc d * 2 ^ b = sym (mul_assoc y (2 ^ suc d) (2 ^ b)) in
    let t : y * 2 ^ suc d ≡ y * 2 ^ d * 2 = ap (λ (n : ℕ). y * n) (doubled d) ∙ sym (mul_assoc y (2 ^ d) 2) in
    ap (λ (n : ℕ). n * 2 ^ (b + suc d)) e ∙ ap (λ (n : ℕ). y * n) p ∙ r ∙ ap (λ (n : ℕ). n * 2 ^ b) t

apart_by : (b c : ℕ) → b < c → (d : ℕ) × (c ≡ b + suc d)
apart_by b c h = let e : c ≡ b + suc (c - b - 1) = omega arith in (c - b - 1, e)

-- an odd multiple of 2^b is not an index with more than b bits cleared
pub odd_is_no_floor : (x b c j : ℕ) → b < c → floor_of c j ≢ (2 * x + 1) * 2 ^ b
odd_is_no_floor x b c j h e =
    let split = apart_by b c h in
    let d = split.0 in
    let y = j / 2 ^ b / 2 ^ suc d * 2 ^ d in
    let f : y * 2 * 2 ^ b ≡ (2 * x + 1) * 2 ^ b =
    sym (floor_of-higher j b d) ∙ ap (λ (n : ℕ). floor_of n j) (sym split.1) ∙ e in
    let k : y * 2 ≡ 2 * x + 1 = sym (mul-div_cancel (y * 2) (pow_pos b)) ∙ ap (λ (n : ℕ). n / 2 ^ b) f ∙ mul-div_cancel (2 * x + 1) (pow_pos b) in
    absurd (omega (arith, k))

-- above an odd multiple of 2^b, less than 2^b further, every higher floor is below it
pub floor_below_odd : (x b c r : ℕ) → b < c → r < 2 ^ b → floor_of c ((2 * x + 1) * 2 ^ b + r) < (2 * x + 1) * 2 ^ b
floor_below_odd x b c r h small =
    let q = 2 * x + 1 in
    let split = apart_by b c h in
    let d = split.0 in
    let w = 2 ^ suc d in
    let f : floor_of c (q * 2 ^ b + r) ≡ q / w * 2 ^ d * 2 * 2 ^ b =
    ap (λ (n : ℕ). floor_of n (q * 2 ^ b + r)) split.1 ∙ floor_of-higher (q * 2 ^ b + r) b d
    ∙ ap (λ (n : ℕ). n / w * 2 ^ d * 2 * 2 ^ b) (shr_high q b r small) in
    let t : q / w * 2 ^ d * 2 ≡ q / w * w = mul_assoc (q / w) (2 ^ d) 2 ∙ ap (λ (n : ℕ). q / w * n) (sym (doubled d)) in
    let le : q / w * w ≤ q = div-mul-le_self q w in
    let lt : q / w * 2 ^ d * 2 + 1 ≤ q = omega (arith, t, le) in
    let m : (q / w * 2 ^ d * 2 + 1) * 2 ^ b ≤ q * 2 ^ b = mul-le-mul_right (2 ^ b) lt in
    omega (arith, f, m, pow_pos b)

-- after these, the next floor is above it
pub floor_above_odd : (x b j : ℕ) → 2 * x + 1 < j / 2 ^ b → (2 * x + 1) * 2 ^ b + 1 ≤ floor_of (suc b) j
floor_above_odd x b j h =
    let g = j / 2 ^ b in
    let f : floor_of (b + suc 0) j ≡ g / 2 ^ suc 0 * 2 ^ 0 * 2 * 2 ^ b = floor_of-higher j b 0 in
    let f' : floor_of (suc b) j ≡ g / 2 * 1 * 2 * 2 ^ b = let e : suc b ≡ b + suc 0 = omega arith in ap (λ (n : ℕ). floor_of n j) e ∙ f in
    let le : 2 * x + 2 ≤ g / 2 * 1 * 2 = omega arith in
    let m : (2 * x + 2) * 2 ^ b ≤ g / 2 * 1 * 2 * 2 ^ b = mul-le-mul_right (2 ^ b) le in
    omega (arith, f', m, pow_pos b)

-- a number as a multiple of the power of its trailing zeros; the factor is odd unless all k digits are zeros
pub record Splits (k n b : ℕ) : Type 0 where
  pub high : ℕ
  pub is : n ≡ high * 2 ^ b
  pub odd : (b ≡ k) ⊎ ((x : ℕ) × (high ≡ 2 * x + 1))

pub trailing_splits : (k n : ℕ) → Splits k n (count_trailing_zeros k n)
unfolding count_trailing_zeros
trailing_splits zero n = record { high = n; is = omega arith; odd = inl refl }
trailing_splits (suc k) n = at (n % 2) refl (trailing_splits k (n / 2))
  where
    at : (d : ℕ) → n % 2 ≡ d → Splits k (n / 2) (count_trailing_zeros k (n / 2)) → Splits (suc k) n (under d (count_trailing_zeros k (n / 2)))
    at zero e s =
        let twice : n ≡ n / 2 * 2 = omega arith in
        let p = 2 ^ count_trailing_zeros k (n / 2) in
        record {
          high = s.high;
          is = twice ∙ ap (λ (m : ℕ). m * 2) s.is ∙ mul_assoc s.high p 2
              ∙ ap (λ (m : ℕ). s.high * m) (sym (doubled (count_trailing_zeros k (n / 2))));
          odd = elim (s.odd) [ inl a ↦ inl (ap suc a) | inr o ↦ inr o ];
        }
    at (suc d) e s =
        let o : n ≡ 2 * (n / 2) + 1 = omega arith in
        record { high = n; is = omega arith; odd = inr (n / 2, o) }

-- where fewer digits are read, no more zeros are counted
pub trailing-fewer : (j d n : ℕ) → count_trailing_zeros j n ≡ min (count_trailing_zeros (j + d) n) j
unfolding count_trailing_zeros
trailing-fewer zero d n = omega arith
trailing-fewer (suc j) d n =
    let e : suc j + d ≡ suc (j + d) = omega arith in
    let same = trailing-fewer j d (n / 2) in
    at (n % 2) (count_trailing_zeros j (n / 2)) (count_trailing_zeros (j + d) (n / 2)) same
    ∙ sym (ap (λ (k : ℕ). min (count_trailing_zeros k n) (suc j)) e)
  where
    at : (r t u : ℕ) → t ≡ min u j → under r t ≡ min (under r u) (suc j)
    at zero t u h = omega arith
    at (suc r) t u h = omega arith
