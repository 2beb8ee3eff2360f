-- Numbers that fill holes, as items.
use Rattle.std.proofs.Common.{◌≡◌, ℕ, zero, suc, ◌+◌, ◌*◌, ◌/◌, ◌%◌, ◌<◌, ◌≤◌, Bool, true, false, ◌&&◌, [], ◌∷◌, ◌++◌, length, sym, ap, ◌∙◌, refl, arith}
use Rattle.std.specs.Prelude.{nat_lt, nat_le, ◌==◌, if◌then◌else◌}
use Rattle.script.specs.declared.opcode.Op.TheVariants.{Push, Number as SmallNumber}
use Rattle.script.specs.Number.{lowest, digits, minimal_bytes_of}
use Rattle.script.proofs.RoundTrip.{read_back}
use Rattle.paths.specs.declared.constants.HoleKind.TheVariants.{Number}
use Rattle.paths.specs.Holes.{fits, is_low_number, pushed_by}
use Rattle.paths.specs.Patterns.{number_op}

digits_zero : (fuel : ℕ) → digits fuel 0 ≡ []
unfolding digits
digits_zero zero = refl
digits_zero (suc fuel) = refl

-- a number from 1 to 127 is one byte
pub one_byte : (n : ℕ) → 1 ≤ n → n < 128 → minimal_bytes_of n ≡ n ∷ []
unfolding minimal_bytes_of digits
one_byte n h k =
    let some : (n == 0) ≡ false = grind (arith, h) in
    let none : n / 256 ≡ 0 = omega (arith, k) in
    let low : nat_le 128 n ≡ false = grind (arith, k) in
    let same : n % 256 ≡ n = omega (arith, k) in
    ap (λ b. if b then [] else (lowest n ++ digits 8 (n / 256))) some
    ∙ ap (λ d. lowest n ++ digits 8 d) none
    ∙ ap (λ b. (if b && nat_lt n 256 then (n ∷ 0 ∷ []) else (n % 256 ∷ [])) ++ digits 8 0) low
    ∙ ap (λ d. d ∷ []) same

number_fits : (n : ℕ) → nat_lt n 500000000 ≡ true → fits Number (minimal_bytes_of n) ≡ true
unfolding fits
number_fits n h = ap is_low_number (read_back n (grind (arith, h))) ∙ h

-- what a number's opcode pushes is the number
pub pushed_number : (n : ℕ) → pushed_by (number_op n) ≡ minimal_bytes_of n
pushed_number n = go (nat_le 1 n && nat_le n 16) refl
  where
    go : (b : Bool) → (nat_le 1 n && nat_le n 16) ≡ b → pushed_by (if b then SmallNumber n else Push (minimal_bytes_of n)) ≡ minimal_bytes_of n
    go true e = sym (one_byte n (grind (arith, e)) (grind (arith, e)))
    go false e = refl

pub pushed_number-fits : (n : ℕ) → nat_lt n 500000000 ≡ true → fits Number (pushed_by (number_op n)) ≡ true
pushed_number-fits n h = ap (fits Number) (pushed_number n) ∙ number_fits n h

-- and has at most four bytes
lowest_short : (n : ℕ) → n < 128 → length (lowest n) ≡ 1
lowest_short n h = let low : nat_le 128 n ≡ false = grind (arith, h) in ap (λ b. length (if b && nat_lt n 256 then (n ∷ 0 ∷ []) else (n % 256 ∷ []))) low

short_end : (fuel n : ℕ) → n < 128 → length (digits (suc fuel) n) ≤ 1
unfolding digits
short_end fuel n h = go (n == 0)
  where
    none : n / 256 ≡ 0
    none = omega (arith, h)

    low : nat_le 128 n ≡ false
    low = grind (arith, h)

    one : length (lowest n ++ digits fuel (n / 256)) ≡ 1
    one =
        ap (λ d. length (lowest n ++ digits fuel d)) none ∙ ap (λ ds. length (lowest n ++ ds)) (digits_zero fuel)
        ∙ ap (λ b. length ((if b && nat_lt n 256 then (n ∷ 0 ∷ []) else (n % 256 ∷ [])) ++ [])) low

    go : (b : Bool) → length (if b then [] else (lowest n ++ digits fuel (n / 256))) ≤ 1
    go true = omega arith
    go false = omega (arith, one)

short_more : (fuel n m bound : ℕ) → ((q : ℕ) → q < bound → length (digits fuel q) ≤ m) → 1 ≤ m → n < 256 * bound → length (digits (suc fuel) n) ≤ m + 1
unfolding digits
short_more fuel n m bound shorter one h = go (n == 0) (nat_le 128 n && nat_lt n 256) refl
  where
    less : n / 256 < bound
    less = omega (arith, h)

    rest : length (digits fuel (n / 256)) ≤ m
    rest = shorter (n / 256) less

    go : (b c : Bool) → (nat_le 128 n && nat_lt n 256) ≡ c → length (if b then [] else ((if c then (n ∷ 0 ∷ []) else (n % 256 ∷ [])) ++ digits fuel (n / 256))) ≤ m + 1
    go true c e = omega arith
    go false true e =
        let none : n / 256 ≡ 0 = grind (arith, e) in
        let end : length (digits fuel (n / 256)) ≡ 0 = ap (λ d. length (digits fuel d)) none ∙ ap length (digits_zero fuel) in
        omega (arith, end, one)
    go false false e = omega (arith, rest)

pub number_short : (n : ℕ) → nat_lt n 500000000 ≡ true → length (minimal_bytes_of n) ≤ 4
unfolding minimal_bytes_of
number_short n h =
    short_more 8 n 3 8388608 (λ q k.
    short_more 7 q 2 32768 (λ r l.
    short_more 6 r 1 128 (λ t m. short_end 5 t m) (omega arith) l) (omega arith) k) (omega arith) (grind (arith, h))
