-- The minimal encoding of a number is read as that number.
use Rattle.std.proofs.Common.{◌≡◌, ◌≢◌, ℕ, zero, suc, ◌+◌, ◌*◌, ◌/◌, ◌%◌, ◌^◌, ◌<◌, ◌≤◌, Bool, true, false, nat_le, nat_lt, ◌&&◌, List, [], ◌∷◌, ◌++◌, length, Some, sym, ap, ◌∙◌, refl, subst, arith, pow-suc, mod-eq_of_lt, eq-zero-or-pos, ⊎_elim}
use Rattle.std.specs.Prelude.{if◌then◌else◌}
use Rattle.std.proofs.lemmas.Bool.{lt-leb, leb-true, leb-false, ltb-true, ltb-false}
use Rattle.script.specs.Number.{unsigned, lowest, digits, minimal_bytes_of, number_of}
use Rattle.script.proofs.Digits.{digits-zero, digits-suc}
use Rattle.script.proofs.Numbers.{number_of-nil, number_of-good}

-- the item of n: its value, with room for the sign, and no byte more than needed
abbrev pub IsShortest : ℕ → List ℕ → Type 0
IsShortest n [] = n ≡ 0
IsShortest n (x ∷ xs) = (unsigned (x ∷ xs) ≡ n) × (n < 128 * 256 ^ length xs) × (256 ^ length xs ≤ 2 * n)

-- one digit below
shortest_more : (n r q : ℕ) (ys : List ℕ) → n ≡ 256 * q + r → r < 256 → 256 ≤ n → IsShortest q ys → IsShortest n (r ∷ ys)
shortest_more n r q [] e l h s = absurd (omega arith)
shortest_more n r q (y ∷ ys) e l h s =
    let p : 256 ^ length (y ∷ ys) ≡ 256 ^ length ys * 256 = pow-suc 256 (length ys) in
    let a = s.0 in let b = s.1 in let c = s.2 in
    (omega arith, omega arith, omega arith)

shortest_small : (n : ℕ) → 0 < n → n < 128 → IsShortest n (n ∷ [])
shortest_small n a b = (omega arith, omega arith, omega arith)

shortest_signed : (n : ℕ) → 128 ≤ n → n < 256 → IsShortest n (n ∷ 0 ∷ [])
shortest_signed n a b = (omega arith, omega arith, omega arith)

record Fitting (k n : ℕ) (bs : List ℕ) : Type 0 where
  shortest : IsShortest n bs
  long : length bs ≤ k + 1

step : (k m n : ℕ) → 0 < n → Fitting k (n / 256) (digits m (n / 256)) → (a b : Bool) → nat_le 128 n ≡ a → nat_lt n 256 ≡ b → Fitting (k + 1) n ((if a && b then (n ∷ 0 ∷ []) else (n % 256 ∷ [])) ++ digits m (n / 256))
step k m n p f true true e g =
    let l : 128 ≤ n = leb-true 128 n e in let h : n < 256 = ltb-true n 256 g in
    let z : n / 256 ≡ 0 = omega arith in
    let d : digits m (n / 256) ≡ [] = ap (digits m) z ∙ digits-zero m in
    rw d (record { shortest = shortest_signed n l h; long = omega arith })
step k m n p f true false e g =
    let h : 256 ≤ n = ltb-false n 256 g in
    record { shortest = shortest_more n (n % 256) (n / 256) (digits m (n / 256)) (omega arith) (omega arith) h f.shortest; long = let l = f.long in omega arith }
step k m n p f false b e g =
    let h : n < 128 = leb-false 128 n e in
    let z : n / 256 ≡ 0 = omega arith in
    let r : n % 256 ≡ n = omega arith in
    let d : digits m (n / 256) ≡ [] = ap (digits m) z ∙ digits-zero m in
    rw (d, r) (record { shortest = shortest_small n p h; long = omega arith })

nothing : (k m n : ℕ) → n ≡ 0 → Fitting k n (digits m n)
nothing k m n e =
    let d : digits m n ≡ [] = ap (digits m) e ∙ digits-zero m in
    rw d (record { shortest = e; long = omega arith })

fitting : (k m n : ℕ) → n < 256 ^ k → k ≤ m → Fitting k n (digits m n)
fitting zero m n l h = nothing 0 m n (omega arith)
fitting (suc k) zero n l h = absurd (omega arith)
fitting (suc k) (suc m) n l h =
    let e : 256 ^ suc k ≡ 256 ^ k * 256 = pow-suc 256 k in
    some (fitting k m (n / 256) (omega arith) (omega arith))
  where
    some : Fitting k (n / 256) (digits m (n / 256)) → Fitting (suc k) n (digits (suc m) n)
    some f = ⊎_elim (λ z. nothing (suc k) (suc m) n z) (λ p.
        let e : k + 1 ≡ suc k = omega arith in
        let q : n ≢ 0 = λ z. omega arith in
        subst (Fitting (suc k) n) (sym (digits-suc m n q)) (subst (λ i. Fitting i n (lowest n ++ digits m (n / 256))) e (step k m n p f (nat_le 128 n) (nat_lt n 256) refl refl))) (eq-zero-or-pos n)

shortest_read : (limit n : ℕ) (bs : List ℕ) → IsShortest n bs → length bs ≤ limit → number_of limit bs ≡ Some (record { negative = false; magnitude = n })
shortest_read limit n [] s l = number_of-nil limit [] refl ∙ ap (λ m. Some (record { negative = false; magnitude = m })) (sym s)
shortest_read limit n (x ∷ xs) s l =
    let p : 256 ^ suc (length xs) ≡ 256 ^ length xs * 256 = pow-suc 256 (length xs) in
    let b = s.1 in let c = s.2 in
    let h : n < 256 ^ suc (length xs) / 2 = omega arith in
    let m : n % (256 ^ suc (length xs) / 2) ≡ n = mod-eq_of_lt h in
    number_of-good limit (x ∷ xs) n (256 ^ suc (length xs)) (omega arith) l (sym s.0) refl (rw m (omega arith))
    ∙ rw (m, lt-leb (256 ^ suc (length xs) / 2) n h) refl

pub read_back : (n : ℕ) → n < 2 ^ 32 → number_of 5 (minimal_bytes_of n) ≡ Some (record { negative = false; magnitude = n })
unfolding minimal_bytes_of
read_back n l = let f = fitting 4 9 n (omega arith) (omega arith) in shortest_read 5 n (digits 9 n) f.shortest f.long
