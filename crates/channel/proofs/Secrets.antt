-- The secrets of one seed, taken in turn, are never foreign.
use Rattle.std.proofs.Common.{◌≡◌, ℕ, zero, suc, ◌-◌, ◌/◌, ◌%◌, ◌^◌, Bool, true, false, not, ◌&&◌, ◌||◌, eqb, List, [], ◌∷◌, ◌++◌, length, sym, ap, ◌∙◌, subst, refl, arith, length-append}
use Rattle.std.specs.Str.{bytes_eq}
use Rattle.std.specs.Int.Count.{count_trailing_zeros}
use Rattle.std.proofs.lemmas.Bool.{and_parts, eqb-true}
use Rattle.std.proofs.lemmas.Nat.{trailing_le}
use Rattle.std.proofs.Math.Nat.{mul-mod_left}
use Rattle.std.proofs.lemmas.Slice.Eq.{bytes_eq-Decides}
use Rattle.keys.specs.Derivation.{commitment_seed}
use Rattle.secrets.specs.Derivation.{derived_secret, commitment_secret}
use Rattle.secrets.proofs.Numbers.{trailing_splits}
use Rattle.secrets.proofs.Storing.{seed-leads}
use Rattle.channel.specs.Points.{index_of, secret_at, leads_to_one, leads_to, is_foreign}

implied : (c d : Bool) → (c ≡ true → d ≡ true) → not c || d ≡ true
implied true d f = f refl
implied false d f = refl

-- a secret of a seed leads to each other one of it
of_one_seed : (seed : List ℕ) (i j : ℕ) → leads_to_one (commitment_secret seed i) i (commitment_secret seed j) j ≡ true
of_one_seed seed i j =
    let b = count_trailing_zeros 48 i in
    let split = trailing_splits 48 i in
    let clear : i % 2 ^ b ≡ 0 = ap (λ (n : ℕ). n % 2 ^ b) split.is ∙ mul-mod_left split.high (2 ^ b) in
    implied (eqb (j / 2 ^ b) (i / 2 ^ b)) (bytes_eq (commitment_secret seed j) (derived_secret (commitment_secret seed i) b j))
    (λ same. (bytes_eq-Decides (commitment_secret seed j) (derived_secret (commitment_secret seed i) b j)).1
    (seed-leads seed i b j (trailing_le 48 i) clear (eqb-true (j / 2 ^ b) (i / 2 ^ b) same)))

leads_more : (secret : List ℕ) (i : ℕ) (others : List (List ℕ)) (more : List ℕ) (j : ℕ) → leads_to secret i others j ≡ true → leads_to_one secret i more (j - length others) ≡ true → leads_to secret i (others ++ more ∷ []) j ≡ true
leads_more secret i [] more j h one =
    let e : j - zero ≡ j = omega arith in
    ap (λ b. b && true) (subst (λ k. leads_to_one secret i more k ≡ true) e one)
leads_more secret i (other ∷ others) more j h one =
    let (first, rest) = and_parts (leads_to_one secret i other j) (leads_to secret i others (j - 1)) h in
    let e : j - suc (length others) ≡ j - 1 - length others = omega arith in
    ap (λ b. b && leads_to secret i (others ++ more ∷ []) (j - 1)) first
    ∙ leads_more secret i others more (j - 1) rest (subst (λ k. leads_to_one secret i more k ≡ true) e one)

-- the secrets of the numbers below n, the first first
abbrev pub secrets_below : List ℕ → ℕ → List (List ℕ)
secrets_below seed zero = []
secrets_below seed (suc n) = secrets_below seed n ++ secret_at seed n ∷ []

pub below-length : (seed : List ℕ) (n : ℕ) → length (secrets_below seed n) ≡ n
below-length seed zero = refl
below-length seed (suc n) = let h = below-length seed n in let l = length-append (secrets_below seed n) (secret_at seed n ∷ []) in omega (arith, h, l)

leads_below : (seed : List ℕ) (i n : ℕ) → leads_to (commitment_secret (commitment_seed seed) i) i (secrets_below seed n) (2 ^ 48 - 1) ≡ true
unfolding secret_at index_of
leads_below seed i zero = refl
leads_below seed i (suc n) =
    let own = commitment_seed seed in
    let e : index_of n ≡ 2 ^ 48 - 1 - length (secrets_below seed n) = ap (λ k. 2 ^ 48 - 1 - k) (sym (below-length seed n)) in
    leads_more (commitment_secret own i) i (secrets_below seed n) (secret_at seed n) (2 ^ 48 - 1) (leads_below seed i n)
    (subst (λ k. leads_to_one (commitment_secret own i) i (secret_at seed n) k ≡ true) e (of_one_seed own i (index_of n)))

pub takes_own : (seed : List ℕ) (n : ℕ) → is_foreign (secrets_below seed n) (secret_at seed n) ≡ false
unfolding is_foreign secret_at
takes_own seed n =
    let e = below-length seed n in
    ap (λ k. not (leads_to (secret_at seed n) (index_of k) (secrets_below seed n) (2 ^ 48 - 1))) e
    ∙ ap not (leads_below seed (index_of n) n)
