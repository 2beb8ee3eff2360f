-- What an entry of a walk stands for on the stack of a run.
use Rattle.std.proofs.Common.{◌≡◌, ℕ, zero, suc, ◌≤◌, Bool, true, false, ◌&&◌, ◌==◌, List, [], ◌∷◌, length, take, drop, sym, ap, ◌∙◌, subst, refl, arith, ⊎_elim}
use Rattle.std.specs.Prelude.{if◌then◌else◌}
use Rattle.std.specs.Str.{bytes_eq}
use Rattle.std.proofs.lemmas.List.{take_all}
use Rattle.std.proofs.lemmas.Bool.{false≢true, true≢false, eq-eqb, false_from_ne_true}
use Rattle.std.proofs.lemmas.Slice.Eq.{bytes_eq-Decides}
use Rattle.std.proofs.Math.Nat.{eq-or-lt_of_le}
use Rattle.digest.specs.Hash.{hash160}
use Rattle.digest.proofs.OutsideVectors.{length-ripemd160}
use Rattle.script.specs.Number.{number_of, minimal_bytes_of, digits}
use Rattle.script.specs.Step.{Elements, flag}
use Rattle.strictness.specs.Words.{Word, item, known, hashed, sized, answer, first_bytes, top_of, below, known_flag, length_bytes, size_of, hash_of, is_length, answer_if, equal_of}
use Rattle.strictness.proofs.Steps.{drop_one}

-- no element has more than 520 bytes
abbrev pub AreShort : Elements → Type 0
AreShort [] = Unit {0}
AreShort (x ∷ xs) = (length x ≤ 520) × AreShort xs

-- an item of the witness is short; what a script determines is that; a hash has 20 bytes; a length is encoded as one; an answer may be anything
abbrev pub Stands : Word → List ℕ → Type 0
Stands item x = length x ≤ 520
Stands (known b) x = (x ≡ b) × (length b ≤ 75)
Stands hashed x = length x ≡ 20
Stands sized x = is_length (number_of 4 x) ≡ true
Stands answer x = Unit {0}

-- the entries stand for the topmost elements, and below are items of the witness
abbrev pub Fits : List Word → Elements → Type 0
Fits [] xs = AreShort xs
Fits (v ∷ w) [] = ⊥
Fits (v ∷ w) (x ∷ xs) = Stands v x × Fits w xs

pub popped : (w : List Word) (x : List ℕ) (xs : Elements) → Fits w (x ∷ xs) → Stands (top_of w) x × Fits (below w) xs
popped [] x xs f = f
popped (v ∷ w) x xs f = f

pub dropped : (n : ℕ) (w : List Word) (xs : Elements) → Fits w xs → n ≤ length xs → Fits (drop n w) (drop n xs)
dropped zero w xs f l = f
dropped (suc n) w [] f l = absurd (omega (arith, l))
dropped (suc n) w (x ∷ xs) f l =
    let P : List Word → Type 0 = λ v. Fits v (drop n xs) in
    subst P (sym (drop_one n w)) (dropped n (below w) xs (popped w x xs f).1 (omega (arith, l)))

-- bytes that a script pushes
pub known_is : (b : List ℕ) → length b ≤ 75 → Stands (known (first_bytes b)) b
known_is b l = let e : take 75 b ≡ b = take_all 75 b l in (sym e, subst (λ (c : List ℕ). length c ≤ 75) (sym e) l)

pub flag_is : (b : Bool) → Stands (known_flag b) (flag b)
flag_is true = known_is (1 ∷ []) (omega arith)
flag_is false = known_is [] (omega arith)

differ : (y x : List ℕ) → (y ≡ x → ⊥) → bytes_eq y x ≡ false
differ y x h = false_from_ne_true (bytes_eq y x) (λ e. h ((bytes_eq-Decides y x).0 e))

answer_is : (t : Bool) (y x : List ℕ) → (t ≡ false → bytes_eq y x ≡ false) → Stands (answer_if t) (flag (bytes_eq y x))
answer_is true y x h = tt
answer_is false y x h = subst (λ (t : Bool). Stands (known_flag false) (flag t)) (sym (h refl)) (flag_is false)

-- no bytes of another length are a hash
no_hash : (b y x : List ℕ) → (y ≡ x → length b ≡ 20) → (length b == 20) ≡ false → bytes_eq y x ≡ false
no_hash b y x h e = differ y x (λ s. true≢false (sym (eq-eqb (length b) 20 (h s)) ∙ e))

no_size : (b y x : List ℕ) → (y ≡ x → is_length (number_of 4 b) ≡ true) → is_length (number_of 4 b) ≡ false → bytes_eq y x ≡ false
no_size b y x h e = differ y x (λ s. true≢false (sym (h s) ∙ e))

-- EQUAL
pub equal_is : (u v : Word) (y x : List ℕ) → Stands u y → Stands v x → Stands (equal_of u v) (flag (bytes_eq y x))
equal_is (known a) (known b) y x p q =
    let e : bytes_eq y x ≡ bytes_eq a b = ap (λ (z : List ℕ). bytes_eq z x) p.0 ∙ ap (bytes_eq a) q.0 in
    subst (λ (t : Bool). Stands (known_flag t) (flag (bytes_eq y x))) e (flag_is (bytes_eq y x))
equal_is (known b) hashed y x p q = answer_is (length b == 20) y x (no_hash b y x (λ s. ap length (sym p.0 ∙ s) ∙ q))
equal_is hashed (known b) y x p q = answer_is (length b == 20) y x (no_hash b y x (λ s. ap length (sym q.0 ∙ sym s) ∙ p))
equal_is (known b) sized y x p q = answer_is (is_length (number_of 4 b)) y x (no_size b y x (λ s. ap (λ (z : List ℕ). is_length (number_of 4 z)) (sym p.0 ∙ s) ∙ q))
equal_is sized (known b) y x p q = answer_is (is_length (number_of 4 b)) y x (no_size b y x (λ s. ap (λ (z : List ℕ). is_length (number_of 4 z)) (sym q.0 ∙ sym s) ∙ p))
equal_is u v y x p q = tt

pub both_hold : (a b : Bool) → (a && b) ≡ true → (a ≡ true) × (b ≡ true)
both_hold true b e = (refl, e)
both_hold false b e = absurd (false≢true e)

-- a test of each number up to a bound
all_up_to : ℕ → (ℕ → Bool) → Bool
all_up_to zero test = test 0
all_up_to (suc k) test = test (suc k) && all_up_to k test

one_of : (k n : ℕ) (test : ℕ → Bool) → n ≤ k → all_up_to k test ≡ true → test n ≡ true
unfolding all_up_to
one_of zero n test l e = let z : n ≡ 0 = omega (arith, l) in ap test z ∙ e
one_of (suc k) n test l e =
    let t = both_hold (test (suc k)) (all_up_to k test) e in
    ⊎_elim (λ z. ap test z ∙ t.0) (λ m. one_of k n test (omega (arith, m)) t.1) (eq-or-lt_of_le l)

size_test : all_up_to 520 (λ n. is_length (number_of 4 (minimal_bytes_of n))) ≡ true
unfolding all_up_to number_of minimal_bytes_of digits
size_test = refl

short_test : all_up_to 75 (λ n. bytes_eq (minimal_bytes_of n) (length_bytes n)) ≡ true
unfolding all_up_to minimal_bytes_of digits
short_test = refl

of_twenty : minimal_bytes_of 20 ≡ 20 ∷ []
unfolding minimal_bytes_of digits
of_twenty = refl

short_length : (n : ℕ) (t : Bool) → length (if t then [] else (n ∷ [])) ≤ 75
short_length n true = omega arith
short_length n false = omega arith

-- SIZE
pub size_is : (v : Word) (x : List ℕ) → Stands v x → Stands (size_of v) (minimal_bytes_of (length x))
size_is item x p = one_of 520 (length x) (λ n. is_length (number_of 4 (minimal_bytes_of n))) p size_test
size_is hashed x p = (ap minimal_bytes_of p ∙ of_twenty, omega arith)
size_is (known b) x p =
    let e : minimal_bytes_of (length b) ≡ length_bytes (length b) = (bytes_eq-Decides _ _).0 (one_of 75 (length b) (λ n. bytes_eq (minimal_bytes_of n) (length_bytes n)) p.1 short_test) in
    let f : length_bytes (length b) ≡ minimal_bytes_of (length x) = sym (ap (λ (z : List ℕ). minimal_bytes_of (length z)) p.0 ∙ e) in
    subst (λ (z : List ℕ). Stands (known (first_bytes (length_bytes (length b)))) z) f (known_is (length_bytes (length b)) (short_length (length b) (length b == 0)))
size_is sized x p = tt
size_is answer x p = tt

-- HASH160
pub hash_is : (v : Word) (x : List ℕ) → Stands v x → Stands (hash_of v) (hash160 x)
hash_is item x p = length-ripemd160 _
hash_is (known b) x p =
    let l : length (hash160 b) ≡ 20 = length-ripemd160 _ in
    subst (λ (z : List ℕ). Stands (known (first_bytes (hash160 b))) z) (ap hash160 (sym p.0)) (known_is (hash160 b) (omega (arith, l)))
hash_is hashed x p = tt
hash_is sized x p = tt
hash_is answer x p = tt
