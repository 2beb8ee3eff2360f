-- Programs and scripts of key hashes, byte by byte.
use Rattle.std.proofs.Common.{◌≡◌, ◌≢◌, ℕ, ◌<◌, ◌≤◌, Bool, true, false, ◌&&◌, eqb, List, [], ◌∷◌, ◌++◌, length, take, drop, get_or, sym, ap, ◌∙◌, refl, arith}
use Rattle.std.specs.Str.{bytes_eq}
use Rattle.std.proofs.lemmas.Slice.Eq.{bytes_eq-Decides}
use Rattle.std.proofs.lemmas.Bool.{false_from_ne_true, eq-eqb}

pub program_by : (a b : ℕ) (program h : List ℕ) → 2 ≤ length program → bytes_eq program (a ∷ b ∷ h) ≡ (eqb (get_or program 0 0) a && (eqb (get_or program 1 0) b && bytes_eq (drop 2 program) h))
program_by a b [] h l = absurd (omega arith)
program_by a b (x ∷ []) h l = absurd (omega arith)
program_by a b (x ∷ y ∷ rest) h l = refl

apart : (p q : List ℕ) → (p ≡ q → ⊥) → false ≡ bytes_eq p q
apart p q n = sym (false_from_ne_true (bytes_eq p q) (λ t. n ((bytes_eq-Decides p q).0 t)))

pub program_short : (a b : ℕ) (program h : List ℕ) → length program < 2 → bytes_eq program (a ∷ b ∷ h) ≡ false
program_short a b program h l = sym (apart program (a ∷ b ∷ h) (λ e. let n = ap length e in omega arith))

pub key_by : (a b c : ℕ) (script h : List ℕ) → 3 ≤ length script → bytes_eq script (a ∷ b ∷ c ∷ h) ≡ (eqb (get_or script 0 0) a && (eqb (get_or script 1 0) b && (eqb (get_or script 2 0) c && bytes_eq (drop 3 script) h)))
key_by a b c [] h l = absurd (omega arith)
key_by a b c (x ∷ []) h l = absurd (omega arith)
key_by a b c (x ∷ y ∷ []) h l = absurd (omega arith)
key_by a b c (x ∷ y ∷ z ∷ rest) h l = refl

pub key_short : (a b c : ℕ) (script h : List ℕ) → length script < 3 → bytes_eq script (a ∷ b ∷ c ∷ h) ≡ false
key_short a b c script h l = sym (apart script (a ∷ b ∷ c ∷ h) (λ e. let n = ap length e in omega arith))

and_true : (b : Bool) → (b && true) ≡ b
and_true true = refl
and_true false = refl

pub front_by : (a b : ℕ) (program : List ℕ) → 2 ≤ length program → bytes_eq (take 2 program) (a ∷ b ∷ []) ≡ (eqb (get_or program 0 0) a && eqb (get_or program 1 0) b)
front_by a b [] l = absurd (omega arith)
front_by a b (x ∷ []) l = absurd (omega arith)
front_by a b (x ∷ y ∷ rest) l = ap (λ t. eqb x a && t) (and_true (eqb y b))

bytes_eq-front : (p a b : List ℕ) → bytes_eq (p ++ a) (p ++ b) ≡ bytes_eq a b
bytes_eq-front [] a b = refl
bytes_eq-front (x ∷ p) a b = ap (λ t. t && bytes_eq (p ++ a) (p ++ b)) (eq-eqb x x refl) ∙ bytes_eq-front p a b

-- after a hash
pub behind_hash : (bytes hash end tail : List ℕ) → bytes ≡ hash ++ end → bytes_eq bytes (hash ++ tail) ≡ bytes_eq end tail
behind_hash bytes hash end tail e = ap (λ t. bytes_eq t (hash ++ tail)) e ∙ bytes_eq-front hash end tail

pub no_hash : (bytes hash tail : List ℕ) → ((rest : List ℕ) → bytes ≢ hash ++ rest) → false ≡ bytes_eq bytes (hash ++ tail)
no_hash bytes hash tail n = apart bytes (hash ++ tail) (λ e. n tail e)

pub two_bytes : (a b : ℕ) (end : List ℕ) → length end ≡ 2 → bytes_eq end (a ∷ b ∷ []) ≡ (eqb (get_or end 0 0) a && eqb (get_or end 1 0) b)
two_bytes a b [] l = absurd (omega arith)
two_bytes a b (x ∷ []) l = absurd (omega arith)
two_bytes a b (x ∷ y ∷ []) l = ap (λ t. eqb x a && t) (and_true (eqb y b))
two_bytes a b (x ∷ y ∷ z ∷ end) l = absurd (omega arith)

pub other_length : (a b : ℕ) (end : List ℕ) → length end ≢ 2 → bytes_eq end (a ∷ b ∷ []) ≡ false
other_length a b end n = sym (apart end (a ∷ b ∷ []) (λ e. n (ap length e)))
