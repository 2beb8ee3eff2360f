-- Comparing an item with a token.
use Rattle.std.proofs.Common.{◌≡◌, ◌≢◌, ℕ, Bool, true, false, ◌&&◌, eqb, List, [], ◌∷◌, ◌++◌, length, get_or, sym, ap, ◌∙◌, refl, arith}
use Rattle.std.specs.Str.{bytes_eq}
use Rattle.std.proofs.lemmas.Slice.Eq.{bytes_eq-Decides}
use Rattle.std.proofs.lemmas.Bool.{false_from_ne_true, eq-eqb, ne_eqb}
use Rattle.script.specs.Token.{token_of}

bytes_eq-front : (p a b : List ℕ) → bytes_eq (p ++ a) (p ++ b) ≡ bytes_eq a b
bytes_eq-front [] a b = refl
bytes_eq-front (x ∷ p) a b = ap (λ t. t && bytes_eq (p ++ a) (p ++ b)) (eq-eqb x x refl) ∙ bytes_eq-front p a b

pub no_key : (item key digest : List ℕ) → ((rest : List ℕ) → item ≢ key ++ rest) → false ≡ bytes_eq item (token_of key digest)
unfolding token_of
no_key item key digest h = sym (false_from_ne_true _ (λ e. h (digest ++ 1 ∷ []) ((bytes_eq-Decides item (key ++ (digest ++ 1 ∷ []))).0 e)))

pub behind_key : (item key digest rest : List ℕ) → item ≡ key ++ rest → bytes_eq item (token_of key digest) ≡ bytes_eq rest (digest ++ 1 ∷ [])
unfolding token_of
behind_key item key digest rest e = ap (λ i. bytes_eq i (key ++ (digest ++ 1 ∷ []))) e ∙ bytes_eq-front key rest (digest ++ 1 ∷ [])

pub no_digest : (item key digest rest : List ℕ) → item ≡ key ++ rest → ((end : List ℕ) → rest ≢ digest ++ end) → false ≡ bytes_eq item (token_of key digest)
no_digest item key digest rest e h =
    sym (behind_key item key digest rest e ∙ false_from_ne_true _ (λ t. h (1 ∷ []) ((bytes_eq-Decides rest (digest ++ 1 ∷ [])).0 t)))

pub at_end : (item key digest rest end : List ℕ) → item ≡ key ++ rest → rest ≡ digest ++ end → bytes_eq item (token_of key digest) ≡ bytes_eq end (1 ∷ [])
at_end item key digest rest end e f = behind_key item key digest rest e ∙ ap (λ r. bytes_eq r (digest ++ 1 ∷ [])) f ∙ bytes_eq-front digest end (1 ∷ [])

and_true : (b : Bool) → (b && true) ≡ b
and_true true = refl
and_true false = refl

and_false : (b : Bool) → (b && false) ≡ false
and_false true = refl
and_false false = refl

pub one_byte : (end : List ℕ) → length end ≡ 1 → eqb (get_or end 0 0) 1 ≡ bytes_eq end (1 ∷ [])
one_byte [] l = absurd (omega arith)
one_byte (x ∷ []) l = sym (and_true (eqb x 1))
one_byte (x ∷ y ∷ xs) l = absurd (omega arith)

pub no_byte : (end : List ℕ) → length end ≢ 1 → eqb (length end) 1 ≡ bytes_eq end (1 ∷ [])
no_byte [] l = refl
no_byte (x ∷ []) l = absurd (l refl)
no_byte (x ∷ y ∷ xs) l = ne_eqb _ 1 (λ e. omega arith) ∙ sym (and_false (eqb x 1))
