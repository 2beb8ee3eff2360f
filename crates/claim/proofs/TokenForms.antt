-- What the token of a key looks like.
use Rattle.std.proofs.Common.{◌≡◌, ℕ, ◌+◌, ◌<◌, true, false, not, eqb, List, [], ◌∷◌, ◌++◌, length, take, get_or, sym, ap, ◌∙◌, refl, arith, length-append}
use Rattle.std.specs.Str.{bytes_eq}
use Rattle.std.proofs.Math.Seq.{take-append_seam, get_or-append_seam}
use Rattle.std.proofs.Math.ListN.{get_or-append}
use Rattle.std.proofs.lemmas.List.{get_or-append-add, append_cancel_right}
use Rattle.std.proofs.lemmas.Slice.Eq.{bytes_eq-Decides}
use Rattle.std.proofs.lemmas.Bool.{eq-eqb, eqb-true, ne_eqb, and_parts, and_from, false_from_ne_true}
use Rattle.std.proofs.lemmas.Bool.Decides.{same_from_decides, nat_tests}
use Rattle.script.specs.Token.{token_of, is_key, is_key_start, is_token, is_signature}
use Rattle.script.specs.Step.{truth}
use Rattle.claim.specs.Evidence.{is_token_with}

pub token-length : (k d : List ℕ) → length d ≡ 32 → length (token_of k d) ≡ length k + 33
unfolding token_of
token-length k d e = simp length-append (omega arith)

-- the last byte of a token
token-last : (k d : List ℕ) → length d ≡ 32 → get_or (token_of k d) (length k + 32) 0 ≡ 1
unfolding token_of
token-last k d e = get_or-append-add k (d ++ 1 ∷ []) 32 0 ∙ ap (λ n. get_or (d ++ 1 ∷ []) n 0) (sym e) ∙ get_or-append_seam d 1 [] 0

token-front : (k d : List ℕ) → take (length k) (token_of k d) ≡ k
unfolding token_of
token-front k d = take-append_seam k (d ++ 1 ∷ [])

token-first : (k d : List ℕ) → 0 < length k → get_or (token_of k d) 0 0 ≡ get_or k 0 0
unfolding token_of
token-first k d h = get_or-append k (d ++ 1 ∷ []) 0 0 h

-- a token is its key, 32 bytes and 01
pub token_with : (k d : List ℕ) → length d ≡ 32 → is_token_with k (token_of k d) ≡ true
token_with k d e = and_from _ _ (and_from _ _ (eq-eqb _ _ (token-length k d e)) ((bytes_eq-Decides _ _).1 (token-front k d))) (eq-eqb _ _ (token-last k d e))

-- two keys have the same token exactly where the keys are the same
pub token-injective : (k j d : List ℕ) → bytes_eq (token_of k d) (token_of j d) ≡ bytes_eq k j
unfolding token_of
token-injective k j d = same_from_decides (bytes_eq (token_of k d) (token_of j d)) (bytes_eq k j)
    ((λ e. append_cancel_right k j (d ++ 1 ∷ []) ((bytes_eq-Decides _ _).0 e)), (λ e. (bytes_eq-Decides _ _).1 (ap (λ x. token_of x d) e)))
    (bytes_eq-Decides k j)

pub key-length : (k : List ℕ) → is_key k ≡ true → length k ≡ 33
unfolding is_key
key-length k e = eqb-true (length k) 33 (and_parts _ _ e).0

key-start : (k : List ℕ) → is_key k ≡ true → is_key_start (get_or k 0 0) ≡ true
unfolding is_key
key-start k e = (and_parts (eqb (length k) 33) _ e).1

pub token-signature : (k d : List ℕ) → is_key k ≡ true → length d ≡ 32 → is_signature (token_of k d) ≡ true
unfolding is_signature is_token
token-signature k d h e =
    let l = key-length k h in
    let n = token-length k d e in
    let first = token-first k d (omega arith) in
    let last : get_or (token_of k d) 65 0 ≡ 1 = ap (λ n. get_or (token_of k d) n 0) (omega arith) ∙ token-last k d e in
    rw (ne_eqb (length (token_of k d)) 0 (λ z. omega arith), eq-eqb (length (token_of k d)) 66 (omega arith), first, key-start k h, last) refl

pub token-no_key : (k d : List ℕ) → is_key k ≡ true → length d ≡ 32 → is_key (token_of k d) ≡ false
unfolding is_key
token-no_key k d h e = let l = key-length k h in let n = token-length k d e in rw (ne_eqb (length (token_of k d)) 33 (λ z. omega arith)) refl

start-true : (b : ℕ) → is_key_start b ≡ true → not (eqb b 0) ≡ true
start-true b e = ap not (ne_eqb b 0 (λ z. grind (arith, nat_tests)))

pub token-true : (k d : List ℕ) → is_key k ≡ true → truth (token_of k d) ≡ true
unfolding token_of
token-true [] d h = absurd (let l = key-length [] h in omega arith)
token-true (b ∷ []) d h = absurd (let l = key-length (b ∷ []) h in omega arith)
token-true (b ∷ c ∷ k) d h = rw (start-true b (key-start (b ∷ c ∷ k) h)) refl

-- bytes that are no token of a key are not its token over this digest
pub token-apart : (k d c : List ℕ) → length d ≡ 32 → is_token_with k c ≡ false → bytes_eq (token_of k d) c ≡ false
token-apart k d c e h = false_from_ne_true _ (λ t. let same = (bytes_eq-Decides (token_of k d) c).0 t in let yes = ap (is_token_with k) same in cc (token_with k d e))
