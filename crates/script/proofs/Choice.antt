-- The greedy choice of keys is a choice wherever there is one.
use Rattle.std.proofs.Common.{◌≡◌, ℕ, Bool, true, false, ◌&&◌, ◌||◌, List, [], ◌∷◌, sym, ap, ◌∙◌, refl, ⊎_elim}
use Rattle.std.specs.Prelude.{if◌then◌else◌}
use Rattle.std.specs.Str.{bytes_eq}
use Rattle.std.proofs.lemmas.Bool.{or_cases, and_parts, or_right, false≢true}
use Rattle.script.specs.Token.{token_of, assigned}

-- each key in turn: taken for the first signature that is left, where it fits
abbrev pub greedy : List (List ℕ) → List (List ℕ) → List ℕ → Bool
greedy [] keys digest = true
greedy (s ∷ sigs) [] digest = false
greedy (s ∷ sigs) (k ∷ keys) digest = if bytes_eq s (token_of k digest) then greedy sigs keys digest else greedy (s ∷ sigs) keys digest

-- one more key does no harm
more : (sigs : List (List ℕ)) (k : List ℕ) (keys : List (List ℕ)) (digest : List ℕ) → assigned sigs keys digest ≡ true → assigned sigs (k ∷ keys) digest ≡ true
more [] k keys digest e = refl
more (s ∷ sigs) k keys digest e = or_right (bytes_eq s (token_of k digest) && assigned sigs keys digest) (assigned (s ∷ sigs) keys digest) e

-- one signature fewer does no harm
fewer : (s : List ℕ) (sigs keys : List (List ℕ)) (digest : List ℕ) → assigned (s ∷ sigs) keys digest ≡ true → assigned sigs keys digest ≡ true
fewer s sigs [] digest e = absurd (false≢true e)
fewer s sigs (k ∷ keys) digest e =
    ⊎_elim
    (λ h. more sigs k keys digest (and_parts (bytes_eq s (token_of k digest)) (assigned sigs keys digest) h).1)
    (λ h. more sigs k keys digest (fewer s sigs keys digest h))
    (or_cases (bytes_eq s (token_of k digest) && assigned sigs keys digest) (assigned (s ∷ sigs) keys digest) e)

or_false : (a : Bool) → (a || false) ≡ a
or_false true = refl
or_false false = refl

taken : (b a c : Bool) → (b ≡ true → c ≡ true → a ≡ true) → ((b && a) || c) ≡ (if b then a else c)
taken true a true h = or_right a true refl ∙ sym (h refl refl)
taken true a false h = or_false a
taken false a c h = refl

pub greedy-assigned : (sigs keys : List (List ℕ)) (digest : List ℕ) → greedy sigs keys digest ≡ assigned sigs keys digest
greedy-assigned [] keys digest = refl
greedy-assigned (s ∷ sigs) [] digest = refl
greedy-assigned (s ∷ sigs) (k ∷ keys) digest = sym (
    taken (bytes_eq s (token_of k digest)) (assigned sigs keys digest) (assigned (s ∷ sigs) keys digest) (λ b c. fewer s sigs keys digest c)
    ∙ ap (λ t. if bytes_eq s (token_of k digest) then t else assigned (s ∷ sigs) keys digest) (sym (greedy-assigned sigs keys digest))
    ∙ ap (λ t. if bytes_eq s (token_of k digest) then greedy sigs keys digest else t) (sym (greedy-assigned (s ∷ sigs) keys digest)))
