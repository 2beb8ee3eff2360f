-- The test for an increasing choice of keys is the relation.
use Rattle.std.proofs.Common.{◌≡◌, ℕ, Bool, true, ◌&&◌, ◌||◌, List, [], ◌∷◌, ap, refl, ⊎_elim, true≢false, sym}
use Rattle.std.specs.Str.{bytes_eq}
use Rattle.std.proofs.lemmas.Slice.Eq.{bytes_eq-Decides}
use Rattle.std.proofs.lemmas.Bool.{or_cases, and_parts, and_from, or_right}
use Rattle.script.specs.Token.{token_of, assigned, Assigned, done, chosen, passed}
use Rattle.script.specs.Clean.{AssignedIsExact}

choice_of : (digest : List ℕ) (sigs keys : List (List ℕ)) → assigned sigs keys digest ≡ true → Assigned digest sigs keys
choice_of digest [] keys e = done
choice_of digest (s ∷ sigs) [] e = absurd (true≢false (sym e))
choice_of digest (s ∷ sigs) (k ∷ keys) e =
    ⊎_elim
    (λ h. let p = and_parts (bytes_eq s (token_of k digest)) (assigned sigs keys digest) h in chosen ((bytes_eq-Decides s (token_of k digest)).0 p.0) (choice_of digest sigs keys p.1))
    (λ h. passed (choice_of digest (s ∷ sigs) keys h))
    (or_cases (bytes_eq s (token_of k digest) && assigned sigs keys digest) (assigned (s ∷ sigs) keys digest) e)

passes_over : (digest : List ℕ) (sigs : List (List ℕ)) (k : List ℕ) (keys : List (List ℕ)) → assigned sigs keys digest ≡ true → assigned sigs (k ∷ keys) digest ≡ true
passes_over digest [] k keys e = refl
passes_over digest (s ∷ sigs) k keys e = or_right (bytes_eq s (token_of k digest) && assigned sigs keys digest) (assigned (s ∷ sigs) keys digest) e

or_left : (a b : Bool) → a ≡ true → (a || b) ≡ true
or_left a b e = ap (λ t. t || b) e

of_choice : (digest : List ℕ) (sigs keys : List (List ℕ)) → Assigned digest sigs keys → assigned sigs keys digest ≡ true
of_choice digest sigs keys done = refl
of_choice digest sigs keys (chosen {k = k} {s = s} {sigs = more} {keys = others} e c) =
    or_left (bytes_eq s (token_of k digest) && assigned more others digest) (assigned (s ∷ more) others digest)
    (and_from (bytes_eq s (token_of k digest)) (assigned more others digest) ((bytes_eq-Decides s (token_of k digest)).1 e) (of_choice digest more others c))
of_choice digest sigs keys (passed {k = k} {keys = others} c) = passes_over digest sigs k others (of_choice digest sigs others c)

pub assigned_is_exact : AssignedIsExact
assigned_is_exact digest sigs keys = (choice_of digest sigs keys, of_choice digest sigs keys)
