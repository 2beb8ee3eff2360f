-- Two lists whose elements match pairwise.
use Rattle.std.proofs.Common.{◌≡◌, ℕ, ◌+◌, ◌<◌, ◌≤◌, ◌==◌, ◌&&◌, Bool, true, false, List, [], ◌∷◌, length, map, drop, get_or, refl, sym, ap, ◌∙◌, arith, ne_eqb}
use Rattle.std.proofs.lemmas.List.{drop_all}
use Rattle.filling.proofs.Lists.{split}
use Rattle.claim.specs.Claims.{ClaimParts}
use Rattle.penalty.specs.Claimable.{Claimable}
use Rattle.penalty.specs.Sets.{claimed_by, AreClaimsOn}
use Rattle.book.specs.Penalties.{all_match, is_claim_on, are_claims_on}

-- elements match if their images do
pub mapped : {A B C D : Type 0} (f : C → D → Bool) (p : A → C) (q : B → D) (xs : List A) (ys : List B) → all_match f (map p xs) (map q ys) ≡ all_match (λ x y. f (p x) (q y)) xs ys
mapped f p q [] [] = refl
mapped f p q [] (y ∷ ys) = refl
mapped f p q (x ∷ xs) [] = refl
mapped f p q (x ∷ xs) (y ∷ ys) = ap (λ t. f (p x) (q y) && t) (mapped f p q xs ys)

pub mapped_first : {A B C : Type 0} (f : C → B → Bool) (p : A → C) (xs : List A) (ys : List B) → all_match f (map p xs) ys ≡ all_match (λ x y. f (p x) y) xs ys
mapped_first f p [] [] = refl
mapped_first f p [] (y ∷ ys) = refl
mapped_first f p (x ∷ xs) [] = refl
mapped_first f p (x ∷ xs) (y ∷ ys) = ap (λ t. f (p x) y && t) (mapped_first f p xs ys)

-- what is left of both lists matches exactly if the whole lists do
abbrev pub Left : {A B : Type 0} → (A → B → Bool) → List A → List B → ℕ → List B → Type 0
Left f xs ys i others = all_match f (drop i xs) others ≡ all_match f xs ys

pub nothing_in : {B : Type 0} (others : List B) → length others ≡ 0 → others ≡ []
nothing_in [] e = refl
nothing_in (y ∷ others) e = absurd (omega (arith, e))

pub missed : {A B : Type 0} (f : A → B → Bool) (xs : List A) (ys : List B) (i : ℕ) (d x : A) (others : List B) → i < length xs → x ≡ get_or xs i d → length others ≡ 0
    → Left f xs ys i others → false ≡ all_match f xs ys
missed f xs ys i d x others lt is nothing so_far =
    let at : all_match f (drop i xs) others ≡ false = rw (split xs i d x lt is, nothing_in others nothing) refl in sym at ∙ so_far

pub differs : {A B : Type 0} (f : A → B → Bool) (xs : List A) (ys : List B) (i : ℕ) (d x : A) (others : List B) (y : B) (rest : List B) → i < length xs → x ≡ get_or xs i d → others ≡ y ∷ rest
    → f x y ≡ false → Left f xs ys i others → false ≡ all_match f xs ys
differs f xs ys i d x others y rest lt is both unlike so_far =
    let at : all_match f (drop i xs) others ≡ false = rw (split xs i d x lt is, both, unlike) refl in sym at ∙ so_far

pub goes_on : {A B : Type 0} (f : A → B → Bool) (xs : List A) (ys : List B) (i : ℕ) (d x : A) (others : List B) (y : B) (rest : List B) → i < length xs → x ≡ get_or xs i d → others ≡ y ∷ rest
    → f x y ≡ true → Left f xs ys i others → Left f xs ys (i + 1) rest
goes_on f xs ys i d x others y rest lt is both alike so_far =
    let at : all_match f (drop i xs) others ≡ all_match f (drop (i + 1) xs) rest = rw (split xs i d x lt is, both, alike) refl in sym at ∙ so_far

none_left : {A B : Type 0} (f : A → B → Bool) (others : List B) → (length others == 0) ≡ all_match f [] others
none_left f [] = refl
none_left f (y ∷ others) = ne_eqb (length (y ∷ others)) 0 (λ e. omega (arith, e))

pub ends : {A B : Type 0} (f : A → B → Bool) (xs : List A) (ys : List B) (i : ℕ) (others : List B) → length xs ≤ i → Left f xs ys i others → (length others == 0) ≡ all_match f xs ys
ends f xs ys i others le so_far = none_left f others ∙ ap (λ zs. all_match f zs others) (sym (drop_all i xs le)) ∙ so_far

-- the outputs of a penalty set are those that its claims claim
pub outputs_of : (os : List Claimable) (claims : List ClaimParts) → AreClaimsOn os claims → map claimed_by claims ≡ os
outputs_of [] [] h = refl
outputs_of [] (c ∷ cs) h = absurd h
outputs_of (o ∷ os) [] h = absurd h
outputs_of (o ∷ os) (c ∷ cs) h = ap (λ z. z ∷ map claimed_by cs) h.0.exact ∙ ap (λ zs. o ∷ zs) (outputs_of os cs h.1)

-- claims that match those of a set are on the set's outputs
pub of_set : (os : List Claimable) (kept claims : List ClaimParts) → AreClaimsOn os kept → all_match (λ k c. is_claim_on (claimed_by k) c) kept claims ≡ are_claims_on os claims
unfolding are_claims_on
of_set os kept claims h = sym (mapped_first is_claim_on claimed_by kept claims) ∙ ap (λ zs. all_match is_claim_on zs claims) (outputs_of os kept h)
