-- The slots of a witness.
use Rattle.std.proofs.Common.{◌≡◌, ℕ, zero, suc, ◌<◌, true, List, [], ◌∷◌, ◌++◌, length, reverse, sym, refl, subst, inl, inr, ⊎_elim, arith}
use Rattle.std.specs.Prelude.{◌⊎◌}
use Rattle.std.specs.List.{Contains, Any}
use Rattle.std.specs.Str.{bytes_eq}
use Rattle.std.proofs.lemmas.Slice.Eq.{bytes_eq-Decides}
use Rattle.std.proofs.lemmas.List.Elements.{Contains-append_left, Contains-append_right, Contains-append_cases, Contains-get_or}
use Rattle.std.proofs.lemmas.List.{length-reverse}
use Rattle.std.proofs.lemmas.Grind.{reverse_onto}
use Rattle.script.specs.Token.{token_of}
use Rattle.script.specs.declared.spending.Spend.{Spend}
use Rattle.facts.specs.Meaning.{slot_of}
use Rattle.safety.specs.Satisfying.{HasToken}

-- what holds of an element of a list, holds of its first, or of one of the others
pub any_first : {X : Type 0} (P : X → Type 0) (x : X) (xs : List X) → Any P (x ∷ xs) → P x ⊎ Any P xs
any_first P x xs (zero, y, l, e, p) = inl (subst P (sym e) p)
any_first P x xs (suc k, y, l, e, p) = inr (k, y, omega (arith, l), e, p)

pub any_none : {X : Type 0} (P : X → Type 0) → Any P [] → ⊥
any_none P (k, y, l, e, p) = omega (arith, l)

pub contains_first : {X : Type 0} (x : X) (xs : List X) → Contains (x ∷ xs) x
contains_first x xs = (0, omega arith, refl)

pub contains_cases : {X : Type 0} (y : X) (xs : List X) (x : X) → Contains (y ∷ xs) x → (y ≡ x) ⊎ Contains xs x
contains_cases y xs x (zero, l, e) = inl e
contains_cases y xs x (suc k, l, e) = inr (k, omega (arith, l), e)

pub contains_later : {X : Type 0} (y : X) (xs : List X) (x : X) → Contains xs x → Contains (y ∷ xs) x
contains_later y xs x c = Contains-append_right (y ∷ []) xs x c

pub contains_reverse : {X : Type 0} (xs : List X) (x : X) → Contains (reverse xs) x → Contains xs x
contains_reverse [] x c = c
contains_reverse {X} (y ∷ ys) x c =
    let d : Contains (reverse ys ++ y ∷ []) x = subst (λ zs. Contains zs x) (reverse_onto ys y []) c in
    ⊎_elim (λ (e : Contains (reverse ys) x). contains_later y ys x (contains_reverse ys x e)) (λ (e : Contains (y ∷ []) x). Contains-append_left (y ∷ []) ys x e)
    (Contains-append_cases (reverse ys) (y ∷ []) x d)

-- a slot is an item
pub slot_contained : (witness : List (List ℕ)) (i : ℕ) → i < length witness → Contains witness (slot_of (reverse witness) i)
slot_contained witness i l =
    let n : i < length (reverse witness) = omega (arith, l, length-reverse witness) in
    contains_reverse witness (slot_of (reverse witness) i) (Contains-get_or (reverse witness) i [] n)

pub same_bytes : (a b : List ℕ) → bytes_eq a b ≡ true → a ≡ b
same_bytes a b e = (bytes_eq-Decides a b).0 e

-- a slot that is a key's token
pub slot_token : (spend : Spend) (witness : List (List ℕ)) (i : ℕ) (key : List ℕ) → i < length witness → bytes_eq (slot_of (reverse witness) i) (token_of key spend.digest) ≡ true → HasToken spend witness key
slot_token spend witness i key l e =
    subst (λ item. Contains witness item) (same_bytes (slot_of (reverse witness) i) (token_of key spend.digest) e) (slot_contained witness i l)
