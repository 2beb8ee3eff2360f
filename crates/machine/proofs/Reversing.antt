-- Lists and their reverses.
use Rattle.std.proofs.Common.{◌≡◌, ℕ, ◌+◌, ◌<◌, ◌≤◌, Bool, true, false, ◌&&◌, List, [], ◌∷◌, ◌++◌, length, take, drop, get_or, reverse, sym, ap, ◌∙◌, refl, arith, length-drop, drop-cons, add-one}
use Rattle.std.specs.List.{list_all}
use Rattle.std.proofs.lemmas.List.{take_more, reverse-append}
use Rattle.std.proofs.lemmas.Grind.{reverse_onto}
use Rattle.std.proofs.lemmas.List.Folds.{list_all-append}

and_swap : (a b : Bool) → (a && (b && true)) ≡ (b && a)
and_swap true true = refl
and_swap true false = refl
and_swap false true = refl
and_swap false false = refl

pub all_reversed : {X : Type 0} (p : X → Bool) (xs : List X) → list_all p (reverse xs) ≡ list_all p xs
all_reversed p [] = refl
all_reversed p (x ∷ xs) =
    ap (list_all p) (reverse_onto xs x [])
    ∙ list_all-append p (reverse xs) (x ∷ [])
    ∙ ap (λ t. t && (p x && true)) (all_reversed p xs)
    ∙ and_swap (list_all p xs) (p x)

-- one more of the first elements of a list
pub one_more : {X : Type 0} (s : List X) (i : ℕ) (x : X) (new : List X) → drop i s ≡ x ∷ new → (i + 1 ≤ length s) × (x ∷ reverse (take i s) ≡ reverse (take (i + 1) s)) × (new ≡ drop (i + 1) s)
one_more s i x new e =
    let l : length (drop i s) ≡ length (x ∷ new) = ap length e in
    let below : i < length s = grind (arith, length-drop) in
    let d : x ∷ new ≡ get_or s i x ∷ drop (i + 1) s = sym e ∙ rw (add-one, drop-cons s i x) refl in
    let h : x ≡ get_or s i x = cc in
    let t : take (i + 1) s ≡ take i s ++ (x ∷ []) = take_more s i x below ∙ ap (λ y. take i s ++ (y ∷ [])) (sym h) in
    (omega arith, sym (ap reverse t ∙ reverse-append (take i s) (x ∷ [])), cc)
