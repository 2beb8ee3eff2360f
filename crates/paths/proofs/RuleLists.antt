-- Rules on lists of symbols, and pops, one symbol further.
use Rattle.std.proofs.Common.{◌≡◌, ℕ, suc, zero, ◌+◌, Bool, List, [], ◌∷◌, ◌++◌, reverse, Result, Ok, Err, sym, ap, ◌∙◌, refl, add-one}
use Rattle.std.specs.List.{list_any}
use Rattle.std.proofs.lemmas.List.{reverse-append}
use Rattle.std.proofs.lemmas.List.Sorted.{list_any-IsPermutation, IsPermutation-reverse}
use Rattle.paths.specs.Holes.{Sym}
use Rattle.paths.specs.Holes.{State}
use Rattle.paths.specs.declared.state.Halt.{Halt}
use Rattle.paths.specs.HoleRules.{pop, pops}

-- these come first
abbrev pub after : {A : Type 0} → List A → Result (List A) Halt → Result (List A) Halt
after xs (Ok ys) = Ok (xs ++ ys)
after xs (Err h) = Err h

pub any_reversed : {A : Type 0} (p : A → Bool) (xs : List A) → list_any p (reverse xs) ≡ list_any p xs
any_reversed p xs = sym (list_any-IsPermutation p xs (reverse xs) (IsPermutation-reverse xs))

pub pops_more : (n : ℕ) (s : State) → pops (suc n) s ≡ ((pops n s).0 ++ (pop (pops n s).1).0 ∷ [], (pop (pops n s).1).1)
pops_more zero s = refl
pops_more (suc n) s = ap (λ (p : List Sym × State). ((pop s).0 ∷ p.0, p.1)) (pops_more n (pop s).1)

-- one symbol more, the deepest first
pub pops_taken : (n : ℕ) (s : State) → reverse (pops (n + 1) s).0 ≡ (pop (pops n s).1).0 ∷ reverse (pops n s).0
pops_taken n s = ap (λ k. reverse (pops k s).0) (add-one n) ∙ ap (λ (p : List Sym × State). reverse p.0) (pops_more n s) ∙ reverse-append (pops n s).0 ((pop (pops n s).1).0 ∷ [])

pub pops_left : (n : ℕ) (s : State) → (pops (n + 1) s).1 ≡ (pop (pops n s).1).1
pops_left n s = ap (λ k. (pops k s).1) (add-one n) ∙ ap (λ (p : List Sym × State). p.1) (pops_more n s)

-- one symbol more was pulled onto the pile
pub pile_taken : (n : ℕ) (s s' : State) (x : Sym) (syms grown : List Sym) → grown ≡ x ∷ syms → syms ≡ reverse (pops n s).0 → s' ≡ (pops n s).1 → x ≡ (pop s').0 → grown ≡ reverse (pops (n + 1) s).0
pile_taken n s s' x syms grown eg es el ex = eg ∙ ap (λ y. y ∷ syms) (ex ∙ ap (λ t. (pop t).0) el) ∙ ap (λ ys. (pop (pops n s).1).0 ∷ ys) es ∙ sym (pops_taken n s)

pub pile_left : (n : ℕ) (s s' s'' : State) → s' ≡ (pops n s).1 → s'' ≡ (pop s').1 → s'' ≡ (pops (n + 1) s).1
pile_left n s s' s'' el ex = ex ∙ ap (λ t. (pop t).1) el ∙ sym (pops_left n s)
