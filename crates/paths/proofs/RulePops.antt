-- What is left of a state by pops.
use Rattle.std.proofs.Common.{◌≡◌, ℕ, suc, zero, List, [], ◌∷◌, ◌∙◌, refl}
use Rattle.paths.specs.Holes.{Sym}
use Rattle.paths.specs.Holes.{State}
use Rattle.paths.specs.HoleRules.{pop_of, pop, pops}

pub pop_keys : (stack : List Sym) (s : State) → (pop_of stack s).1.keys ≡ s.keys
pop_keys [] s = refl
pop_keys (x ∷ xs) s = refl

pub pops_keys : (n : ℕ) (s : State) → (pops n s).1.keys ≡ s.keys
pops_keys zero s = refl
pops_keys (suc n) s = pops_keys n (pop s).1 ∙ pop_keys s.stack s
