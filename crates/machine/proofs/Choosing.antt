-- A choice of keys, when no key is left.
use Rattle.std.proofs.Common.{◌≡◌, ℕ, List, [], ◌∷◌, length, eqb, refl, arith}
use Rattle.std.proofs.lemmas.Bool.{ne_eqb}
use Rattle.script.proofs.Choice.{greedy}

pub all_chosen : (sigs keys : List (List ℕ)) (digest : List ℕ) → keys ≡ [] → eqb (length sigs) 0 ≡ greedy sigs keys digest
all_chosen [] [] digest e = refl
all_chosen (s ∷ sigs) [] digest e = ne_eqb (length (s ∷ sigs)) 0 (λ z. omega arith)
all_chosen sigs (k ∷ keys) digest e = absurd (cc)
