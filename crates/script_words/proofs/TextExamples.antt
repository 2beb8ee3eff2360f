-- The text of a listing, with unlike numbers in each place. Decimal digits are defined by std.
use Rattle.std.proofs.Common.{◌≡◌, ℕ, true, false, [], ◌∷◌, ◌++◌, Some, None, refl}
use Rattle.std.specs.Prelude.{Option, codes, decimal}
use Rattle.facts.specs.declared.symbols.FactOver.TheVariants.{Truth, Age}
use Rattle.paths.specs.declared.state.Path.{Path}
use Rattle.script_words.specs.Texts.{sizes_text, locks_text, path_text, listing_text}

abbrev path : ℕ → ℕ → ℕ → Option ℕ → Option ℕ → Path
path arity counted height lock age = record { arity = arity; facts = []; ops = counted; height = height; lock = lock; age = age }

sizes : (k a c h : ℕ) → sizes_text k (path a c h None None) ≡ codes "path " ++ (decimal k ++ (codes " arity " ++ (decimal a ++ (codes " counted " ++ (decimal c ++ (codes " height " ++ decimal h))))))
sizes k a c h = refl

-- `-` for no lock and for no age; 10 ends the line
locks : (n m : ℕ) → (locks_text (path 2 6 3 None None) ≡ codes " lock - age -" ++ 10 ∷ [])
    × (locks_text (path 2 6 3 (Some n) None) ≡ codes " lock " ++ (decimal n ++ (codes " age -" ++ 10 ∷ [])))
    × (locks_text (path 2 6 3 None (Some m)) ≡ codes " lock - age " ++ (decimal m ++ 10 ∷ []))
    × (locks_text (path 2 6 3 (Some n) (Some m)) ≡ codes " lock " ++ (decimal n ++ (codes " age " ++ (decimal m ++ 10 ∷ []))))
locks n m = (refl, refl, refl, refl)

-- each fact has a line of its own, which two spaces begin
abbrev with_facts : Path
with_facts = record (path 2 6 3 None (Some 144)) { facts = record { fact = Truth 7; holds = false } ∷ record { fact = Age 144; holds = true } ∷ [] }

facts : path_text 5 with_facts ≡ sizes_text 5 with_facts ++ (locks_text with_facts ++ ((codes "  truth " ++ ((decimal 7 ++ codes " no") ++ 10 ∷ [])) ++ ((codes "  age " ++ (decimal 144 ++ 10 ∷ [])) ++ [])))
facts = refl

-- the number of paths, and the paths from 0 on
listing : (p q : Path) → (listing_text [] ≡ codes "paths " ++ (decimal 0 ++ 10 ∷ [])) × (listing_text (p ∷ q ∷ []) ≡ codes "paths " ++ (decimal 2 ++ (10 ∷ (path_text 0 p ++ (path_text 1 q ++ [])))))
listing p q = (refl, refl)
