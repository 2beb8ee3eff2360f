-- The words `node N`.
use Rattle.std.specs.Prelude.{ℕ, ◌+◌, if◌then◌else◌, List, [], ◌∷◌, Option, None, option_map, bytes_eq}
use Rattle.std.specs.List.{position_from}

-- the decimal numbers from 1 to 16 (ASCII), in order
abbrev pub spellings : List (List ℕ)
spellings = (49 ∷ []) ∷ (50 ∷ []) ∷ (51 ∷ []) ∷ (52 ∷ []) ∷ (53 ∷ []) ∷ (54 ∷ []) ∷ (55 ∷ []) ∷ (56 ∷ []) ∷ (57 ∷ [])
    ∷ (49 ∷ 48 ∷ []) ∷ (49 ∷ 49 ∷ []) ∷ (49 ∷ 50 ∷ []) ∷ (49 ∷ 51 ∷ []) ∷ (49 ∷ 52 ∷ []) ∷ (49 ∷ 53 ∷ []) ∷ (49 ∷ 54 ∷ []) ∷ []

-- the place of a text among them
abbrev pub place_of : List ℕ → Option ℕ
place_of text = position_from (λ s. bytes_eq s text) 0 spellings

-- the number from 1 to 16 that a text spells
abbrev pub count_of : List ℕ → Option ℕ
count_of text = option_map (λ i. i + 1) (place_of text)

-- the number of workers, where the words are the name `node` and such a number
abbrev pub workers_of : List (List ℕ) → Option ℕ
workers_of (name ∷ count ∷ []) = if bytes_eq name (110 ∷ 111 ∷ 100 ∷ 101 ∷ []) then count_of count else None
workers_of words = None
