-- The text that `paths` prints of a listing, as lists of ASCII codes.
use Rattle.std.specs.Prelude.{ℕ, suc, Option, Some, None, List, [], ◌∷◌, ◌++◌, length, codes, decimal}
use Rattle.std.specs.List.{flat_map}
use Rattle.facts.specs.Symbols.{Stated}
use Rattle.facts.specs.Texts.{text_of}
use Rattle.paths.specs.declared.state.Path.{Path}

abbrev pub newline : List ℕ
newline = 10 ∷ []

-- `-` for no number
abbrev pub number_or_dash : Option ℕ → List ℕ
number_or_dash None = codes "-"
number_or_dash (Some n) = decimal n

-- a path's number, items, counted opcodes and height
abbrev pub sizes_text : ℕ → Path → List ℕ
sizes_text k p = codes "path " ++ (decimal k ++ (codes " arity " ++ (decimal p.arity ++ (codes " counted " ++ (decimal p.ops ++ (codes " height " ++ decimal p.height))))))

-- a path's locks
abbrev pub locks_text : Path → List ℕ
locks_text p = codes " lock " ++ (number_or_dash p.lock ++ (codes " age " ++ (number_or_dash p.age ++ newline)))

-- a fact, on a line of its own below its path
abbrev pub fact_line : Stated → List ℕ
fact_line s = codes "  " ++ (text_of s ++ newline)

-- a path with its facts
abbrev pub path_text : ℕ → Path → List ℕ
path_text k p = sizes_text k p ++ (locks_text p ++ flat_map fact_line p.facts)

-- paths, numbered from k on
abbrev pub texts_from : ℕ → List Path → List ℕ
texts_from k [] = []
texts_from k (p ∷ paths) = path_text k p ++ texts_from (suc k) paths

-- the number of paths, and each of them, from 0 on
abbrev pub listing_text : List Path → List ℕ
listing_text paths = codes "paths " ++ (decimal (length paths) ++ (newline ++ texts_from 0 paths))
