-- Which texts have a name twice in one object (RFC 8259).
use Rattle.std.specs.Prelude.{ℕ, List, IsSomeAnd}
use Rattle.std.specs.Str.{IsUtf8}
use Rattle.json.specs.Json.{document}
use Rattle.json.specs.Strict.{HasUniqueKeys}

-- the bytes are JSON in UTF-8, and some object, at any depth, has a name twice
abbrev pub RepeatsMember : List ℕ → Type 0
RepeatsMember bytes = IsUtf8 bytes × IsSomeAnd (document bytes) (λ j. ¬ HasUniqueKeys j)
