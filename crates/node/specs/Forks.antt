-- How far back reorganisations went.
use Rattle.std.specs.Prelude.{ℕ, min, List, drop, fold}

-- the least of a height and of the forks from a round on
abbrev pub least_since : ℕ → ℕ → List ℕ → ℕ
least_since round height forks = fold min height (drop round forks)
