-- What a hasher has taken in.
use Rattle.std.specs.Prelude.{ℕ, List, ◌++◌}
use Rattle.sha2.specs.declared.Sha256.{Sha256}
use Rattle.sha2.specs.Hashers.{Holds256}

-- new holds the message that old holds, and these bytes after it
abbrev pub Absorbs : Sha256 → Sha256 → List ℕ → Type 0
Absorbs old new bytes = (message : List ℕ) → Holds256 old message → Holds256 new (message ++ bytes)
