-- Symbols and facts where all bytes and numbers are known.
use Rattle.std.specs.Prelude.{ℕ, List}
use Rattle.facts.specs.declared.symbols.KeySourceOver.{KeySourceOver}
use Rattle.facts.specs.declared.symbols.FactOver.{FactOver}
use Rattle.facts.specs.declared.symbols.StatedOver.{StatedOver}
use Rattle.facts.specs.declared.symbols.SymOver.{SymOver}

abbrev pub KeySource : Type 0
KeySource = KeySourceOver (List ℕ)

abbrev pub Fact : Type 0
Fact = FactOver (List ℕ) ℕ ℕ

abbrev pub Stated : Type 0
Stated = StatedOver (List ℕ) ℕ ℕ

abbrev pub Sym : Type 0
Sym = SymOver (List ℕ) ℕ ℕ
