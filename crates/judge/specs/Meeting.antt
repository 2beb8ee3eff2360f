-- Whether a witness meets a listed path, as a test.
use Rattle.std.specs.Prelude.{ℕ, Bool, ◌&&◌, not, ◌==◌, if◌then◌else◌, List, length, reverse, Option, None, Result, Ok, Err}
use Rattle.std.specs.List.{list_all, position_from}
use Rattle.script.specs.declared.opcode.Op.{Op}
use Rattle.script.specs.declared.spending.Spend.{Spend}
use Rattle.facts.specs.Symbols.{Stated}
use Rattle.facts.specs.Meaning.{holds_of}
use Rattle.paths.specs.declared.state.Path.{Path}
use Rattle.paths.specs.declared.errors.CheckError.{CheckError}
use Rattle.paths.specs.Listing.{listing}

-- a fact holds under a spend and the items of a witness, or does not, as it is stated
abbrev pub is_as_stated : Spend → List (List ℕ) → Stated → Bool
is_as_stated spend witness s = if s.holds then holds_of spend (reverse witness) s.fact else not (holds_of spend (reverse witness) s.fact)

-- the witness has the path's number of items, and its facts are as they are stated
abbrev pub is_met : Spend → List (List ℕ) → Path → Bool
is_met spend witness path = path.arity == length witness && list_all (is_as_stated spend witness) path.facts

-- the number of the first path of a listing that the witness meets
abbrev pub path_in : Spend → List (List ℕ) → Result (List Path) CheckError → Option ℕ
path_in spend witness (Ok paths) = position_from (is_met spend witness) 0 paths
path_in spend witness (Err refusal) = None

-- the number of the first listed path of a script that the witness meets
abbrev pub path_taken : Spend → List Op → List (List ℕ) → Option ℕ
path_taken spend ops witness = path_in spend witness (listing ops)
