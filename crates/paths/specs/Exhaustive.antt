-- What a list of paths promises: nothing else satisfies the script.
use Rattle.std.specs.Prelude.{◌≡◌, ℕ, List, Any}
use Rattle.script.specs.declared.opcode.Op.{Op}
use Rattle.script.specs.declared.spending.Spend.{Spend}
use Rattle.script.specs.Run.{Clean, outcome}
use Rattle.facts.specs.Meaning.{Meets}
use Rattle.paths.specs.declared.state.Path.{Path}

-- a witness satisfies the script this way: it meets the path, whose counted opcodes and height are those of the run
pub record SatisfiesBy (spend : Spend) (witness : List (List ℕ)) (counted height : ℕ) (p : Path) : Type 0 where
  pub meets : Meets spend witness p.arity p.facts
  pub counts : p.ops ≡ counted
  pub tallest : p.height ≡ height

-- any witness that runs clean, under any spend, meets one of the paths, with that path's counted opcodes and height
abbrev pub IsExhaustive : List Op → List Path → Type 0
IsExhaustive ops paths =
    (spend : Spend) (witness : List (List ℕ)) (counted height : ℕ) → outcome spend ops witness ≡ Clean counted height → Any (SatisfiesBy spend witness counted height) paths
