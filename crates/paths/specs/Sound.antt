-- What a listed path promises.
use Rattle.std.specs.Prelude.{◌≡◌, ℕ, ◌≤◌, List}
use Rattle.script.specs.declared.opcode.Op.{Op}
use Rattle.script.specs.declared.spending.Spend.{Spend}
use Rattle.script.specs.declared.limits.TheConstants.{MAX_OPS_PER_SCRIPT, MAX_STACK_SIZE}
use Rattle.script.specs.Run.{Clean, outcome}
use Rattle.facts.specs.Meaning.{Meets}
use Rattle.paths.specs.declared.state.Path.{Path}
use Rattle.paths.specs.Listing.{greatest_lock_in, greatest_age_in}

-- whatever meets the path runs clean, with exactly its counted opcodes and its height, at most 1,000; the path's locks are those of its
-- facts
pub record IsSound (ops : List Op) (p : Path) : Type 0 where
  pub clean : (spend : Spend) (witness : List (List ℕ)) → Meets spend witness p.arity p.facts → outcome spend ops witness ≡ Clean p.ops p.height
  pub low : p.height ≤ MAX_STACK_SIZE
  pub few : p.ops ≤ MAX_OPS_PER_SCRIPT
  pub lock : p.lock ≡ greatest_lock_in p.facts
  pub age : p.age ≡ greatest_age_in p.facts
