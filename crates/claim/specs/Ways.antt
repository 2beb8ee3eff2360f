-- The script that bytes are, with its paths.
use Rattle.std.specs.Prelude.{◌≡◌, ℕ, ◌≤◌, List, [], length, slice_get, Option, Some, None, Result, Ok, Err}
use Rattle.script.specs.declared.opcode.Op.{Op}
use Rattle.script.specs.declared.limits.TheConstants.{MAX_SCRIPT_SIZE as max_script_size}
use Rattle.script.specs.Spelling.{Spells}
use Rattle.paths.specs.declared.errors.CheckError.{CheckError}
use Rattle.paths.specs.declared.state.Path.{Path}
use Rattle.paths.specs.Listing.{CheckedScript, listing}
use Rattle.claim.specs.Opcodes.{ops_of}

abbrev pub paths_in : Result (List Path) CheckError → List Path
paths_in (Ok paths) = paths
paths_in (Err e) = []

abbrev pub ways_with : Option (List Op) → CheckedScript
ways_with None = record { ops = []; paths = [] }
ways_with (Some ops) = record { ops = ops; paths = paths_in (listing ops) }

-- the opcodes that bytes spell, with the paths that are listed for them; none if they spell no script
unfoldable pub ways_of : List ℕ → CheckedScript
ways_of bytes = ways_with (ops_of bytes)

-- a script has this path at an index
pub record IsWayOf (script : List ℕ) (index : ℕ) (path : Path) : Type 0 where
  pub spells : Spells (ways_of script).ops script
  pub short : length script ≤ max_script_size
  pub listed : listing (ways_of script).ops ≡ Ok (ways_of script).paths
  pub at : slice_get (ways_of script).paths index ≡ Some path
