-- The paths of a pattern, once it is filled: what the filled script pushes stands in the place of each hole.
use Rattle.std.specs.Prelude.{List, map}
use Rattle.script.specs.declared.opcode.Op.{Op}
use Rattle.facts.specs.Symbols.{Stated}
use Rattle.paths.specs.declared.state.Path.{Path}
use Rattle.paths.specs.declared.state.PatternPath.{PatternPath}
use Rattle.paths.specs.Holes.{Stated as HoleStated, filling}
use Rattle.paths.specs.Maps.{in_stated}
use Rattle.paths.specs.Listing.{greatest_lock_in, greatest_age_in}

abbrev pub filled_facts : List Op → List HoleStated → List Stated
filled_facts ops facts = map (in_stated (filling ops)) facts

-- a filled path: its locks are those of its filled facts
abbrev pub filled_path : List Op → PatternPath → Path
filled_path ops p = record { arity = p.arity; facts = filled_facts ops p.facts; ops = p.ops; height = p.height; lock = greatest_lock_in (filled_facts ops p.facts); age = greatest_age_in (filled_facts ops p.facts) }

abbrev pub filled_paths : List Op → List PatternPath → List Path
filled_paths ops paths = map (filled_path ops) paths
