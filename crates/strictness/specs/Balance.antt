-- Scripts whose branches close.
use Rattle.std.specs.Prelude.{Bool, true, false, List, [], ◌∷◌, Result, Ok, Err}
use Rattle.script.specs.declared.opcode.Op.{Op}
use Rattle.script.specs.declared.stops.Cause.{Cause}
use Rattle.script.specs.Run.{open_ifs_after}

abbrev pub balanced_with : Result (List Bool) Cause → (List Bool → Bool) → Bool
balanced_with (Ok ifs) go = go ifs
balanced_with (Err c) go = false

-- each IF has its ENDIF, each ELSE and ENDIF its IF, and no IF a second ELSE, in the opcodes after a point where these IFs are open
abbrev pub is_balanced : List Op → List Bool → Bool
is_balanced [] [] = true
is_balanced [] (b ∷ ifs) = false
is_balanced (op ∷ rest) ifs = balanced_with (open_ifs_after op ifs) (is_balanced rest)
