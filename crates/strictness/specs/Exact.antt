-- Whether each branch of a script ends as in consensus: by a rule that consensus has too, or, after the last opcode, without the one true element that BIP 141 asks for.
use Rattle.std.specs.Prelude.{ℕ, not, Bool, true, false, ◌&&◌, ◌==◌, ◌+◌, ◌-◌, if◌then◌else◌, List, [], ◌∷◌, drop, Option, Some, None}
use Rattle.std.specs.List.{list_all}
use Rattle.script.specs.declared.opcode.Op.{Op}
use Rattle.script.specs.declared.opcode.Op.TheVariants.{If, NotIf, Else, EndIf}
use Rattle.strictness.specs.declared.branches.Mode.{Mode}
use Rattle.strictness.specs.declared.branches.Mode.TheVariants.{Running, Skipping, Lost}
use Rattle.strictness.specs.declared.branches.Branch.{Branch}
use Rattle.script.specs.Step.{truth}
use Rattle.strictness.specs.Words.{Word, known, words}
use Rattle.strictness.specs.Turns.{Step, next, after_else, after_end, both, ends, stops, turn_of}

-- after an opcode that is skipped, with this many IFs open since the skipping began, which ends at the ENDIF or, with `to_else`, at the ELSE
abbrev pub mode_after : Op → ℕ → Bool → Mode
mode_after If depth to_else = Skipping (depth + 1) to_else
mode_after NotIf depth to_else = Skipping (depth + 1) to_else
mode_after Else depth to_else = if depth == 0 && to_else then Running else Skipping depth to_else
mode_after EndIf depth to_else = if depth == 0 then Running else Skipping (depth - 1) to_else
mode_after op depth to_else = Skipping depth to_else

-- whether all branches that go on from here end as in consensus
abbrev pub by_step : (Mode → List Word → Bool) → Step → List Word → Bool
by_step go next w = go Running w
by_step go after_else w = go (Skipping 0 true) w
by_step go after_end w = go (Skipping 0 false) w
by_step go both w = go Running w && go (Skipping 0 true) w
by_step go (ends fault b) w = true
by_step go stops w = false

-- an entry is false whatever the witness has
abbrev pub is_false : Word → Bool
is_false (known b) = not (truth b)
is_false x = false

-- after the last opcode: two entries are no single element, and neither is a false one true. With no entry an item of the witness may be left
abbrev pub is_refused_end : List Word → Bool
is_refused_end [] = false
is_refused_end (x ∷ []) = is_false x
is_refused_end (x ∷ y ∷ w) = true

-- and a branch that never came to the end of an IF
abbrev pub ends_refused : Mode → List Word → Bool
ends_refused Running w = is_refused_end w
ends_refused (Skipping depth to_else) w = true
ends_refused Lost w = false

abbrev pub is_exact : List Op → Mode → List Word → Bool
is_exact [] mode w = ends_refused mode w
is_exact (op ∷ ops) Running w = by_step (is_exact ops) (turn_of op w).0 (turn_of op w).1
is_exact (op ∷ ops) (Skipping depth to_else) w = is_exact ops (mode_after op depth to_else) w
is_exact (op ∷ ops) Lost w = is_exact ops Lost w

-- whether each branch of a script ends as in consensus, so that nobody spends by it there either
abbrev pub ends_as_in_consensus : List Op → Bool
ends_as_in_consensus ops = is_exact ops Running []

abbrev pub goes_on : (Mode → List Word → Bool) → Option Mode → List Word → Bool
goes_on go None w = true
goes_on go (Some mode) w = go mode w

abbrev pub depth_of : Mode → ℕ
depth_of Running = 0
depth_of (Skipping depth to_else) = depth
depth_of Lost = 0

-- how a branch begins that has yet to skip to its ELSE, or not
abbrev pub mode_at_first : Bool → Mode
mode_at_first skips = if skips then Skipping 0 true else Running

abbrev pub is_exact_from : List Op → Branch → Bool
is_exact_from ops b = is_exact (drop b.at ops) (mode_at_first b.skips) (words b.stack)

abbrev pub are_exact_from : List Op → List Branch → Bool
are_exact_from ops branches = list_all (is_exact_from ops) branches
