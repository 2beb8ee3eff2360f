-- What a function that follows an opcode returns, by the table of rules.
use Rattle.std.specs.Prelude.{◌≡◌, ℕ, List, Option, Result, Ok, Err}
use Rattle.script.specs.declared.opcode.Op.{Op}
use Rattle.paths.specs.Holes.{Sym}
use Rattle.paths.specs.Holes.{State}
use Rattle.paths.specs.declared.state.Halt.{Halt}
use Rattle.paths.specs.Holes.{SymbolicJump}
use Rattle.paths.specs.Holes.{Condition}
use Rattle.paths.specs.Answers.{IfHalts, Answers, Leaves}
use Rattle.paths.specs.declared.constants.HoleKind.{HoleKind}
use Rattle.paths.specs.HoleRules.{condition_of, insist, rule_of}
use Rattle.paths.specs.HoleListing.{hole_at, rule_by}

abbrev pub IsConditionOf : Sym → Result Condition Halt → Type 0
IsConditionOf sym r = Answers IfHalts (condition_of sym) r

abbrev pub IsInsisted : Condition → State → State → Result (Unit {0}) Halt → Type 0
IsInsisted condition old new r = Leaves IfHalts (insist condition old) new r

abbrev pub IsRuleOf : ℕ → Op → State → State → Result SymbolicJump Halt → Type 0
IsRuleOf counted op old new (Ok turn) = rule_of counted op old ≡ Ok (turn, new)
IsRuleOf counted op old new (Err h) = IfHalts h (rule_of counted op old ≡ Err h)

-- the same at a position of a pattern
abbrev pub IsRuleAt : List (Option HoleKind) → ℕ → ℕ → Op → State → State → Result SymbolicJump Halt → Type 0
IsRuleAt holes counted at op old new (Ok turn) = rule_by (hole_at holes at) counted at op old ≡ Ok (turn, new)
IsRuleAt holes counted at op old new (Err h) = IfHalts h (rule_by (hole_at holes at) counted at op old ≡ Err h)
