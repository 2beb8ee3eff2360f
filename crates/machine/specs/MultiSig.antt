-- The parts of CHECKMULTISIG, by its definition.
use Rattle.std.specs.Prelude.{◌≡◌, ℕ, List, [], ◌∷◌, ◌==◌, length, Result, Ok, Err, MatchResult}
use Rattle.std.specs.List.{list_all}
use Rattle.script.specs.declared.stops.Cause.{Cause}
use Rattle.script.specs.declared.stops.Cause.TheVariants.{MissingOperand, FailedCheck}
use Rattle.script.specs.declared.stops.Kind.{Kind}
use Rattle.script.specs.declared.stops.Kind.TheVariants.{TokenForm, KeyForm, Extra}
use Rattle.script.specs.Number.{number_of}
use Rattle.script.specs.Token.{is_key, is_signature}
use Rattle.script.specs.Step.{Elements, number_or_failure, count_or_failure, result_if, ◌>>=◌}
use Rattle.machine.specs.declared.halts.Halt.{Halt}
use Rattle.machine.specs.Doings.{IfStop}

-- the number of an item as a count, or why it is not a count
abbrev pub count_operand : ℕ → Kind → List ℕ → Result ℕ Cause
count_operand limit kind item = number_or_failure (number_of 4 item) >>= count_or_failure limit kind

-- the top is this count, and these elements are left
abbrev pub Counts : Elements → Elements → ℕ → Kind → ℕ → Type 0
Counts [] new limit kind n = ⊥
Counts (x ∷ stack) new limit kind n = (new ≡ stack) × (count_operand limit kind x ≡ Ok n)

-- the top is not a count, for this cause
abbrev pub CountsNone : Elements → ℕ → Kind → Cause → Type 0
CountsNone [] limit kind c = c ≡ MissingOperand
CountsNone (x ∷ stack) limit kind c = count_operand limit kind x ≡ Err c

-- the checks of forms, in their order
abbrev pub forms_result : Elements → Elements → List ℕ → Result (Unit {0}) Cause
forms_result keys sigs extra =
    result_if (list_all is_signature sigs) (FailedCheck TokenForm) (result_if (list_all is_key keys) (FailedCheck KeyForm) (result_if (length extra == 0) (FailedCheck Extra) (Ok tt)))

-- the forms are good, or the first bad one fails
abbrev pub HasForms : Elements → Elements → List ℕ → Result (Unit {0}) Halt → Type 0
HasForms keys sigs extra r =
    MatchResult r
    (λ _. forms_result keys sigs extra ≡ Ok tt)
    (λ h. IfStop h (λ c. forms_result keys sigs extra ≡ Err c))
