-- What an opcode does when it runs, by its definition.
use Rattle.std.specs.Prelude.{◌≡◌, ℕ, List, [], ◌∷◌, Result, Ok, Err, MatchResult}
use Rattle.script.specs.declared.opcode.Op.{Op}
use Rattle.script.specs.declared.opcode.Op.TheVariants.{CheckMultiSig}
use Rattle.script.specs.declared.jumps.Jump.{Jump}
use Rattle.script.specs.declared.spending.Spend.{Spend}
use Rattle.script.specs.declared.stops.Cause.{Cause}
use Rattle.script.specs.declared.stops.Cause.TheVariants.{MissingOperand}
use Rattle.script.specs.declared.stops.Kind.{Kind}
use Rattle.script.specs.Number.{number_of}
use Rattle.script.specs.Step.{Elements, Effect, effect, number_or_failure, magnitude_or_failure, ◌>>=◌}
use Rattle.machine.specs.declared.halts.Halt.{Halt}
use Rattle.machine.specs.declared.halts.Halt.TheVariants.{NoMemory, Stop}
use Rattle.machine.specs.declared.acts.Step.{Step}

-- the cause, unless memory ran out
abbrev pub IfStop : Halt → (Cause → Type 0) → Type 0
IfStop NoMemory P = Unit {0}
IfStop (Stop c) P = P c

-- an opcode that counts no keys
abbrev pub IsKeyless : Op → Type 0
IsKeyless CheckMultiSig = ⊥
IsKeyless op = Unit {0}

-- a step is this effect, and leaves these elements, or it stops for this cause
abbrev pub IsEffect : Result Effect Cause → Elements → Result Step Halt → Type 0
IsEffect e new r =
    MatchResult r
    (λ step. e ≡ Ok (record { jump = step.jump; stack = new; keys = step.keys }))
    (λ h. IfStop h (λ c. e ≡ Err c))

-- whatever is counted, the opcode turns the old elements into the new ones and counts no keys, or
-- it stops
abbrev pub Does : Spend → Op → Elements → Elements → Result Jump Halt → Type 0
Does spend op old new r =
    MatchResult r
    (λ j. (counted : ℕ) → effect spend counted op old ≡ Ok (record { jump = j; stack = new; keys = 0 }))
    (λ h. IfStop h (λ c. (counted : ℕ) → effect spend counted op old ≡ Err c))

-- the number of an item as a lock, or why it is not a lock
abbrev pub lock_operand : Kind → List ℕ → Result ℕ Cause
lock_operand kind item = number_or_failure (number_of 5 item) >>= magnitude_or_failure kind

-- the top is this lock
abbrev pub IsLock : Elements → Kind → ℕ → Type 0
IsLock [] kind n = ⊥
IsLock (x ∷ stack) kind n = lock_operand kind x ≡ Ok n

-- the top is not a lock, for this cause
abbrev pub HasNoLock : Elements → Kind → Cause → Type 0
HasNoLock [] kind c = c ≡ MissingOperand
HasNoLock (x ∷ stack) kind c = lock_operand kind x ≡ Err c
