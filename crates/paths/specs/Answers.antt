-- How a contract ties a result to a definition, where the call may also run out of memory. Every contract below uses these
-- words.
use Rattle.std.specs.Prelude.{◌≡◌, Result, Ok, Err}
use Rattle.paths.specs.declared.errors.CheckError.{CheckError}
use Rattle.paths.specs.declared.errors.CheckError.TheVariants.{NoMemory as OutOfMemory}
use Rattle.paths.specs.declared.state.Halt.{Halt}
use Rattle.paths.specs.declared.state.Halt.TheVariants.{NoMemory}

-- P has to hold, unless the halt is out of memory
abbrev pub IfHalts : Halt → Type 0 → Type 0
IfHalts NoMemory P = Unit {0}
IfHalts h P = P

-- P has to hold, unless the refusal is out of memory
abbrev pub IfRefused : CheckError → Type 0 → Type 0
IfRefused OutOfMemory P = Unit {0}
IfRefused e P = P

-- the result is the one of a definition, unless memory ran out
abbrev pub Answers : {A E : Type 0} → (E → Type 0 → Type 0) → Result A E → Result A E → Type 0
Answers unless rule (Ok x) = rule ≡ Ok x
Answers unless rule (Err e) = unless e (rule ≡ Err e)

-- the same for a call that changes a value in place
abbrev pub Leaves : {A E : Type 0} → (E → Type 0 → Type 0) → Result A E → A → Result (Unit {0}) E → Type 0
Leaves unless rule new (Ok done) = rule ≡ Ok new
Leaves unless rule new (Err e) = unless e (rule ≡ Err e)
