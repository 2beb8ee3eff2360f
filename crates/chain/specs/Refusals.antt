-- Refusals: their numbers, and results that are the stated one.
use Rattle.std.specs.Prelude.{◌≡◌, ℕ, Option, Some, None, Result, Ok, Err}
use Rattle.chain.specs.declared.errors.ChainError.{ChainError}
use Rattle.chain.specs.declared.errors.ChainError.TheVariants.{NoMemory, Spent, Unknown, NotFinal, TooYoung, Script, BadProgram, OutputsExceed, Twice, TooDeep}

abbrev pub number_of : ChainError → ℕ
number_of NoMemory = 0
number_of Spent = 1
number_of Unknown = 2
number_of NotFinal = 3
number_of TooYoung = 4
number_of (Script cause at) = 5
number_of BadProgram = 6
number_of OutputsExceed = 7
number_of Twice = 8
number_of TooDeep = 9

-- where memory ran out, the result may be NoMemory in place of any answer
abbrev pub UnlessMemory : ChainError → Type 0 → Type 0
UnlessMemory NoMemory P = Unit {0}
UnlessMemory refusal P = P

-- the result is this refusal, or Ok where there is none
abbrev pub Answers : {A : Type 0} → Option ChainError → Result A ChainError → Type 0
Answers refusal (Ok x) = refusal ≡ None
Answers refusal (Err e) = UnlessMemory e (refusal ≡ Some e)
