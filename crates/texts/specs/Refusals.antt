-- The numbers of the refusals.
use Rattle.std.specs.Prelude.{ℕ}
use Rattle.texts.specs.declared.errors.ShapeError.{ShapeError}
use Rattle.texts.specs.declared.errors.ShapeError.TheVariants.{NoMemory, BadShape}

-- 1 stands for invalid JSON, which a JSON value cannot be
abbrev pub refusal_number : ShapeError → ℕ
refusal_number NoMemory = 0
refusal_number BadShape = 2
