-- The refusals by their numbers.
use Rattle.std.specs.Prelude.{ℕ}
use Rattle.sighash.specs.declared.errors.DigestError.{DigestError}
use Rattle.sighash.specs.declared.errors.DigestError.TheVariants.{NoSuchInput}

-- there is no 0 (out of memory): a digest allocates nothing
abbrev pub refusal_number : DigestError → ℕ
refusal_number NoSuchInput = 1
