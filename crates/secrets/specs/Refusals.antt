-- The refusals by their numbers.
use Rattle.std.specs.Prelude.{ℕ}
use Rattle.secrets.specs.declared.errors.StoreError.{StoreError}
use Rattle.secrets.specs.declared.errors.StoreError.TheVariants.{OutOfTurn, NotOfThisSeed}

-- there is no 0 (out of memory): a store allocates nothing
abbrev pub refusal_number : StoreError → ℕ
refusal_number OutOfTurn = 1
refusal_number NotOfThisSeed = 2
