-- The number of a refusal.
use Rattle.std.specs.Prelude.{ℕ}
use Rattle.desk.specs.declared.desk.DeskError.{DeskError}
use Rattle.desk.specs.declared.desk.DeskError.TheVariants.{NoMemory, SeatsExhausted}

abbrev pub desk_error_number : DeskError → ℕ
desk_error_number NoMemory = 0
desk_error_number SeatsExhausted = 1
