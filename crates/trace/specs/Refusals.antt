-- The numbers of the refusals.
use Rattle.std.specs.Prelude.{ℕ}
use Rattle.streams.specs.InputRefusals.{input_number}
use Rattle.trace.specs.declared.witnesses.errors.SpentError.{SpentError}
use Rattle.trace.specs.declared.witnesses.errors.SpentError.TheVariants.{Input, Decode, BadCount, BadLine}

-- why a text is refused
abbrev pub refusal_number : SpentError → ℕ
refusal_number (Input error) = input_number error
refusal_number (Decode error) = 4
refusal_number BadCount = 5
refusal_number (BadLine line) = 6
