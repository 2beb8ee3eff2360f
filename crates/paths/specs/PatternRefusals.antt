-- The numbers of the refusals of patterns.
use Rattle.std.specs.Prelude.{ℕ}
use Rattle.paths.specs.declared.pieces.PatternError.{PatternError}
use Rattle.paths.specs.declared.pieces.PatternError.TheVariants.{Check, TooLong, BadOpcode}
use Rattle.paths.specs.declared.pieces.InstanceError.{InstanceError}
use Rattle.paths.specs.declared.pieces.InstanceError.TheVariants.{NoMemory, WrongHoles}
use Rattle.paths.specs.Refusals.{refusal_number}

abbrev pub pattern_refusal_number : PatternError → ℕ
pattern_refusal_number (Check e) = refusal_number e
pattern_refusal_number TooLong = 6
pattern_refusal_number BadOpcode = 7

abbrev pub instance_refusal_number : InstanceError → ℕ
instance_refusal_number NoMemory = 0
instance_refusal_number WrongHoles = 1
