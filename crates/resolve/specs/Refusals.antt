-- The refusals by their numbers.
use Rattle.std.specs.Prelude.{ℕ}
use Rattle.penalty.specs.declared.errors.StateError.{StateError}
use Rattle.penalty.specs.declared.errors.StateError.TheVariants.{TooManyHtlcs as ManyHtlcs, ExpiryTooLarge as LargeExpiry, WrongTotal as OtherTotal}
use Rattle.resolve.specs.declared.errors.KnownError.{KnownError}
use Rattle.resolve.specs.declared.errors.KnownError.TheVariants.{NoMemory, TooManyHtlcs, ExpiryTooLarge, WrongTotal, BadSignature, NumberTooLarge}
use Rattle.resolve.specs.declared.errors.RevokedError.{RevokedError}
use Rattle.resolve.specs.declared.errors.RevokedError.TheVariants.{NoMemory as NoRoom, WrongNumber}

abbrev pub refusal_number : KnownError → ℕ
refusal_number NoMemory = 0
refusal_number TooManyHtlcs = 1
refusal_number ExpiryTooLarge = 2
refusal_number WrongTotal = 3
refusal_number BadSignature = 4
refusal_number NumberTooLarge = 5

abbrev pub push_refusal_number : RevokedError → ℕ
push_refusal_number NoRoom = 0
push_refusal_number WrongNumber = 1

-- the refusal here that stands for a view's refusal
abbrev pub refusal_by : StateError → KnownError
refusal_by ManyHtlcs = TooManyHtlcs
refusal_by LargeExpiry = ExpiryTooLarge
refusal_by OtherTotal = WrongTotal
