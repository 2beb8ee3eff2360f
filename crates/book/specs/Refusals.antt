-- The numbers of a book's refusals: 0 is out of memory, 9 is no such channel, 19 is a channel that the side closed. From 20 on are those of a call that releases again.
use Rattle.std.specs.Prelude.{ℕ}
use Rattle.updates.specs.Refusals.{refusal_number}
use Rattle.filling.specs.Refusals.{fill_error_number}
use Rattle.book.specs.declared.errors.OpenError.{OpenError}
use Rattle.book.specs.declared.errors.OpenError.TheVariants as opens
use Rattle.book.specs.declared.errors.StepError.{StepError}
use Rattle.book.specs.declared.errors.StepError.TheVariants as steps
use Rattle.book.specs.declared.errors.SignError.{SignError}
use Rattle.book.specs.declared.errors.SignError.TheVariants as signs
use Rattle.book.specs.declared.errors.KeepError.{KeepError}
use Rattle.book.specs.declared.errors.KeepError.TheVariants as keeps
use Rattle.book.specs.declared.errors.ReleaseError.{ReleaseError}
use Rattle.book.specs.declared.errors.ReleaseError.TheVariants as releases
use Rattle.book.specs.declared.errors.ReleaseAgainError.{ReleaseAgainError}
use Rattle.book.specs.declared.errors.ReleaseAgainError.TheVariants as again
use Rattle.book.specs.declared.errors.CloseError.{CloseError}
use Rattle.book.specs.declared.errors.CloseError.TheVariants as closes
use Rattle.book.specs.declared.errors.KnowError.{KnowError}
use Rattle.book.specs.declared.errors.KnowError.TheVariants as knows

abbrev pub open_error_number : OpenError → ℕ
open_error_number opens.NoMemory = 0
open_error_number opens.BookFull = 1
open_error_number opens.SameFunding = 2
open_error_number opens.BadSignature = 3

abbrev pub step_error_number : StepError → ℕ
step_error_number (steps.Refused r) = refusal_number r
step_error_number steps.NoSuchChannel = 9
step_error_number steps.ChannelClosed = 19

abbrev pub sign_error_number : SignError → ℕ
sign_error_number signs.NoMemory = 0
sign_error_number (signs.PenaltiesMissing n) = 1
sign_error_number signs.AwaitingRevocation = 2
sign_error_number signs.NoUpdates = 3
sign_error_number signs.NoSuchChannel = 9
sign_error_number signs.ChannelClosed = 19

abbrev pub keep_error_number : KeepError → ℕ
keep_error_number keeps.NoMemory = 0
keep_error_number keeps.NotRevoked = 1
keep_error_number keeps.OtherState = 2
keep_error_number keeps.AlreadyKept = 3
keep_error_number keeps.NoSuchChannel = 9

abbrev pub release_error_number : ReleaseError → ℕ
release_error_number (releases.Unfilled r) = fill_error_number r
release_error_number releases.NoSuchChannel = 9

abbrev pub release_again_error_number : ReleaseAgainError → ℕ
release_again_error_number (again.Refused r) = release_error_number r
release_again_error_number again.NoSuchEntry = 20
release_again_error_number again.NotARelease = 21
release_again_error_number again.TooManyOutputs = 22
release_again_error_number again.NothingLeft = 23

abbrev pub close_error_number : CloseError → ℕ
close_error_number closes.NoMemory = 0
close_error_number closes.NoSuchChannel = 9

abbrev pub know_error_number : KnowError → ℕ
know_error_number knows.NoMemory = 0
know_error_number knows.NoSuchChannel = 9
