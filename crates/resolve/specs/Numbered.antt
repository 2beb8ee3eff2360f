-- Revoked commitments by their numbers.
use Rattle.std.specs.Prelude.{◌≡◌, ℕ, Bool, true, false, ◌&&◌, ◌==◌, nat_le, List, length, Option, Some, None, slice_get, slice_set}
use Rattle.resolve.specs.declared.numbers.TheConstants.{MAX_NUMBER}
use Rattle.resolve.specs.declared.errors.RevokedError.{RevokedError}
use Rattle.resolve.specs.declared.errors.RevokedError.TheVariants.{NoMemory, WrongNumber}
use Rattle.resolve.specs.declared.known.RevokedCommitment.{RevokedCommitment}
use Rattle.resolve.specs.Known.{as_kept}

-- the i-th has number i
abbrev pub AreNumbered : List RevokedCommitment → Type 0
AreNumbered rs = (i : ℕ) (r : RevokedCommitment) → slice_get rs i ≡ Some r → r.state.number ≡ i

-- a number is the next one, and one that a commitment transaction can carry
abbrev pub is_next : List RevokedCommitment → ℕ → Bool
is_next rs number = number == length rs && nat_le number MAX_NUMBER

-- appending one more is refused as WrongNumber if it is not the next, else because memory ran out
abbrev pub IsPushRefusal : List RevokedCommitment → RevokedCommitment → RevokedError → Type 0
IsPushRefusal rs r WrongNumber = is_next rs r.state.number ≡ false
IsPushRefusal rs r NoMemory = is_next rs r.state.number ≡ true

-- the list with the penalties of a number kept
abbrev pub kept_if : List RevokedCommitment → ℕ → Option RevokedCommitment → List RevokedCommitment
kept_if rs number None = rs
kept_if rs number (Some r) = slice_set rs number (as_kept r)

abbrev pub with_kept : List RevokedCommitment → ℕ → List RevokedCommitment
with_kept rs number = kept_if rs number (slice_get rs number)
