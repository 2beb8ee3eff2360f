-- A call that releases again what did not stand: an entry's claims without those on outputs that another transaction spent.
use Rattle.std.specs.Prelude.{◌≡◌, ℕ, ◌==◌, not, nat_lt, List, length, Option, Some, None, Result, Err, slice_get}
use Rattle.std.specs.List.{filter, list_any}
use Rattle.tx.specs.declared.input.OutPoint.{OutPoint}
use Rattle.tx.specs.declared.limits.TheConstants.{MAX_OUTPUTS}
use Rattle.tx.specs.Parts.{Output}
use Rattle.tx.specs.Fields.{same_outpoint}
use Rattle.claim.specs.Claims.{ClaimParts}
use Rattle.filling.specs.Filled.{Filling}
use Rattle.filling.specs.declared.errors.FillError.TheVariants.{NoMemory}
use Rattle.book.specs.declared.calls.Batch.{Batch}
use Rattle.book.specs.declared.calls.Call.{Call}
use Rattle.book.specs.declared.calls.Call.TheVariants.{Open, Step, Sign, Revoke, Keep, Release, Close}
use Rattle.book.specs.declared.calls.Entry.{Entry}
use Rattle.book.specs.declared.errors.ReleaseError.{ReleaseError}
use Rattle.book.specs.declared.errors.ReleaseError.TheVariants.{Unfilled}
use Rattle.book.specs.declared.errors.ReleaseAgainError.{ReleaseAgainError}
use Rattle.book.specs.declared.errors.ReleaseAgainError.TheVariants.{Refused, NoSuchEntry, NotARelease, TooManyOutputs, NothingLeft}
use Rattle.book.specs.Calls.{IsBatchOf}
use Rattle.book.specs.Replies.{released, if_so}
use Rattle.book.specs.Calling.{IsCall}

-- the claims whose outputs are not among those that were spent
abbrev pub without_spent : List OutPoint → List ClaimParts → List ClaimParts
without_spent spent claims = filter (λ c. not (list_any (λ o. same_outpoint o c.place.outpoint) spent)) claims

-- why there is no batch of what is left of one: TooManyOutputs, NothingLeft
abbrev pub batch_refusal : List OutPoint → List Output → Batch → Option ReleaseAgainError
batch_refusal spent outputs b = if_so (nat_lt MAX_OUTPUTS (length outputs)) TooManyOutputs (if_so (length (without_spent spent b.claims) == 0) NothingLeft None)

-- NotARelease, else that
abbrev pub left_refusal : List OutPoint → List Output → Call → Option ReleaseAgainError
left_refusal spent outputs (Open o) = Some NotARelease
left_refusal spent outputs (Step c step) = Some NotARelease
left_refusal spent outputs (Sign c) = Some NotARelease
left_refusal spent outputs (Revoke c revocation) = Some NotARelease
left_refusal spent outputs (Keep c n claims) = Some NotARelease
left_refusal spent outputs (Release c b) = batch_refusal spent outputs b
left_refusal spent outputs (Close c) = Some NotARelease

-- NoSuchEntry, else that
abbrev pub rest_refusal : List OutPoint → List Output → Option Entry → Option ReleaseAgainError
rest_refusal spent outputs None = Some NoSuchEntry
rest_refusal spent outputs (Some e) = left_refusal spent outputs e.call

-- an entry is a release in the channel, and the batch has what is left of its claims, with its preimages and other outputs
pub record IsRest (entry : Option Entry) (spent : List OutPoint) (outputs : List Output) (channel : ℕ) (rest : Batch) : Type 0 where
  pub seat : ℕ
  pub batch : Batch
  pub was : entry ≡ Some (record { seat = seat; call = Release channel batch })
  pub is : IsBatchOf (without_spent spent batch.claims) outputs batch.preimages rest

-- that batch is released, as by a call of its own
pub record IsReleasedAgain (old new : List Entry) (seat n : ℕ) (spent : List OutPoint) (outputs : List Output) (given : Result Filling ReleaseError) : Type 0 where
  pub channel : ℕ
  pub rest : Batch
  pub left : IsRest (slice_get old n) spent outputs channel rest
  pub call : IsCall (released given) old new seat (Release channel rest)

-- a refusal: memory ran out, or the release of that batch is refused, or there is none; the history is as before
abbrev pub IsAgainRefusal : (old new : List Entry) (seat n : ℕ) (spent : List OutPoint) (outputs : List Output) → ReleaseAgainError → Type 0
IsAgainRefusal old new seat n spent outputs (Refused (Unfilled NoMemory)) = new ≡ old
IsAgainRefusal old new seat n spent outputs (Refused e) = (new ≡ old) × IsReleasedAgain old new seat n spent outputs (Err e)
IsAgainRefusal old new seat n spent outputs e = (new ≡ old) × (rest_refusal spent outputs (slice_get old n) ≡ Some e)

-- what the search for that batch may be refused as
abbrev pub IsRestRefusal : Option ReleaseAgainError → ReleaseAgainError → Type 0
IsRestRefusal first (Refused (Unfilled NoMemory)) = Unit {0}
IsRestRefusal first (Refused e) = ⊥
IsRestRefusal first e = first ≡ Some e
