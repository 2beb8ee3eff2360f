-- Kept claims can be released, and what is released fits its claims.
use Rattle.std.specs.Prelude.{◌≡◌, ℕ, true, List, Contains, Some, None, Err, slice_get}
use Rattle.std.specs.List.{AllByRecursion}
use Rattle.claim.specs.Claims.{ClaimParts}
use Rattle.filling.specs.declared.errors.FillError.TheVariants.{NoRight}
use Rattle.filling.specs.Refusals.{all_slots}
use Rattle.filling.specs.Filled.{AllFit}
use Rattle.channel.specs.States.{Signing}
use Rattle.book.specs.declared.calls.Batch.{Batch}
use Rattle.book.specs.declared.calls.Call.TheVariants.{Keep, Release}
use Rattle.book.specs.declared.calls.Entry.{Entry}
use Rattle.book.specs.declared.errors.ReleaseError.TheVariants.{Unfilled}
use Rattle.book.specs.Books.{ChannelBook, replay}
use Rattle.channel.specs.Rights.{rights_of}
use Rattle.book.specs.Signers.{first_lack}
use Rattle.book.specs.Replies.{released, reply_of}
use Rattle.book.specs.Accepted.{all_accepted, AreWhole}
use Rattle.book.specs.Calling.{filling_by}

-- a claim of a set that an entry of the history keeps in a channel
pub record IsKeptIn (c : ℕ) (history : List Entry) (claim : ClaimParts) : Type 0 where
  pub seat : ℕ
  pub number : ℕ
  pub set : List ClaimParts
  pub kept : Contains history (record { seat = seat; call = Keep c number set })
  pub within : Contains set claim

-- after a history of accepted calls, claims of a channel's kept sets, of one set or of several, lack no right and no preimage; so no release of them is refused with NoRight
pub record KeptAreFillable : Type 0 where
  pub slots :
      (tokens_of : Signing) (history : List Entry) (c : ℕ) (ch : ChannelBook) (claims : List ClaimParts) (preimages : List (List ℕ)) → all_accepted tokens_of history ≡ true
      → slice_get (replay history) c ≡ Some ch → AllByRecursion (IsKeptIn c history) claims → first_lack (rights_of ch.state) preimages (all_slots claims) ≡ None
  pub releases :
      (tokens_of : Signing) (history : List Entry) (c : ℕ) (batch : Batch) → all_accepted tokens_of history ≡ true → AllByRecursion (IsKeptIn c history) batch.claims
      → reply_of tokens_of history (Release c batch) ≡ released (Err (Unfilled NoRight)) → ⊥

-- each input of a release's filling fits its claim, in a history of accepted calls
abbrev pub ReleasesFit : Type 0
ReleasesFit =
    (tokens_of : Signing) (history : List Entry) (seat c : ℕ) (batch : Batch) → all_accepted tokens_of history ≡ true → AreWhole history
    → Contains history (record { seat = seat; call = Release c batch }) → AllFit (filling_by batch).tx batch.claims (filling_by batch).tx.inputs
