-- The replies of the seven calls as one: which call each belongs to, what it returns if accepted, and the numbers of the refusals.
use Rattle.std.proofs.Common.{◌≡◌, ℕ, true, List, [], ◌∷◌, map, Option, Some, None, Result, Ok, Err, refl}
use Rattle.updates.specs.declared.errors.ChannelError.TheVariants as refuses
use Rattle.filling.specs.Filled.{Filling}
use Rattle.filling.specs.declared.errors.FillError.TheVariants as fills
use Rattle.channel.specs.declared.messages.Message.{Message}
use Rattle.keys.specs.declared.compressed.Key.{Key}
use Rattle.claim.specs.Claims.{ClaimParts}
use Rattle.book.specs.declared.calls.Opening.{Opening}
use Rattle.book.specs.declared.calls.Batch.{Batch}
use Rattle.book.specs.declared.calls.Step.{Step}
use Rattle.book.specs.declared.calls.Call.TheVariants as calls
use Rattle.book.specs.declared.calling.Reply.{Reply as Answer}
use Rattle.book.specs.declared.calling.Reply.TheVariants.{Opened, Stepped, Signed, Revoked, Kept, Released, Closed}
use Rattle.book.specs.declared.errors.OpenError.TheVariants as opens
use Rattle.book.specs.declared.errors.StepError.TheVariants as steps
use Rattle.book.specs.declared.errors.SignError.TheVariants as signs
use Rattle.book.specs.declared.errors.KeepError.TheVariants as keeps
use Rattle.book.specs.declared.errors.ReleaseError.TheVariants as releases
use Rattle.book.specs.declared.errors.CloseError.TheVariants as closes
use Rattle.book.specs.Refusals.{open_error_number, step_error_number, sign_error_number, keep_error_number, release_error_number, close_error_number}
use Rattle.book.specs.Replies.{Reply, opened, stepped, signed, revoked, kept, released, closed, is_accepted}
use Rattle.book.specs.Calling.{no_memory_of}
use Rattle.book.specs.Dispatch.{reply_form}

-- the names of the calls
data Name : Type 0 where
  opening : Name
  stepping : Name
  signing : Name
  revoking : Name
  keeping : Name
  releasing : Name
  closing : Name

abbrev number_of : {A E : Type 0} → (E → ℕ) → Result A E → Option ℕ
number_of number (Ok x) = None
number_of number (Err e) = Some (number e)

-- which call a reply belongs to, and the number of its refusal
abbrev shown : Reply → Name × Option ℕ
shown (opened r) = (opening, number_of open_error_number r)
shown (stepped r) = (stepping, number_of step_error_number r)
shown (signed r) = (signing, number_of sign_error_number r)
shown (revoked r) = (revoking, number_of step_error_number r)
shown (kept r) = (keeping, number_of keep_error_number r)
shown (released r) = (releasing, number_of release_error_number r)
shown (closed r) = (closing, number_of close_error_number r)

-- out of memory has number 0 for each call
module _ (o : Opening) (taken : Step) (secret : List ℕ) (point : Key) (claims : List ClaimParts) (batch : Batch) where
  no_memory : map shown (map no_memory_of
      (calls.Open o ∷ calls.Step 1 taken ∷ calls.Sign 2 ∷ calls.Revoke 3 (record { secret = secret; next_point = point }) ∷ calls.Keep 4 5 claims ∷ calls.Release 6 batch ∷ calls.Close 7 ∷ []))
      ≡ (opening, Some 0) ∷ (stepping, Some 0) ∷ (signing, Some 0) ∷ (revoking, Some 0) ∷ (keeping, Some 0) ∷ (releasing, Some 0) ∷ (closing, Some 0) ∷ []
  no_memory = refl

-- a channel's index, the messages of a step, the message of a signature, the number that is revoked, nothing, a filling, and the number of a commitment
module _ (message : Message) (filling : Filling) where
  given : map reply_form (Opened (Ok 7) ∷ Stepped (Ok None) ∷ Stepped (Ok (Some message)) ∷ Signed (Ok message) ∷ Revoked (Ok 8) ∷ Kept (Ok tt) ∷ Released (Ok filling) ∷ Closed (Ok 9) ∷ [])
      ≡ opened (Ok 7) ∷ stepped (Ok []) ∷ stepped (Ok (message ∷ [])) ∷ signed (Ok message) ∷ revoked (Ok 8) ∷ kept (Ok tt) ∷ released (Ok filling) ∷ closed (Ok 9) ∷ []
  given = refl

  accepted : map (λ r. is_accepted (reply_form r))
      (Opened (Ok 0) ∷ Stepped (Ok None) ∷ Signed (Ok message) ∷ Revoked (Ok 0) ∷ Kept (Ok tt) ∷ Released (Ok filling) ∷ Closed (Ok 0) ∷ []) ≡ true ∷ true ∷ true ∷ true ∷ true ∷ true ∷ true ∷ []
  accepted = refl

abbrev refusals : List Answer
refusals =
    Opened (Err opens.BookFull)
    ∷ Opened (Err opens.SameFunding)
    ∷ Opened (Err opens.BadSignature)
    ∷ Stepped (Err steps.NoSuchChannel)
    ∷ Stepped (Err (steps.Refused refuses.NoMemory))
    ∷ Signed (Err (signs.PenaltiesMissing 4))
    ∷ Signed (Err signs.AwaitingRevocation)
    ∷ Signed (Err signs.NoUpdates)
    ∷ Signed (Err signs.NoSuchChannel)
    ∷ Revoked (Err steps.NoSuchChannel)
    ∷ Revoked (Err (steps.Refused refuses.NoMemory))
    ∷ Kept (Err keeps.NotRevoked)
    ∷ Kept (Err keeps.OtherState)
    ∷ Kept (Err keeps.AlreadyKept)
    ∷ Kept (Err keeps.NoSuchChannel)
    ∷ Released (Err (releases.Unfilled fills.NoMemory))
    ∷ Released (Err releases.NoSuchChannel)
    ∷ Stepped (Err steps.ChannelClosed)
    ∷ Signed (Err signs.ChannelClosed)
    ∷ Closed (Err closes.NoMemory)
    ∷ Closed (Err closes.NoSuchChannel)
    ∷ []

refused : map shown (map reply_form refusals)
    ≡ (opening, Some 1)
    ∷ (opening, Some 2)
    ∷ (opening, Some 3)
    ∷ (stepping, Some 9)
    ∷ (stepping, Some 0)
    ∷ (signing, Some 1)
    ∷ (signing, Some 2)
    ∷ (signing, Some 3)
    ∷ (signing, Some 9)
    ∷ (revoking, Some 9)
    ∷ (revoking, Some 0)
    ∷ (keeping, Some 1)
    ∷ (keeping, Some 2)
    ∷ (keeping, Some 3)
    ∷ (keeping, Some 9)
    ∷ (releasing, Some 0)
    ∷ (releasing, Some 9)
    ∷ (stepping, Some 19)
    ∷ (signing, Some 19)
    ∷ (closing, Some 0)
    ∷ (closing, Some 9)
    ∷ []
refused = refl
