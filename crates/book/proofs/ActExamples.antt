-- The call that takes each message, the messages in each reply, and the replies that memory ran out.
use Rattle.std.proofs.Common.{◌≡◌, ℕ, Bool, true, false, List, [], ◌∷◌, map, Ok, Err, refl}
use Rattle.updates.specs.declared.changes.Update.{Update}
use Rattle.filling.specs.Filled.{Filling}
use Rattle.keys.specs.declared.compressed.Key.{Key}
use Rattle.channel.specs.declared.messages.Message.{Message}
use Rattle.updates.specs.declared.messages.PeerStep.TheVariants.{Update as Updated, CommitmentSigned}
use Rattle.channel.specs.declared.messages.Message.TheVariants.{Step as StepMessage, RevokeAndAck}
use Rattle.updates.specs.declared.messages.Tokens.{Tokens}
use Rattle.book.specs.declared.calls.Call.{Call}
use Rattle.book.specs.declared.calls.Call.TheVariants.{Step, Revoke}
use Rattle.book.specs.declared.calls.Step.TheVariants.{Peer}
use Rattle.book.specs.declared.errors.OpenError.{OpenError}
use Rattle.book.specs.declared.errors.StepError.{StepError}
use Rattle.book.specs.declared.errors.SignError.{SignError}
use Rattle.book.specs.declared.errors.KeepError.{KeepError}
use Rattle.book.specs.declared.errors.ReleaseError.{ReleaseError}
use Rattle.book.specs.declared.errors.CloseError.{CloseError}
use Rattle.book.specs.Replies.{opened, stepped, signed, revoked, kept, released, closed}
use Rattle.book.specs.declared.errors.OpenError.TheVariants.{BookFull}
use Rattle.book.specs.declared.errors.StepError.TheVariants as steps
use Rattle.book.specs.declared.errors.SignError.TheVariants.{PenaltiesMissing}
use Rattle.book.specs.declared.errors.KeepError.TheVariants.{NotRevoked}
use Rattle.book.specs.declared.errors.ReleaseError.TheVariants as releases
use Rattle.book.specs.declared.errors.CloseError.TheVariants as closes
use Rattle.book.specs.Calling.{no_memory_of}
use Rattle.book.specs.Acts.{call_of, messages_in, ran_out}
use Rattle.book.proofs.Answered.{out_of_memory}

module _ (update : Update) (tokens : Tokens) (secret : List ℕ) (point : Key) where
  taken : map (call_of 7) (StepMessage (Updated update) ∷ StepMessage (CommitmentSigned tokens) ∷ RevokeAndAck (record { secret = secret; next_point = point }) ∷ []) ≡ Step 7 (Peer (Updated update)) ∷ Step 7 (Peer (CommitmentSigned tokens)) ∷ Revoke 7 (record { secret = secret; next_point = point }) ∷ []
  taken = refl

module _ (m : Message) (filling : Filling) where
  given : map messages_in (opened (Ok 0) ∷ stepped (Ok []) ∷ stepped (Ok (m ∷ [])) ∷ signed (Ok m) ∷ revoked (Ok 0) ∷ kept (Ok tt) ∷ released (Ok filling) ∷ closed (Ok 0) ∷ [])
      ≡ [] ∷ [] ∷ (m ∷ []) ∷ (m ∷ []) ∷ [] ∷ [] ∷ [] ∷ [] ∷ []
  given = refl

module _ (o : OpenError) (s : StepError) (g : SignError) (k : KeepError) (r : ReleaseError) (c : CloseError) where
  refused : map messages_in (opened (Err o) ∷ stepped (Err s) ∷ signed (Err g) ∷ revoked (Err s) ∷ kept (Err k) ∷ released (Err r) ∷ closed (Err c) ∷ []) ≡ [] ∷ [] ∷ [] ∷ [] ∷ [] ∷ [] ∷ [] ∷ []
  refused = refl

memory_ran_out : (call : Call) → ran_out (no_memory_of call) ≡ true
memory_ran_out = out_of_memory

other_refusals : map ran_out (opened (Err BookFull) ∷ stepped (Err steps.NoSuchChannel) ∷ signed (Err (PenaltiesMissing 0)) ∷ revoked (Err steps.ChannelClosed) ∷ kept (Err NotRevoked) ∷ released (Err releases.NoSuchChannel) ∷ closed (Err closes.NoSuchChannel) ∷ [])
    ≡ false ∷ false ∷ false ∷ false ∷ false ∷ false ∷ false ∷ []
other_refusals = refl
