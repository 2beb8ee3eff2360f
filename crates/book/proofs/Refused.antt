-- Calls that a channel of a book refuses.
use Rattle.std.proofs.Common.{◌≡◌, ℕ, false, List, Option, Some, Err, refl, sym, ap, ◌∙◌, inl, inr, ◌⊎◌}
use Rattle.std.specs.Prelude.{slice_get}
use Rattle.std.specs.Map.{values_of}
use Rattle.tx.specs.declared.input.OutPoint.{OutPoint}
use Rattle.keys.specs.declared.compressed.Key.{Key}
use Rattle.claim.specs.Claims.{ClaimParts}
use Rattle.filling.specs.declared.errors.FillError.{FillError}
use Rattle.filling.specs.declared.errors.FillError.TheVariants as fills
use Rattle.updates.specs.declared.errors.ChannelError.{ChannelError}
use Rattle.updates.specs.declared.errors.ChannelError.TheVariants as refuses
use Rattle.updates.specs.Refusals.{IsRefusal}
use Rattle.channel.specs.Tokens.{peer_tokens}
use Rattle.channel.specs.declared.messages.Message.TheVariants.{RevokeAndAck}
use Rattle.channel.specs.States.{receive_refusal}
use Rattle.channel.specs.Rights.{rights_of}
use Rattle.book.specs.declared.calls.Batch.{Batch}
use Rattle.book.specs.declared.calls.Step.{Step}
use Rattle.book.specs.declared.calls.Call.{Call}
use Rattle.book.specs.declared.calls.Call.TheVariants.{Step as Stepping, Sign, Revoke, Keep, Release}
use Rattle.book.specs.declared.calls.Entry.{Entry}
use Rattle.book.specs.declared.errors.StepError.{StepError}
use Rattle.book.specs.declared.errors.StepError.TheVariants.{Refused, NoSuchChannel, ChannelClosed}
use Rattle.book.specs.declared.errors.SignError.{SignError}
use Rattle.book.specs.declared.errors.SignError.TheVariants as signs
use Rattle.book.specs.declared.errors.KeepError.{KeepError}
use Rattle.book.specs.declared.errors.KeepError.TheVariants as keeps
use Rattle.book.specs.declared.errors.ReleaseError.TheVariants.{Unfilled}
use Rattle.book.specs.Signers.{fill_refusal}
use Rattle.book.specs.Books.{ChannelBook, Channels, replay}
use Rattle.book.specs.Replies.{Reply, stepped, signed, revoked, kept, released, is_accepted, answer_of, reply_of, extended, book_step_refusal, sign_refusal, keep_refusal}
use Rattle.book.specs.Kept.{AreLeft}
use Rattle.book.specs.Calling.{no_memory_of, IsCall, IsStepRefusal, IsSignRefusal, IsKeepRefusal, IsFillRefusal}
use Rattle.book.proofs.Fundings.{stands}

-- memory ran out, or a refusal is the first that applies

to_take : (first : Option ChannelError) (r : ChannelError) → IsRefusal first r → (r ≡ refuses.NoMemory) ⊎ (first ≡ Some r)
to_take first refuses.NoMemory is = inl refl
to_take first refuses.AmountZero is = inr is
to_take first refuses.BelowMinimum is = inr is
to_take first refuses.ExpiryTooLarge is = inr is
to_take first refuses.WrongId is = inr is
to_take first refuses.TooManyHtlcs is = inr is
to_take first refuses.OverBalance is = inr is
to_take first refuses.UnknownHtlc is = inr is
to_take first refuses.WrongPreimage is = inr is
to_take first refuses.NoUpdates is = inr is
to_take first refuses.BadSignature is = inr is
to_take first refuses.WrongSecret is = inr is
to_take first refuses.NotYourTurn is = inr is
to_take first refuses.NotOpener is = inr is
to_take first refuses.PeerBehind is = inr is
to_take first refuses.NeverSigned is = inr is
to_take first refuses.AlreadyFulfilled is = inr is

to_step : (first : Option StepError) (e : StepError) → IsStepRefusal first e → (e ≡ Refused refuses.NoMemory) ⊎ (first ≡ Some e)
to_step first (Refused refuses.NoMemory) is = inl refl
to_step first (Refused refuses.AmountZero) is = inr is
to_step first (Refused refuses.BelowMinimum) is = inr is
to_step first (Refused refuses.ExpiryTooLarge) is = inr is
to_step first (Refused refuses.WrongId) is = inr is
to_step first (Refused refuses.TooManyHtlcs) is = inr is
to_step first (Refused refuses.OverBalance) is = inr is
to_step first (Refused refuses.UnknownHtlc) is = inr is
to_step first (Refused refuses.WrongPreimage) is = inr is
to_step first (Refused refuses.NoUpdates) is = inr is
to_step first (Refused refuses.BadSignature) is = inr is
to_step first (Refused refuses.WrongSecret) is = inr is
to_step first (Refused refuses.NotYourTurn) is = inr is
to_step first (Refused refuses.NotOpener) is = inr is
to_step first (Refused refuses.PeerBehind) is = inr is
to_step first (Refused refuses.NeverSigned) is = inr is
to_step first (Refused refuses.AlreadyFulfilled) is = inr is
to_step first NoSuchChannel is = inr is
to_step first ChannelClosed is = inr is

to_sign : (first : Option SignError) (r : SignError) → IsSignRefusal first r → (r ≡ signs.NoMemory) ⊎ (first ≡ Some r)
to_sign first signs.NoMemory is = inl refl
to_sign first (signs.PenaltiesMissing n) is = inr is
to_sign first signs.AwaitingRevocation is = inr is
to_sign first signs.NoUpdates is = inr is
to_sign first signs.NoSuchChannel is = inr is
to_sign first signs.ChannelClosed is = inr is

to_keep : (first : Option KeepError) (r : KeepError) → IsKeepRefusal first r → (r ≡ keeps.NoMemory) ⊎ (first ≡ Some r)
to_keep first keeps.NoMemory is = inl refl
to_keep first keeps.NotRevoked is = inr is
to_keep first keeps.OtherState is = inr is
to_keep first keeps.AlreadyKept is = inr is
to_keep first keeps.NoSuchChannel is = inr is

to_fill : (first : Option FillError) (r : FillError) → IsFillRefusal first r → (r ≡ fills.NoMemory) ⊎ (first ≡ Some r)
to_fill first fills.NoMemory is = inl refl
to_fill first fills.NoRight is = inr is
to_fill first fills.NoPreimage is = inr is
to_fill first fills.OutputsExceed is = inr is
to_fill first fills.MixedShells is = inr is
to_fill first fills.SameOutpoint is = inr is

-- ---- the answers of refused calls

step_answer : (chs : Channels) (c : ℕ) (ch : ChannelBook) (step : Step) (e : StepError) → slice_get chs c ≡ Some ch → book_step_refusal peer_tokens ch step ≡ Some e
    → answer_of peer_tokens chs (Stepping c step) ≡ stepped (Err e)
step_answer chs c ch step e found is = rw (found, is) refl

revoke_answer : (chs : Channels) (c : ℕ) (ch : ChannelBook) (secret : List ℕ) (next_point : Key) (r : ChannelError) → slice_get chs c ≡ Some ch
    → receive_refusal peer_tokens ch.state (RevokeAndAck (record { secret = secret; next_point = next_point })) ≡ Some r → answer_of peer_tokens chs (Revoke c (record { secret = secret; next_point = next_point })) ≡ revoked (Err (Refused r))
revoke_answer chs c ch secret next_point r found is = rw (found, is) refl

sign_answer : (chs : Channels) (c : ℕ) (ch : ChannelBook) (e : SignError) → slice_get chs c ≡ Some ch → sign_refusal ch ≡ Some e → answer_of peer_tokens chs (Sign c) ≡ signed (Err e)
sign_answer chs c ch e found is = rw (found, is) refl

keep_answer : (chs : Channels) (c n : ℕ) (ch : ChannelBook) (claims : List ClaimParts) (e : KeepError) → slice_get chs c ≡ Some ch → keep_refusal ch n claims ≡ Some e
    → answer_of peer_tokens chs (Keep c n claims) ≡ kept (Err e)
keep_answer chs c n ch claims e found is = rw (found, is) refl

release_answer : (chs : Channels) (c : ℕ) (ch : ChannelBook) (b : Batch) (e : FillError) → slice_get chs c ≡ Some ch → fill_refusal b.claims b.outputs (rights_of ch.state) b.preimages ≡ Some e
    → answer_of peer_tokens chs (Release c b) ≡ released (Err (Unfilled e))
release_answer chs c ch b e found is = rw (found, is) refl

-- ---- refused calls as a whole

module _ (history new : List Entry) (channels : List (OutPoint × ChannelBook)) (k : AreLeft history channels) (same : new ≡ history) (seat c : ℕ) (x : ChannelBook) (found : slice_get (values_of channels) c ≡ Some x) where
  by_first : {E : Type 0} (call : Call) (wrap : E → Reply) (none e : E) (first : Option E) → wrap none ≡ no_memory_of call → ((r : E) → is_accepted (wrap r) ≡ false)
      → (first ≡ Some e → answer_of peer_tokens (replay history) call ≡ wrap e) → (e ≡ none) ⊎ (first ≡ Some e) → IsCall (wrap e) history new seat call
  by_first call wrap none e first out rejected answer (inl is) = inl (ap wrap is ∙ out, same)
  by_first call wrap none e first out rejected answer (inr is) =
      let reply : reply_of peer_tokens history call ≡ wrap e = answer is in
      inr (sym reply, same ∙ ap (λ b. extended b history seat call) (sym (ap is_accepted reply ∙ rejected e)))

  there : slice_get (replay history) c ≡ Some x
  there = stands history channels k c x found

  pub step_refused : (step : Step) (e : StepError) → IsStepRefusal (book_step_refusal peer_tokens x step) e → IsCall (stepped (Err e)) history new seat (Stepping c step)
  step_refused step e is =
      let first = book_step_refusal peer_tokens x step in
      by_first (Stepping c step) (λ r. stepped (Err r)) (Refused refuses.NoMemory) e first refl (λ r. refl) (step_answer (replay history) c x step e there) (to_step first e is)

  pub revoke_refused : (secret : List ℕ) (next_point : Key) (r : ChannelError) → IsRefusal (receive_refusal peer_tokens x.state (RevokeAndAck (record { secret = secret; next_point = next_point }))) r
      → IsCall (revoked (Err (Refused r))) history new seat (Revoke c (record { secret = secret; next_point = next_point }))
  revoke_refused secret next_point r is =
      let first = receive_refusal peer_tokens x.state (RevokeAndAck (record { secret = secret; next_point = next_point })) in
      by_first (Revoke c (record { secret = secret; next_point = next_point })) (λ e. revoked (Err (Refused e))) refuses.NoMemory r first refl (λ e. refl) (revoke_answer (replay history) c x secret next_point r there) (to_take first r is)

  pub sign_refused : (e : SignError) → IsSignRefusal (sign_refusal x) e → IsCall (signed (Err e)) history new seat (Sign c)
  sign_refused e is = by_first (Sign c) (λ r. signed (Err r)) signs.NoMemory e (sign_refusal x) refl (λ r. refl) (sign_answer (replay history) c x e there) (to_sign (sign_refusal x) e is)

  pub keep_refused : (n : ℕ) (claims : List ClaimParts) (e : KeepError) → IsKeepRefusal (keep_refusal x n claims) e → IsCall (kept (Err e)) history new seat (Keep c n claims)
  keep_refused n claims e is =
      let first = keep_refusal x n claims in
      by_first (Keep c n claims) (λ r. kept (Err r)) keeps.NoMemory e first refl (λ r. refl) (keep_answer (replay history) c n x claims e there) (to_keep first e is)

  pub release_refused : (b : Batch) (e : FillError) → IsFillRefusal (fill_refusal b.claims b.outputs (rights_of x.state) b.preimages) e
      → IsCall (released (Err (Unfilled e))) history new seat (Release c b)
  release_refused b e is =
      let first = fill_refusal b.claims b.outputs (rights_of x.state) b.preimages in
      by_first (Release c b) (λ r. released (Err (Unfilled r))) fills.NoMemory e first refl (λ r. refl) (release_answer (replay history) c x b e there) (to_fill first e is)
