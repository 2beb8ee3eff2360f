-- What a book replies to a call, and which history it leaves.
use Rattle.std.specs.Prelude.{ℕ, Bool, true, false, not, ◌&&◌, ◌||◌, nat_lt, nat_le, List, [], ◌∷◌, ◌++◌, length, map, Option, Some, None, option_map, Result, Ok, Err, is_ok, slice_get}
use Rattle.std.specs.List.{list_any}
use Rattle.std.specs.Str.{bytes_eq}
use Rattle.tx.specs.Parts.{Output}
use Rattle.tx.specs.Fields.{same_outpoint}
use Rattle.updates.specs.declared.errors.ChannelError.{ChannelError}
use Rattle.updates.specs.Refusals.{covers_nothing}
use Rattle.claim.specs.Claims.{ClaimParts}
use Rattle.filling.specs.Filling.{filling_of}
use Rattle.filling.specs.Filled.{Filling}
use Rattle.channel.specs.declared.limits.TheConstants.{LAST_NUMBER}
use Rattle.channel.specs.declared.messages.Message.{Message}
use Rattle.updates.specs.declared.messages.PeerStep.TheVariants.{Update as Updated}
use Rattle.channel.specs.declared.messages.Message.TheVariants.{Step as StepMessage, RevokeAndAck}
use Rattle.channel.specs.Points.{point_at}
use Rattle.channel.specs.States.{Signing, State, update_of, first_of, update_refusal, receive_refusal, answers, signature_message}
use Rattle.book.specs.declared.limits.TheConstants.{MAX_CHANNELS}
use Rattle.book.specs.declared.calls.Opening.{Opening}
use Rattle.book.specs.declared.calls.Step.{Step}
use Rattle.book.specs.declared.calls.Step.TheVariants.{Own, Peer}
use Rattle.book.specs.declared.calls.Call.{Call}
use Rattle.book.specs.declared.calls.Call.TheVariants.{Open, Step as Stepping, Sign, Revoke, Keep, Release, Close}
use Rattle.book.specs.declared.calls.Entry.{Entry}
use Rattle.book.specs.declared.errors.OpenError.{OpenError}
use Rattle.book.specs.declared.errors.OpenError.TheVariants.{BookFull, SameFunding, BadSignature}
use Rattle.book.specs.declared.errors.StepError.{StepError}
use Rattle.book.specs.declared.errors.StepError.TheVariants.{Refused, NoSuchChannel as NoChannelToStep, ChannelClosed as ClosedToSteps}
use Rattle.book.specs.declared.errors.SignError.{SignError}
use Rattle.book.specs.declared.errors.SignError.TheVariants.{PenaltiesMissing, AwaitingRevocation, NoUpdates, NoSuchChannel as NoChannelToSign, ChannelClosed as ClosedToSigning}
use Rattle.book.specs.declared.errors.KeepError.{KeepError}
use Rattle.book.specs.declared.errors.KeepError.TheVariants.{NotRevoked, AlreadyKept, OtherState, NoSuchChannel as NoChannelToKeep}
use Rattle.book.specs.declared.errors.ReleaseError.{ReleaseError}
use Rattle.book.specs.declared.errors.ReleaseError.TheVariants.{Unfilled, NoSuchChannel as NoChannelToRelease}
use Rattle.book.specs.declared.errors.CloseError.{CloseError}
use Rattle.book.specs.declared.errors.CloseError.TheVariants.{NoSuchChannel as NoChannelToClose}
use Rattle.book.specs.Penalties.{is_penalty_set}
use Rattle.book.specs.Books.{ChannelBook, Channels, is_closed, is_barred, is_kept, first_missing, replay}
use Rattle.channel.specs.Rights.{rights_of}
use Rattle.book.specs.Signers.{fill_refusal}

-- a reply to each of the seven calls
pub data Reply : Type 0 where
  opened : Result ℕ OpenError → Reply  -- the channel's index
  stepped : Result (List Message) StepError → Reply  -- the message to send, if there is one
  signed : Result Message SignError → Reply  -- the message to send
  revoked : Result ℕ StepError → Reply  -- the number of the revoked commitment
  kept : Result (Unit {0}) KeepError → Reply
  released : Result Filling ReleaseError → Reply
  closed : Result ℕ CloseError → Reply  -- the number of this side's newest commitment

abbrev pub is_accepted : Reply → Bool
is_accepted (opened r) = is_ok r
is_accepted (stepped r) = is_ok r
is_accepted (signed r) = is_ok r
is_accepted (revoked r) = is_ok r
is_accepted (kept r) = is_ok r
is_accepted (released r) = is_ok r
is_accepted (closed r) = is_ok r

-- the value, unless there is a refusal
abbrev pub unless : {R A E : Type 0} → (R → E) → Option R → A → Result A E
unless wrap None x = Ok x
unless wrap (Some r) x = Err (wrap r)

-- this refusal if the test holds, else a later one
abbrev pub if_so : {E : Type 0} → Bool → E → Option E → Option E
if_so true e later = Some e
if_so false e later = later

-- what the channel of an index replies, if it is there
abbrev pub asked : {A E : Type 0} → E → Option ChannelBook → (ChannelBook → Result A E) → Result A E
asked none None answer = Err none
asked none (Some ch) answer = answer ch

-- BookFull, SameFunding, BadSignature
abbrev pub open_refusal : Signing → Channels → Opening → Option OpenError
open_refusal sign cs o =
    if_so (nat_le MAX_CHANNELS (length cs)) BookFull
    (if_so (list_any (λ c. same_outpoint c.state.held.terms.funding o.terms.funding) cs) SameFunding
    (if_so (not (bytes_eq o.token
    (sign o.terms (first_of o.terms o.side (point_at o.seed 0))).commitment)) BadSignature None))

-- the channel's refusal
abbrev pub step_refusal : Signing → State → Step → Option ChannelError
step_refusal tokens_of s (Own u) = update_refusal s (update_of s u)
step_refusal tokens_of s (Peer step) = receive_refusal tokens_of s (StepMessage step)

-- ChannelClosed, else the channel's refusal
abbrev pub book_step_refusal : Signing → ChannelBook → Step → Option StepError
book_step_refusal tokens_of ch step =
    if_so (is_closed ch && is_barred step) ClosedToSteps (option_map Refused (step_refusal tokens_of ch.state step))

-- the message of one's own update, or the answer to a received message
abbrev pub messages_of : State → Step → List Message
messages_of s (Own u) = StepMessage (Updated (update_of s u)) ∷ []
messages_of s (Peer step) = answers s (StepMessage step)

abbrev pub if_missing : Option ℕ → Option SignError → Option SignError
if_missing (Some n) later = Some (PenaltiesMissing n)
if_missing None later = later

-- ChannelClosed, AwaitingRevocation, PenaltiesMissing with the lowest number, NoUpdates
abbrev pub sign_refusal : ChannelBook → Option SignError
sign_refusal ch =
    if_so (is_closed ch) ClosedToSigning
    (if_so (ch.state.awaiting || nat_le LAST_NUMBER ch.state.peer_number) AwaitingRevocation
    (if_missing (first_missing ch)
    (if_so (covers_nothing ch.state.held.own ch.state.held.theirs) NoUpdates None)))

-- NotRevoked, AlreadyKept, OtherState
abbrev pub keep_refusal : ChannelBook → ℕ → List ClaimParts → Option KeepError
keep_refusal ch n claims =
    if_so (not (nat_lt n (length ch.state.secrets))) NotRevoked
    (if_so (is_kept ch.kept n) AlreadyKept
    (if_so (not (is_penalty_set ch.state n claims)) OtherState None))

abbrev pub fill_answer : State → List ClaimParts → List Output → List (List ℕ)
    → Result Filling ReleaseError
fill_answer s claims outputs known =
    unless Unfilled (fill_refusal claims outputs (rights_of s) known)
    (record { tx = filling_of claims outputs known; places = map (λ c. c.place) claims })

-- the reply to a call, given the channels
abbrev pub answer_of : Signing → Channels → Call → Reply
answer_of sign chs (Open o) = opened (unless (λ e. e) (open_refusal sign chs o) (length chs))
answer_of sign chs (Stepping c step) = stepped (asked NoChannelToStep (slice_get chs c) (λ ch.
    unless (λ e. e) (book_step_refusal sign ch step) (messages_of ch.state step)))
answer_of sign chs (Sign c) = signed (asked NoChannelToSign (slice_get chs c) (λ ch.
    unless (λ e. e) (sign_refusal ch) (signature_message sign ch.state)))
answer_of sign chs (Revoke c revocation) = revoked (asked NoChannelToStep (slice_get chs c) (λ k.
    unless Refused (receive_refusal sign k.state (RevokeAndAck revocation)) (length k.state.secrets)))
answer_of sign chs (Keep c n claims) = kept (asked NoChannelToKeep (slice_get chs c) (λ ch.
    unless (λ e. e) (keep_refusal ch n claims) tt))
answer_of sign chs (Release c batch) = released (asked NoChannelToRelease (slice_get chs c) (λ ch.
    fill_answer ch.state batch.claims batch.outputs batch.preimages))
answer_of sign chs (Close c) = closed (asked NoChannelToClose (slice_get chs c) (λ ch. Ok ch.state.number))

-- the reply to a call after a history
abbrev pub reply_of : Signing → List Entry → Call → Reply
reply_of tokens_of history call = answer_of tokens_of (replay history) call

abbrev pub extended : Bool → List Entry → ℕ → Call → List Entry
extended true history seat call = history ++ record { seat = seat; call = call } ∷ []
extended false history seat call = history

-- the history after a seat's call: one more entry if the call is accepted
abbrev pub history_after : Signing → List Entry → ℕ → Call → List Entry
history_after tokens_of history seat call = extended (is_accepted (reply_of tokens_of history call)) history seat call
