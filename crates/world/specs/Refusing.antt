-- Why an event is refused, and what it leaves.
use Rattle.std.specs.Prelude.{◌≡◌, ℕ, nat_le, List, [], ◌∷◌, length, Option, Some, None, Result, Ok, Err}
use Rattle.std.specs.List.{cons_option}
use Rattle.std.specs.Option.{option_map_or}
use Rattle.channel.specs.declared.messages.Message.{Message}
use Rattle.updates.specs.declared.errors.ChannelError.TheVariants.{NoMemory as refusal_memory}
use Rattle.filling.specs.declared.errors.FillError.TheVariants.{NoMemory as fill_memory}
use Rattle.mempool.specs.declared.errors.ReorgError.{ReorgError}
use Rattle.mempool.specs.declared.errors.ReorgError.TheVariants.{NoMemory as reorg_memory, TooDeep as reorg_depth, NoSuchTx as reorg_txs}
use Rattle.book.specs.declared.calls.Call.{Call}
use Rattle.book.specs.declared.errors.StepError.{StepError}
use Rattle.book.specs.declared.errors.StepError.TheVariants.{Refused, NoSuchChannel as NoChannelToStep, ChannelClosed as ClosedToSteps}
use Rattle.book.specs.declared.errors.SignError.{SignError}
use Rattle.book.specs.declared.errors.SignError.TheVariants.{NoMemory as sign_memory, NoSuchChannel as NoChannelToSign, ChannelClosed as ClosedToSigning}
use Rattle.book.specs.declared.errors.KeepError.{KeepError}
use Rattle.book.specs.declared.errors.KeepError.TheVariants.{NoMemory as keep_memory, NoSuchChannel as NoChannelToKeep}
use Rattle.book.specs.declared.errors.ReleaseError.{ReleaseError}
use Rattle.book.specs.declared.errors.ReleaseError.TheVariants.{Unfilled, NoSuchChannel as NoChannelToRelease}
use Rattle.book.specs.declared.errors.CloseError.{CloseError}
use Rattle.book.specs.declared.errors.CloseError.TheVariants.{NoMemory as close_memory, NoSuchChannel as NoChannelToClose}
use Rattle.book.specs.Replies.{Reply, if_so, stepped, signed, revoked, kept, released, closed}
use Rattle.side.specs.declared.batches.BatchError.{BatchError}
use Rattle.side.specs.declared.batches.BatchError.TheVariants.{MixedChannels as mixed_channels, OverValue as over_value}
use Rattle.book.specs.Acts.{call_of, messages_in}
use Rattle.world.specs.declared.errors.EventError.{EventError}
use Rattle.world.specs.declared.errors.EventError.TheVariants.{NoMemory, NoSuchChannel, NoMessage, NoSuchTx, MixedChannels, OverValue, TooDeep, Channel, Sign, Keep, Fill, ChannelClosed}
use Rattle.world.specs.Worlds.{Line, Node, answer_to, after_call, sent_to, received_by}

-- ---- refusals

-- the refusals of a book, as errors of an event
abbrev pub by_step : StepError → EventError
by_step (Refused refusal_memory) = NoMemory
by_step (Refused refusal) = Channel refusal
by_step NoChannelToStep = NoSuchChannel
by_step ClosedToSteps = ChannelClosed

abbrev pub by_sign : SignError → EventError
by_sign sign_memory = NoMemory
by_sign NoChannelToSign = NoSuchChannel
by_sign ClosedToSigning = ChannelClosed
by_sign error = Sign error

abbrev pub by_keep : KeepError → EventError
by_keep keep_memory = NoMemory
by_keep NoChannelToKeep = NoSuchChannel
by_keep error = Keep error

abbrev pub by_release : ReleaseError → EventError
by_release (Unfilled fill_memory) = NoMemory
by_release (Unfilled refusal) = Fill refusal
by_release NoChannelToRelease = NoSuchChannel

abbrev pub by_close : CloseError → EventError
by_close close_memory = NoMemory
by_close NoChannelToClose = NoSuchChannel

-- the refusal to release claims together
abbrev pub by_batch : BatchError → EventError
by_batch mixed_channels = MixedChannels
by_batch over_value = OverValue

-- the refusals of a reorganisation
abbrev pub by_reorg : ReorgError → EventError
by_reorg reorg_memory = NoMemory
by_reorg reorg_depth = TooDeep
by_reorg reorg_txs = NoSuchTx

-- the refusal in a book's reply
abbrev pub refusal_in : Reply → Option EventError
refusal_in (stepped (Err e)) = Some (by_step e)
refusal_in (signed (Err e)) = Some (by_sign e)
refusal_in (revoked (Err e)) = Some (by_step e)
refusal_in (kept (Err e)) = Some (by_keep e)
refusal_in (released (Err e)) = Some (by_release e)
refusal_in (closed (Err e)) = Some (by_close e)
refusal_in reply = None

-- a refusal is the first that applies, or memory ran out
abbrev pub IsRefusal : Option EventError → EventError → Type 0
IsRefusal first NoMemory = Unit {0}
IsRefusal first e = first ≡ Some e

-- an event with this first refusal: it leaves `done` if there is none, and changes nothing if it is refused
abbrev pub IsEvent : {A S : Type 0} → Option EventError → Result A EventError → S → S → S → Type 0
IsEvent first (Ok x) old done new = (first ≡ None) × (new ≡ done)
IsEvent first (Err e) old done new = IsRefusal first e × (new ≡ old)

-- ---- messages

-- why a side does not make a call in a channel whose message goes to the peer, and the messages to the peer after it
abbrev pub sending_refusal : ℕ → Call → Node → Node → Option EventError
sending_refusal c call me peer =
    if_so (nat_le (length peer.lines) c) NoSuchChannel (refusal_in (answer_to me call))

abbrev pub sent_by : ℕ → Call → Node → Node → Node
sent_by c call me peer = sent_to c (messages_in (answer_to me call)) peer

-- the oldest message on its way: NoMessage if there is none
abbrev pub oldest_of : List Message → Result Message EventError
oldest_of [] = Err NoMessage
oldest_of (m ∷ ms) = Ok m

abbrev pub oldest_in : Option Line → Result Message EventError
oldest_in o = option_map_or (λ line. oldest_of line.inbox) o (Err NoSuchChannel)

-- why a message is not delivered to a side, the side after a delivery, and its peer
abbrev pub delivery_refusal : ℕ → Result Message EventError → Node → Node → Option EventError
delivery_refusal c (Err e) me peer = Some e
delivery_refusal c (Ok m) me peer = sending_refusal c (call_of c m) me peer

abbrev pub delivered : ℕ → Result Message EventError → Node → Node
delivered c (Err e) me = me
delivered c (Ok m) me = received_by c (after_call (call_of c m) me)

abbrev pub answered : ℕ → Result Message EventError → Node → Node → Node
answered c (Err e) me peer = peer
answered c (Ok m) me peer = sent_by c (call_of c m) me peer

-- ---- the parts of an event

-- the message that a side's book gives to send, in a call of an event
abbrev pub IsAnswered : Call → Result (Option Message) EventError → Node → Node → Type 0
IsAnswered call (Ok m) old new = (refusal_in (answer_to old call) ≡ None) × (messages_in (answer_to old call) ≡ cons_option m []) × (new ≡ after_call call old)
IsAnswered call (Err e) old new = IsRefusal (refusal_in (answer_to old call)) e × (new ≡ old)
