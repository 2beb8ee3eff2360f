-- What a channel's thread does for one of its two sides.
use Rattle.std.specs.Prelude.{◌≡◌, ℕ, ◌==◌, ◌⊎◌, Bool, false, if◌then◌else◌, List, [], ◌∷◌, ◌++◌, drop, Option, Some, None, Ok, Err, option_map, slice_get}
use Rattle.channel.specs.declared.messages.Message.{Message}
use Rattle.channel.specs.Tokens.{peer_tokens}
use Rattle.book.specs.declared.calls.Step.TheVariants.{Own}
use Rattle.book.specs.declared.calls.Call.{Call}
use Rattle.book.specs.declared.calls.Call.TheVariants.{Step as Stepping, Sign as Signing, Close as Closing}
use Rattle.book.specs.Replies.{Reply, opened, stepped, signed, revoked, kept, released, closed, is_accepted, reply_of, history_after}
use Rattle.terms.specs.declared.sides.Side.{Side}
use Rattle.terms.specs.declared.sides.Side.TheVariants as sides
use Rattle.scenario.specs.declared.events.Event.{Event}
use Rattle.scenario.specs.declared.events.Event.TheVariants as events
use Rattle.jobs.specs.declared.rule.Hand.{Hand}
use Rattle.jobs.specs.Steps.{IsPut}
use Rattle.jobs.specs.Ends.{hand_of}
use Rattle.desk.specs.declared.desk.Seat.{Seat}
use Rattle.desk.specs.Histories.{History}
use Rattle.desk.specs.Seats.{number_in, calls_in, last_in}
use Rattle.desk.specs.Answers.{IsAnswered, IsHistoryFor, calls_after}
use Rattle.node.specs.declared.work.Job.{Job}
use Rattle.node.specs.declared.work.Job.TheVariants.{Keep, Claims}
use Rattle.side.specs.declared.due.DueClaim.{DueClaim}
use Rattle.book.specs.Acts.{call_of, messages_in}
use Rattle.running.specs.declared.endpoints.Endpoint.{Endpoint}
use Rattle.running.specs.declared.channel_thread.ChannelThread.{ChannelThread}
use Rattle.running.specs.declared.channel_thread.Turn.{Turn}
use Rattle.running.specs.declared.counts.Counts.{Counts}

-- ---- jobs

-- a pass put the job and no other one, or the job was dropped
abbrev pub IsPutOrDropped : Job → Hand Job → Hand Job → Type 0
IsPutOrDropped job v w = IsPut v job w ⊎ (w ≡ v)

-- the same of a job that there may be
abbrev pub PutsIf : Option Job → Hand Job → Hand Job → Type 0
PutsIf None v w = w ≡ v
PutsIf (Some job) v w = IsPutOrDropped job v w

-- a job of these claims
abbrev pub IsJobOf : List DueClaim → Job → Type 0
IsJobOf due (Keep channel number) = ⊥
IsJobOf due (Claims jobs) = jobs.items ≡ due

-- claims are put as one job, if there are any
abbrev pub PutsClaims : List DueClaim → Hand Job → Hand Job → Type 0
PutsClaims [] v w = w ≡ v
PutsClaims (d ∷ ds) v w = (job : Job) × IsJobOf (d ∷ ds) job × IsPutOrDropped job v w

-- the number of the commitment that the peer revoked
abbrev pub revoked_in : Reply → Option ℕ
revoked_in (revoked (Ok number)) = Some number
revoked_in reply = None

-- the job of such a reply: to keep the penalties of that commitment
abbrev pub job_for : ℕ → Reply → Option Job
job_for channel reply = option_map (Keep channel) (revoked_in reply)

-- ---- calls

-- a seat made a call, and got this reply: the book's own, or that memory ran out
abbrev pub IsReply : Call → Seat → Seat → Reply → Type 0
IsReply call before after reply = IsAnswered (number_in before) (calls_in before) (last_in before) call reply (calls_in after) (last_in after)

-- the book's own reply, at the end of a history that goes on from the one that the seat last saw; the seat keeps its number, and its calls and the history are those after it
pub record IsOwnReply (call : Call) (before after : Seat) (reply : Reply) : Type 0 where
  pub history : History
  pub number : number_in after ≡ number_in before
  pub found : IsHistoryFor (number_in before) (calls_in before) (last_in before) history
  pub reply_is : reply ≡ reply_of peer_tokens history call
  pub calls : calls_in after ≡ calls_after (calls_in before) history (number_in before) call
  pub last : last_in after ≡ history_after peer_tokens history (number_in before) call

-- and whether it is an acceptance, whose message goes into the peer's inbox
pub record IsSent (call : Call) (before after : Seat) (inbox newer : List Message) (done : Bool) : Type 0 where
  pub reply : Reply
  pub answered : IsOwnReply call before after reply
  pub done_is : done ≡ is_accepted reply
  pub sent : newer ≡ inbox ++ messages_in reply

-- the same of the call that takes the oldest message, which leaves the inbox if it was accepted; if that revoked a commitment of the peer, its job is put
pub record IsReceived (channel : ℕ) (call : Call) (before after : Endpoint) (inbox newer : List Message) (done : Bool) : Type 0 where
  pub reply : Reply
  pub answered : IsOwnReply call before.seat after.seat reply
  pub done_is : done ≡ is_accepted reply
  pub sent : newer ≡ inbox ++ messages_in reply
  pub left : after.inbox.items ≡ (if done then drop 1 before.inbox.items else before.inbox.items)
  pub jobs : PutsIf (job_for channel reply) (hand_of before.pass) (hand_of after.pass)

-- nothing was done
pub record IsIdle (before after : Endpoint) (inbox newer : List Message) (done : Bool) : Type 0 where
  pub same : after ≡ before
  pub sent : newer ≡ inbox
  pub done_is : done ≡ false

-- a call that takes no message
pub record IsMade (call : Call) (before after : Endpoint) (inbox newer : List Message) (done : Bool) : Type 0 where
  pub sent : IsSent call before.seat after.seat inbox newer done
  pub left : after.inbox ≡ before.inbox
  pub jobs : hand_of after.pass ≡ hand_of before.pass

-- the oldest message was taken, if there is one
abbrev pub IsDelivered : ℕ → Option Message → Endpoint → Endpoint → List Message → List Message → Bool → Type 0
IsDelivered channel None before after inbox newer done = IsIdle before after inbox newer done
IsDelivered channel (Some message) before after inbox newer done = IsReceived channel (call_of channel message) before after inbox newer done

-- What a side does in a channel on an event. `done` says whether its call was accepted.
abbrev pub IsActed : ℕ → Event → Endpoint → Endpoint → List Message → List Message → Bool → Type 0
IsActed channel (events.Own s c update) before after inbox newer done = IsMade (Stepping channel (Own update)) before after inbox newer done
IsActed channel (events.Sign s c) before after inbox newer done = IsMade (Signing channel) before after inbox newer done
IsActed channel (events.Deliver s c) before after inbox newer done = IsDelivered channel (slice_get before.inbox.items 0) before after inbox newer done
IsActed channel (events.Close s c) before after inbox newer done = IsMade (Closing channel) before after inbox newer done
IsActed channel event before after inbox newer done = IsIdle before after inbox newer done

-- ---- the events of a channel

-- one side does what an event asks for, and of the other side nothing but its inbox changes
pub record HasTurned (channel : ℕ) (event : Event) (me after_me peer after_peer : Endpoint) (done : Bool) : Type 0 where
  pub acted : IsActed channel event me after_me peer.inbox.items after_peer.inbox.items done
  pub seat : after_peer.seat ≡ peer.seat
  pub jobs : hand_of after_peer.pass ≡ hand_of peer.pass

abbrev pub IsTurnOf : Side → Event → ChannelThread → ChannelThread → Bool → Type 0
IsTurnOf sides.A event before after done = HasTurned before.channel event before.a after.a before.b after.b done
IsTurnOf sides.B event before after done = HasTurned before.channel event before.b after.b before.a after.a done

-- nothing was counted
abbrev pub no_counts : Counts
no_counts = record { played = 0; refused = 0 }

-- an event's turn was played, or refused; nothing was done if it is none of the channel's
abbrev pub Plays : Option Turn → Event → ChannelThread → ChannelThread → Counts → Type 0
Plays None event before after counts = (after ≡ before) × (counts ≡ no_counts)
Plays (Some turn) event before after counts = (done : Bool) × IsTurnOf turn.side event before after done × (counts ≡ (if done then record { played = 1; refused = 0 } else record { played = 0; refused = 1 }))
