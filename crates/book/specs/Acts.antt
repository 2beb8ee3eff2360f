-- Messages between peers, as calls of a book take and answer them.
use Rattle.std.specs.Prelude.{ℕ, ◌==◌, Bool, false, List, [], ◌∷◌, Ok, Err}
use Rattle.channel.specs.declared.messages.Message.{Message}
use Rattle.channel.specs.declared.messages.Message.TheVariants.{Step as StepMessage, RevokeAndAck}
use Rattle.book.specs.declared.calls.Call.{Call}
use Rattle.book.specs.declared.calls.Call.TheVariants as calls
use Rattle.book.specs.declared.calls.Step.TheVariants.{Peer}
use Rattle.book.specs.Refusals.{open_error_number, step_error_number, sign_error_number, keep_error_number, release_error_number, close_error_number}
use Rattle.book.specs.Replies.{Reply, opened, stepped, signed, revoked, kept, released, closed}

-- the call by which a book takes a message
abbrev pub call_of : ℕ → Message → Call
call_of c (StepMessage step) = calls.Step c (Peer step)
call_of c (RevokeAndAck revocation) = calls.Revoke c revocation

-- the messages in a book's reply
abbrev pub messages_in : Reply → List Message
messages_in (stepped (Ok messages)) = messages
messages_in (signed (Ok message)) = message ∷ []
messages_in reply = []

-- whether a reply says that memory ran out
abbrev pub ran_out : Reply → Bool
ran_out (opened (Err e)) = open_error_number e == 0
ran_out (stepped (Err e)) = step_error_number e == 0
ran_out (signed (Err e)) = sign_error_number e == 0
ran_out (revoked (Err e)) = step_error_number e == 0
ran_out (kept (Err e)) = keep_error_number e == 0
ran_out (released (Err e)) = release_error_number e == 0
ran_out (closed (Err e)) = close_error_number e == 0
ran_out reply = false
