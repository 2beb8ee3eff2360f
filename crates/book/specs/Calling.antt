-- What a call of a book may return, and which history it leaves.
use Rattle.std.specs.Str.{bytes_eq}
use Rattle.std.specs.Prelude.{◌≡◌, ◌⊎◌, ℕ, ◌||◌, not, nat_le, List, [], map, Option, Some, None, Result, Ok, Err}
use Rattle.std.specs.List.{cons_option}
use Rattle.channel.specs.declared.messages.Message.{Message}
use Rattle.channel.specs.Tokens.{peer_tokens}
use Rattle.channel.specs.declared.limits.TheConstants.{LAST_NUMBER}
use Rattle.channel.specs.Points.{point_at}
use Rattle.channel.specs.States.{first_of}
use Rattle.filling.specs.Filling.{filling_of}
use Rattle.filling.specs.Filled.{Filling}
use Rattle.filling.specs.declared.errors.FillError.{FillError}
use Rattle.filling.specs.declared.errors.FillError.TheVariants.{NoMemory as fill_memory}
use Rattle.book.specs.declared.calls.Batch.{Batch}
use Rattle.book.specs.declared.calls.Opening.{Opening}
use Rattle.book.specs.declared.errors.OpenError.{OpenError}
use Rattle.book.specs.declared.errors.OpenError.TheVariants.{BadSignature, NoMemory as out_of_memory}
use Rattle.book.specs.declared.calls.Call.{Call}
use Rattle.book.specs.declared.calls.Call.TheVariants.{Open, Step, Sign, Revoke, Keep, Release, Close}
use Rattle.book.specs.declared.calls.Entry.{Entry}
use Rattle.book.specs.declared.releasing.FilledTwice.{FilledTwice}
use Rattle.book.specs.declared.errors.ReleaseError.{ReleaseError}
use Rattle.book.specs.declared.errors.ReleaseError.TheVariants.{Unfilled}
use Rattle.book.specs.declared.errors.CloseError.TheVariants.{NoMemory as close_memory}
use Rattle.book.specs.declared.errors.KeepError.{KeepError}
use Rattle.book.specs.declared.errors.KeepError.TheVariants.{NoMemory as keep_memory}
use Rattle.book.specs.declared.errors.SignError.{SignError}
use Rattle.book.specs.declared.errors.SignError.TheVariants.{NoMemory, AwaitingRevocation, ChannelClosed}
use Rattle.book.specs.Books.{ChannelBook, is_closed, first_missing}
use Rattle.updates.specs.declared.errors.ChannelError.TheVariants.{NoMemory as refusal_memory}
use Rattle.book.specs.declared.errors.StepError.{StepError}
use Rattle.book.specs.declared.errors.StepError.TheVariants.{Refused}
use Rattle.book.specs.Replies.{Reply, opened, stepped, signed, revoked, kept, released, closed, reply_of, history_after, if_so, if_missing}

-- the reply that memory ran out
abbrev pub no_memory_of : Call → Reply
no_memory_of (Open o) = opened (Err out_of_memory)
no_memory_of (Step c step) = stepped (Err (Refused refusal_memory))
no_memory_of (Sign c) = signed (Err NoMemory)
no_memory_of (Revoke c revocation) = revoked (Err (Refused refusal_memory))
no_memory_of (Keep c n claims) = kept (Err keep_memory)
no_memory_of (Release c batch) = released (Err (Unfilled fill_memory))
no_memory_of (Close c) = closed (Err close_memory)

-- either memory ran out and the history is as before, or reply and history are those of the definitions
abbrev pub IsCall : Reply → List Entry → List Entry → ℕ → Call → Type 0
IsCall reply old new seat call =
    ((reply ≡ no_memory_of call) × (new ≡ old)) ⊎ ((reply ≡ reply_of peer_tokens old call) × (new ≡ history_after peer_tokens old seat call))

-- a refusal of a step is the first that applies, or memory ran out
abbrev pub IsStepRefusal : Option StepError → StepError → Type 0
IsStepRefusal first (Refused refusal_memory) = Unit {0}
IsStepRefusal first e = first ≡ Some e

-- a refusal to sign is the first that applies, or memory ran out
abbrev pub IsSignRefusal : Option SignError → SignError → Type 0
IsSignRefusal first NoMemory = Unit {0}
IsSignRefusal first e = first ≡ Some e

-- why a channel does not sign, apart from a lack of updates
abbrev pub early_sign_refusal : ChannelBook → Option SignError
early_sign_refusal ch =
    if_so (is_closed ch) ChannelClosed
    (if_so (ch.state.awaiting || nat_le LAST_NUMBER ch.state.peer_number) AwaitingRevocation (if_missing (first_missing ch) None))

-- the reply to a step, with one message or none
abbrev pub step_reply : Result (Option Message) StepError → Reply
step_reply (Ok m) = stepped (Ok (cons_option m []))
step_reply (Err e) = stepped (Err e)

-- a refusal to open is the first that applies, or memory ran out
abbrev pub IsOpenRefusal : Option OpenError → OpenError → Type 0
IsOpenRefusal first out_of_memory = Unit {0}
IsOpenRefusal first e = first ≡ Some e

-- BadSignature, if the token is not the peer's on this side's commitment 0
abbrev pub token_refusal : Opening → Option OpenError
token_refusal o = if_so (not (bytes_eq o.token (peer_tokens o.terms (first_of o.terms o.side (point_at o.seed 0))).commitment)) BadSignature None

-- a refusal to keep is the first that applies, or memory ran out
abbrev pub IsKeepRefusal : Option KeepError → KeepError → Type 0
IsKeepRefusal first keep_memory = Unit {0}
IsKeepRefusal first e = first ≡ Some e

-- a refusal to release is the first that applies, or memory ran out
abbrev pub IsFillRefusal : Option FillError → FillError → Type 0
IsFillRefusal first fill_memory = Unit {0}
IsFillRefusal first e = first ≡ Some e

-- the transaction of a batch, with the places that it spends
abbrev pub filling_by : Batch → Filling
filling_by b =
    record { tx = filling_of b.claims b.outputs b.preimages; places = map (λ c. c.place) b.claims }

-- what was filled, without the copy of the transaction, or the refusal
abbrev pub filled_once : Result FilledTwice ReleaseError → Result Filling ReleaseError
filled_once (Ok twice) = Ok twice.filled
filled_once (Err e) = Err e
