-- What a call of a seat leaves, by its reply.
use Rattle.std.proofs.Common.{◌≡◌, ℕ, ◌⊎◌, ⊎_elim, Bool, true, false, List, [], ◌++◌, None, Result, Ok, Err, refl, sym, ap, ◌∙◌, subst}
use Rattle.std.specs.declared.alloc.AllocError.{AllocError}
use Rattle.std.specs.Prelude.{IfOk, OnOk}
use Rattle.channel.specs.declared.messages.Message.{Message}
use Rattle.channel.specs.Tokens.{peer_tokens}
use Rattle.book.specs.declared.calls.Entry.{Entry}
use Rattle.book.specs.declared.calls.Call.{Call}
use Rattle.book.specs.Replies.{Reply, opened, stepped, signed, revoked, kept, released, closed, is_accepted, reply_of, extended, history_after}
use Rattle.book.specs.Calling.{no_memory_of}
use Rattle.book.proofs.Answered.{out_of_memory}
use Rattle.desk.specs.declared.desk.Seat.{Seat}
use Rattle.desk.specs.Histories.{History, GoesOn}
use Rattle.desk.specs.Seats.{number_in, calls_in, last_in}
use Rattle.desk.specs.Answers.{IsAnswered, calls_after}
use Rattle.desk.proofs.Parts.{goes_on_more}
use Rattle.book.specs.Acts.{messages_in, ran_out}
use Rattle.running.specs.Acting.{IsReply, IsOwnReply, IsSent, revoked_in}

-- ---- a refused reply

pub silent : (r : Reply) → is_accepted r ≡ false → messages_in r ≡ []
silent (opened r) is = refl
silent (stepped (Ok m)) is = absurd cc
silent (stepped (Err e)) is = refl
silent (signed (Ok m)) is = absurd cc
silent (signed (Err e)) is = refl
silent (revoked r) is = refl
silent (kept r) is = refl
silent (released r) is = refl
silent (closed r) is = refl

pub unrevoked : (r : Reply) → is_accepted r ≡ false → revoked_in r ≡ None
unrevoked (opened r) is = refl
unrevoked (stepped r) is = refl
unrevoked (signed r) is = refl
unrevoked (revoked (Ok n)) is = absurd cc
unrevoked (revoked (Err e)) is = refl
unrevoked (kept r) is = refl
unrevoked (released r) is = refl
unrevoked (closed r) is = refl

-- ---- calls that were refused before

-- a call's reply, where the history went on meanwhile and the seat's own calls did not
since_then : (number : ℕ) (calls : List Entry) (first seen : History) (call : Call) (reply : Reply) (after : List Entry) (last : History)
    → GoesOn first seen → IsAnswered number calls seen call reply after last → IsAnswered number calls first call reply after last
since_then number calls first seen call reply after last on is =
    (is.0, record { accepted = is.1.accepted; guarded = is.1.guarded; mine = is.1.mine; since = goes_on_more first seen is.0 on is.1.since }, is.2)

pub replied_since : (call : Call) (r s t : Seat) (reply : Reply) → number_in s ≡ number_in r → calls_in s ≡ calls_in r → GoesOn (last_in r) (last_in s)
    → IsReply call s t reply → IsReply call r t reply
replied_since call r s t reply number calls on is =
    since_then (number_in r) (calls_in r) (last_in r) (last_in s) call reply (calls_in t) (last_in t) on
    (subst (λ (n : ℕ). IsAnswered n (calls_in r) (last_in s) call reply (calls_in t) (last_in t)) number
    (subst (λ (c : List Entry). IsAnswered (number_in s) c (last_in s) call reply (calls_in t) (last_in t)) calls is))

unchanged : (h : History) (n : ℕ) (call : Call) (b : Bool) → b ≡ false → extended b h n call ≡ h
unchanged h n call true is = absurd cc
unchanged h n call false is = refl

-- after a refusal a seat has its calls, and the history went on
pub record IsRefused (before after : Seat) : Type 0 where
  pub calls : calls_in after ≡ calls_in before
  pub since : GoesOn (last_in before) (last_in after)

pub refused : (call : Call) (s t : Seat) (reply : Reply) → IsReply call s t reply → is_accepted reply ≡ false → IsRefused s t
refused call s t reply is refusal = ⊎_elim
    (λ (same : (reply ≡ no_memory_of call) × (calls_in t ≡ calls_in s) × (last_in t ≡ is.0)).
    record { calls = same.1; since = subst (λ (h : History). GoesOn (last_in s) h) (sym same.2) is.1.since })
    (λ (it : (reply ≡ reply_of peer_tokens is.0 call) × (calls_in t ≡ calls_after (calls_in s) is.0 (number_in s) call) × (last_in t ≡ history_after peer_tokens is.0 (number_in s) call)).
    let not : is_accepted (reply_of peer_tokens is.0 call) ≡ false = sym (ap is_accepted it.0) ∙ refusal in
    record {
      calls = it.1 ∙ unchanged (calls_in s) (number_in s) call (is_accepted (reply_of peer_tokens is.0 call)) not;
      since = subst (λ (h : History). GoesOn (last_in s) h) (sym (it.2 ∙ unchanged is.0 (number_in s) call (is_accepted (reply_of peer_tokens is.0 call)) not)) is.1.since;
    })
    is.2

-- ---- a reply of the book itself

-- a reply that does not say that memory ran out is the book's own
pub own_reply : (call : Call) (s t : Seat) (reply : Reply) → number_in t ≡ number_in s → IsReply call s t reply → ran_out reply ≡ false → IsOwnReply call s t reply
own_reply call s t reply number is own = ⊎_elim
    (λ (none_left : (reply ≡ no_memory_of call) × (calls_in t ≡ calls_in s) × (last_in t ≡ is.0)).
    let both : true ≡ false = sym (ap ran_out none_left.0 ∙ out_of_memory call) ∙ own in
    absurd cc)
    (λ (it : (reply ≡ reply_of peer_tokens is.0 call) × (calls_in t ≡ calls_after (calls_in s) is.0 (number_in s) call) × (last_in t ≡ history_after peer_tokens is.0 (number_in s) call)).
    record { history = is.0; number = number; found = is.1; reply_is = it.0; calls = it.1; last = it.2 })
    is.2

-- ---- what is sent

pub is_sent : (call : Call) (s t : Seat) (inbox newer : List Message) (reply : Reply) (r : Result Bool AllocError) → number_in t ≡ number_in s → IsReply call s t reply → IfOk r (λ _. ran_out reply ≡ false)
    → IfOk r (λ done. done ≡ is_accepted reply) → OnOk r (newer ≡ inbox ++ messages_in reply) → IfOk r (IsSent call s t inbox newer)
is_sent call s t inbox newer reply (Ok done) number answered own done_is sent = record { reply = reply; answered = own_reply call s t reply number answered own; done_is = done_is; sent = sent }
is_sent call s t inbox newer reply (Err e) number answered own done_is sent = done_is
