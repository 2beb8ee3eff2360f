-- What a call of a book leaves, as the entry that it is.
use Rattle.std.proofs.Common.{◌≡◌, ⊎_elim, ℕ, Bool, true, false, List, ◌∷◌, [], ◌++◌, Ok, Err, refl, sym, ap, ◌∙◌}
use Rattle.channel.specs.Tokens.{peer_tokens}
use Rattle.book.specs.declared.calls.Call.{Call}
use Rattle.book.specs.declared.calls.Entry.{Entry}
use Rattle.book.specs.Replies.{Reply, is_accepted, reply_of, history_after, extended}
use Rattle.book.specs.Calling.{no_memory_of, IsCall}
use Rattle.book.specs.Acts.{ran_out}
use Rattle.book.proofs.Answered.{out_of_memory, in_memory}
use Rattle.book_dump.specs.declared.replaying.Stop.TheVariants.{Refused}
use Rattle.book_dump.specs.Entering.{Enters}

-- a reply that does not say that memory ran out is the book's own
own : (reply : Reply) (old new : List Entry) (seat : ℕ) (call : Call) → IsCall reply old new seat call → ran_out reply ≡ false
    → (reply ≡ reply_of peer_tokens old call) × (new ≡ history_after peer_tokens old seat call)
own reply old new seat call is memory = ⊎_elim
    (λ (none_left : (reply ≡ no_memory_of call) × (new ≡ old)).
    let both : true ≡ false = sym (ap ran_out none_left.0 ∙ out_of_memory call) ∙ memory in
    absurd cc)
    (λ (it : (reply ≡ reply_of peer_tokens old call) × (new ≡ history_after peer_tokens old seat call)). it)
    is

added : (old : List Entry) (seat : ℕ) (call : Call) (b : Bool) → b ≡ true → extended b old seat call ≡ old ++ record { seat = seat; call = call } ∷ []
added old seat call true is = refl
added old seat call false is = absurd cc

pub entered : (reply : Reply) (old new : List Entry) (seat : ℕ) (call : Call) → IsCall reply old new seat call → is_accepted reply ≡ true
    → Enters (Ok tt) old new (record { seat = seat; call = call })
entered reply old new seat call is ok =
    let it = own reply old new seat call is (in_memory reply ok) in
    let taken : is_accepted (reply_of peer_tokens old call) ≡ true = sym (ap is_accepted it.0) ∙ ok in
    (taken, it.1 ∙ added old seat call (is_accepted (reply_of peer_tokens old call)) taken)

pub refused : (reply : Reply) (old new : List Entry) (seat : ℕ) (call : Call) → IsCall reply old new seat call → is_accepted reply ≡ false → ran_out reply ≡ false
    → Enters (Err Refused) old new (record { seat = seat; call = call })
refused reply old new seat call is not memory = sym (ap is_accepted (own reply old new seat call is memory).0) ∙ not
