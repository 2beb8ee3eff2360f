-- The gate asks for all penalties before it signs, and a channel that awaits a revocation takes only that one, after which it awaits none.
use Rattle.std.proofs.Common.{◌≡◌, ℕ, true, true≢false, List, [], ◌∷◌, length, reverse, Some, None, sym, ◌∙◌, arith}
use Rattle.std.specs.Prelude.{slice_get}
use Rattle.std.specs.List.{AllByRecursion}
use Rattle.std.proofs.lemmas.Bool.{and_parts}
use Rattle.claim.specs.Claims.{ClaimParts}
use Rattle.updates.specs.declared.messages.PeerStep.TheVariants.{Update as Updated, CommitmentSigned}
use Rattle.channel.specs.declared.messages.Message.TheVariants.{RevokeAndAck}
use Rattle.channel.specs.States.{Signing, after, after_sign}
use Rattle.book.specs.declared.calls.Step.{Step}
use Rattle.book.specs.declared.calls.Step.TheVariants.{Own, Peer}
use Rattle.book.specs.declared.calls.Call.{Call}
use Rattle.book.specs.declared.calls.Call.TheVariants.{Open, Step as Stepping, Sign, Revoke, Keep, Release, Close}
use Rattle.book.specs.declared.calls.Entry.{Entry}
use Rattle.book.specs.Books.{ChannelBook, Channels, stepped, opened_by, with_state, with_kept, with_closed, channels_after, replayed, replay}
use Rattle.book.specs.Replies.{is_accepted, answer_of, keep_refusal}
use Rattle.book.specs.Accepted.{is_taken, are_accepted, AcceptedMeans}
use Rattle.book.proofs.Accepting.{asked_ok, unless_ok, keeps, none_missing}
use Rattle.book.proofs.Missing.{all_kept}
use Rattle.book.proofs.KeptReleases.{all_changed, all_grown, all_at}
use Rattle.book.proofs.KeptSets.{all_set, at_found}
use Rattle.book_laws.specs.Awaiting.{AwaitsWithAllKept, AwaitingMissNone}

step_awaits : (step : Step) (ch : ChannelBook) → AwaitsWithAllKept ch → AwaitsWithAllKept (with_state (stepped step) ch)
step_awaits (Own u) ch h = h
step_awaits (Peer (Updated u)) ch h = h
step_awaits (Peer (CommitmentSigned tokens)) ch h = h

-- where all is kept, nothing more is
keep_awaits : (ch : ChannelBook) (n : ℕ) (claims : List ClaimParts) → keep_refusal ch n claims ≡ None → AwaitsWithAllKept ch → AwaitsWithAllKept (with_kept n ch)
keep_awaits ch n claims none h e =
    let keeping = keeps ch n claims none in
    absurd (true≢false (sym (all_kept ch.kept 0 (length ch.state.secrets) (h e) n (omega arith) (omega (arith, keeping.0))) ∙ keeping.1))

call_awaits : (tokens_of : Signing) (call : Call) (chs : Channels) → AllByRecursion AwaitsWithAllKept chs → is_accepted (answer_of tokens_of chs call) ≡ true → AllByRecursion AwaitsWithAllKept (channels_after call chs)
call_awaits tokens_of (Open o) chs h ok = all_grown AwaitsWithAllKept (opened_by o) chs h (λ e. absurd (true≢false (sym e)))
call_awaits tokens_of (Stepping c step) chs h ok = all_changed AwaitsWithAllKept (with_state (stepped step)) (step_awaits step) c chs h
call_awaits tokens_of (Sign c) chs h ok =
    let found = asked_ok _ (slice_get chs c) _ ok in
    all_set AwaitsWithAllKept (with_state after_sign) c chs h
    (at_found (λ x. AwaitsWithAllKept (with_state after_sign x)) (slice_get chs c) found.0 found.1 (λ e. none_missing found.0 (unless_ok _ _ _ found.2)))
call_awaits tokens_of (Revoke c revocation) chs h ok =
    all_changed AwaitsWithAllKept (with_state (λ s. after s (RevokeAndAck revocation))) (λ ch k e. absurd (true≢false (sym e))) c chs h
call_awaits tokens_of (Keep c n claims) chs h ok =
    let found = asked_ok _ (slice_get chs c) _ ok in
    let awaited = all_at AwaitsWithAllKept chs c found.0 h found.1 in
    all_set AwaitsWithAllKept (with_kept n) c chs h
    (at_found (λ x. AwaitsWithAllKept (with_kept n x)) (slice_get chs c) found.0 found.1 (keep_awaits found.0 n claims (unless_ok _ _ _ found.2) awaited))
call_awaits tokens_of (Release c batch) chs h ok = h
call_awaits tokens_of (Close c) chs h ok = all_changed AwaitsWithAllKept with_closed (λ ch k. k) c chs h

all_await : (tokens_of : Signing) (es : List Entry) → are_accepted tokens_of es ≡ true → AllByRecursion AwaitsWithAllKept (replayed es)
all_await tokens_of [] ok = tt
all_await tokens_of (e ∷ es) ok =
    let parts = and_parts (is_taken tokens_of es e) (are_accepted tokens_of es) ok in
    call_awaits tokens_of e.call (replayed es) (all_await tokens_of es parts.1) parts.0

pub awaiting_miss_none : AcceptedMeans → AwaitingMissNone
awaiting_miss_none law tokens_of history c ch called there =
    all_at AwaitsWithAllKept (replay history) c ch (all_await tokens_of (reverse history) ((law.accepted_exactly tokens_of history).0 called)) there
