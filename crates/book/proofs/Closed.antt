-- What is closed stays closed.
use Rattle.std.proofs.Common.{◌≡◌, ℕ, zero, suc, ◌==◌, ◌&&◌, ◌||◌, Bool, true, false, true≢false, List, [], ◌∷◌, ◌++◌, length, reverse, Option, Some, None, option_map, is_some, Ok, refl, sym, ap, ◌∙◌, subst}
use Rattle.std.specs.Prelude.{slice_get}
use Rattle.std.specs.List.{AllByRecursion, list_any}
use Rattle.std.proofs.lemmas.Bool.{eqb-true, and_parts}
use Rattle.std.proofs.lemmas.Option.{none-some, same_Some}
use Rattle.channel.specs.States.{Signing, State, after, after_sign}
use Rattle.updates.specs.declared.messages.PeerStep.TheVariants.{Update as Updated, CommitmentSigned}
use Rattle.channel.specs.declared.messages.Message.TheVariants.{RevokeAndAck}
use Rattle.book.specs.declared.calls.Step.{Step}
use Rattle.book.specs.declared.calls.Step.TheVariants.{Own, Peer}
use Rattle.book.specs.declared.calls.Call.{Call}
use Rattle.book.specs.declared.calls.Call.TheVariants.{Open, Step as Stepping, Sign, Revoke, Keep, Release, Close}
use Rattle.book.specs.declared.calls.Entry.{Entry}
use Rattle.book.specs.Books.{ChannelBook, Channels, at_index, stepped, opened_by, with_state, with_kept, with_closed, is_closed, is_barred, channels_after, replayed, replay}
use Rattle.book.specs.Replies.{closed, is_accepted, answer_of, reply_of, book_step_refusal, sign_refusal}
use Rattle.book.specs.Accepted.{is_taken, are_accepted, all_accepted}
use Rattle.book.specs.Closing.{ClosedStaysNewest, ClosesAgain, is_shut_out, ClosedStaysClosed}
use Rattle.book.proofs.Lists.{at_here, unseen}
use Rattle.book.proofs.Accepting.{asked_ok, unless_ok, passed}
use Rattle.book.proofs.KeptReleases.{all_changed, all_grown, all_at}
use Rattle.book.proofs.KeptSets.{all_set, at_found}

-- ---- the commitment with which a channel was closed stays the newest

abbrev IsNewest : ChannelBook → Type 0
IsNewest ch = (n : ℕ) → ch.closed ≡ Some n → n ≡ ch.state.number

step_stays : (tokens_of : Signing) (step : Step) (ch : ChannelBook) → book_step_refusal tokens_of ch step ≡ None → IsNewest ch → IsNewest (with_state (stepped step) ch)
step_stays tokens_of (Own u) ch none h = h
step_stays tokens_of (Peer (Updated u)) ch none h = h
step_stays tokens_of (Peer (CommitmentSigned tokens)) ch none h = λ n e. absurd (true≢false (sym (ap (λ b. b && true) (ap is_some e)) ∙ (passed _ _ _ none).0))

call_stays : (tokens_of : Signing) (call : Call) (chs : Channels) → AllByRecursion IsNewest chs → is_accepted (answer_of tokens_of chs call) ≡ true → AllByRecursion IsNewest (channels_after call chs)
call_stays tokens_of (Open o) chs h ok = all_grown IsNewest (opened_by o) chs h (λ n e. absurd (none-some n e))
call_stays tokens_of (Stepping c step) chs h ok =
    let found = asked_ok _ (slice_get chs c) _ ok in
    let newest = all_at IsNewest chs c found.0 h found.1 in
    all_set IsNewest (with_state (stepped step)) c chs h
    (at_found (λ x. IsNewest (with_state (stepped step) x)) (slice_get chs c) found.0 found.1 (step_stays tokens_of step found.0 (unless_ok _ _ _ found.2) newest))
call_stays tokens_of (Sign c) chs h ok = all_changed IsNewest (with_state after_sign) (λ ch k. k) c chs h
call_stays tokens_of (Revoke c revocation) chs h ok = all_changed IsNewest (with_state (λ s. after s (RevokeAndAck revocation))) (λ ch k. k) c chs h
call_stays tokens_of (Keep c n claims) chs h ok = all_changed IsNewest (with_kept n) (λ ch k. k) c chs h
call_stays tokens_of (Release c batch) chs h ok = h
call_stays tokens_of (Close c) chs h ok = all_changed IsNewest with_closed (λ ch k n e. sym (same_Some ch.state.number n e)) c chs h

all_newest : (tokens_of : Signing) (es : List Entry) → are_accepted tokens_of es ≡ true → AllByRecursion IsNewest (replayed es)
all_newest tokens_of [] ok = tt
all_newest tokens_of (e ∷ es) ok =
    let parts = and_parts (is_taken tokens_of es e) (are_accepted tokens_of es) ok in
    call_stays tokens_of e.call (replayed es) (all_newest tokens_of es parts.1) parts.0

pub closed_stays_newest : ClosedStaysNewest
closed_stays_newest tokens_of history c n ch ok there e = all_at IsNewest (replay history) c ch (all_newest tokens_of (reverse history) ok) there n e

pub closes_again : ClosesAgain
closes_again tokens_of history c n ch ok there e = rw there (ap (λ m. closed (Ok m)) (sym (closed_stays_newest tokens_of history c n ch ok there e)))

-- ---- a closed channel stays closed

-- the channel at an index is there and closed
abbrev IsShut : ℕ → Channels → Type 0
IsShut c chs = option_map is_closed (slice_get chs c) ≡ Some true

still_there : (x : ChannelBook) (c : ℕ) (chs : Channels) → IsShut c chs → IsShut c (chs ++ x ∷ [])
still_there x c [] h = absurd (none-some true h)
still_there x zero (y ∷ ys) h = h
still_there x (suc c) (y ∷ ys) h = still_there x c ys h

still_closed : (d c : ℕ) (chs : Channels) → IsShut c chs → IsShut c (at_index with_closed d chs)
still_closed d c [] h = h
still_closed zero zero (x ∷ xs) h = refl
still_closed zero (suc c) (x ∷ xs) h = h
still_closed (suc d) zero (x ∷ xs) h = h
still_closed (suc d) (suc c) (x ∷ xs) h = still_closed d c xs h

still_shut : (call : Call) (c : ℕ) (chs : Channels) → IsShut c chs → IsShut c (channels_after call chs)
still_shut (Open o) c chs h = still_there (opened_by o) c chs h
still_shut (Stepping d step) c chs h = unseen is_closed (with_state (stepped step)) (λ ch. refl) d c chs ∙ h
still_shut (Sign d) c chs h = unseen is_closed (with_state after_sign) (λ ch. refl) d c chs ∙ h
still_shut (Revoke d revocation) c chs h = unseen is_closed (with_state (λ s. after s (RevokeAndAck revocation))) (λ ch. refl) d c chs ∙ h
still_shut (Keep d n claims) c chs h = unseen is_closed (with_kept n) (λ ch. refl) d c chs ∙ h
still_shut (Release d batch) c chs h = h
still_shut (Close d) c chs h = still_closed d c chs h

shut_by : (tokens_of : Signing) (c : ℕ) (call : Call) (chs : Channels) → call ≡ Close c → is_accepted (answer_of tokens_of chs call) ≡ true → IsShut c (channels_after call chs)
shut_by tokens_of c call chs e ok =
    let found = asked_ok _ (slice_get chs c) _ (subst (λ x. is_accepted (answer_of tokens_of chs x) ≡ true) e ok) in
    subst (λ x. IsShut c (channels_after x chs)) (sym e) (ap (option_map is_closed) (at_here with_closed c chs) ∙ rw found.1 refl)

shut_since : (tokens_of : Signing) (c : ℕ) (later earlier : List Entry) (closing : Entry) → closing.call ≡ Close c → are_accepted tokens_of (later ++ closing ∷ earlier) ≡ true
    → IsShut c (replayed (later ++ closing ∷ earlier))
shut_since tokens_of c [] earlier closing e ok = shut_by tokens_of c closing.call (replayed earlier) e (and_parts _ _ ok).0
shut_since tokens_of c (x ∷ xs) earlier closing e ok = still_shut x.call c (replayed (xs ++ closing ∷ earlier)) (shut_since tokens_of c xs earlier closing e (and_parts _ _ ok).1)

-- the channel that was found is closed
is_shut : (c d : ℕ) (chs : Channels) (ch : ChannelBook) → (d == c) ≡ true → slice_get chs d ≡ Some ch → IsShut c chs → is_closed ch ≡ true
is_shut c d chs ch same found shut =
    let there : slice_get chs c ≡ Some ch = ap (slice_get chs) (sym (eqb-true d c same)) ∙ found in
    same_Some (is_closed ch) true (sym (ap (option_map is_closed) there) ∙ shut)

not_taken : (tokens_of : Signing) (c : ℕ) (call : Call) (chs : Channels) → IsShut c chs → is_accepted (answer_of tokens_of chs call) ≡ true → is_shut_out c call ≡ false
not_taken tokens_of c (Open o) chs shut ok = refl
not_taken tokens_of c (Stepping d step) chs shut ok = by (d == c) refl
  where
    by : (here : Bool) → (d == c) ≡ here → (here && is_barred step) ≡ false
    by false e = refl
    by true e =
        let found = asked_ok _ (slice_get chs d) _ ok in
        let open_or_lawful = (passed _ _ _ (unless_ok _ _ _ found.2)).0 in
        ap (λ b. b && is_barred step) (sym (is_shut c d chs found.0 e found.1 shut)) ∙ open_or_lawful
not_taken tokens_of c (Sign d) chs shut ok = by (d == c) refl
  where
    by : (here : Bool) → (d == c) ≡ here → here ≡ false
    by false e = refl
    by true e =
        let found = asked_ok _ (slice_get chs d) _ ok in
        absurd (true≢false (sym (is_shut c d chs found.0 e found.1 shut) ∙ (passed _ _ _ (unless_ok _ _ _ found.2)).0))
not_taken tokens_of c (Revoke d revocation) chs shut ok = refl
not_taken tokens_of c (Keep d n claims) chs shut ok = refl
not_taken tokens_of c (Release d batch) chs shut ok = refl
not_taken tokens_of c (Close d) chs shut ok = refl

none_taken : (tokens_of : Signing) (c : ℕ) (later earlier : List Entry) (closing : Entry) → closing.call ≡ Close c → are_accepted tokens_of (later ++ closing ∷ earlier) ≡ true
    → list_any (λ e. is_shut_out c e.call) later ≡ false
none_taken tokens_of c [] earlier closing e ok = refl
none_taken tokens_of c (x ∷ xs) earlier closing e ok =
    let parts = and_parts (is_taken tokens_of (xs ++ closing ∷ earlier) x) (are_accepted tokens_of (xs ++ closing ∷ earlier)) ok in
    let one = not_taken tokens_of c x.call (replayed (xs ++ closing ∷ earlier)) (shut_since tokens_of c xs earlier closing e parts.1) parts.0 in
    rw (one, none_taken tokens_of c xs earlier closing e parts.1) refl

pub closed_stays_closed : ClosedStaysClosed
closed_stays_closed tokens_of history later earlier c closing ok split e = none_taken tokens_of c later earlier closing e (ap (are_accepted tokens_of) (sym split) ∙ ok)
