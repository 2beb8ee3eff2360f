-- A channel that this side closed stays closed, and the commitment with which it did stays its newest one (BOLT 5, "Unilateral Close Handling: Local Commitment Transaction").
use Rattle.std.specs.Prelude.{◌≡◌, ℕ, ◌==◌, Bool, true, false, ◌&&◌, List, ◌∷◌, ◌++◌, reverse, Some, Ok, slice_get}
use Rattle.std.specs.List.{list_any}
use Rattle.channel.specs.States.{Signing}
use Rattle.book.specs.declared.calls.Call.{Call}
use Rattle.book.specs.declared.calls.Call.TheVariants.{Step as Stepping, Sign, Close}
use Rattle.book.specs.declared.calls.Entry.{Entry}
use Rattle.book.specs.Books.{ChannelBook, is_barred, replay}
use Rattle.book.specs.Replies.{closed, reply_of}
use Rattle.book.specs.Accepted.{all_accepted}

-- After any history of accepted calls, the commitment with which this side closed a channel is its newest one. So its secret was not given out: the secrets given out are those of the numbers below the
-- newest.
abbrev pub ClosedStaysNewest : Type 0
ClosedStaysNewest =
    (tokens_of : Signing) (history : List Entry) (c n : ℕ) (ch : ChannelBook) → all_accepted tokens_of history ≡ true → slice_get (replay history) c ≡ Some ch
    → ch.closed ≡ Some n → n ≡ ch.state.number

-- and closing it again answers its number
abbrev pub ClosesAgain : Type 0
ClosesAgain =
    (tokens_of : Signing) (history : List Entry) (c n : ℕ) (ch : ChannelBook) → all_accepted tokens_of history ≡ true → slice_get (replay history) c ≡ Some ch
    → ch.closed ≡ Some n → reply_of tokens_of history (Close c) ≡ closed (Ok n)

-- ---- entry by entry

-- whether a call is one that a closed channel does not take: it signs there, takes a signature there, or makes an update of this side's own other than a fulfil
abbrev pub is_shut_out : ℕ → Call → Bool
is_shut_out c (Stepping d step) = d == c && is_barred step
is_shut_out c (Sign d) = d == c
is_shut_out c call = false

-- in a history of accepted calls, no entry after a close is such a call; `later` and `earlier` have the newest first
abbrev pub ClosedStaysClosed : Type 0
ClosedStaysClosed =
    (tokens_of : Signing) (history later earlier : List Entry) (c : ℕ) (closing : Entry) → all_accepted tokens_of history ≡ true
    → reverse history ≡ later ++ closing ∷ earlier → closing.call ≡ Close c → list_any (λ e. is_shut_out c e.call) later ≡ false
