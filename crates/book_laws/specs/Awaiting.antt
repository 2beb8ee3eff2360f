-- That a channel which awaits a revocation misses no penalties. So a signature that goes out again (BOLT 2, "Message Retransmission") goes out with all penalties kept, since only one that awaits its revocation does.
use Rattle.std.specs.Prelude.{◌≡◌, ℕ, true, List, Some, None, slice_get}
use Rattle.channel.specs.States.{Signing}
use Rattle.book.specs.declared.calls.Entry.{Entry}
use Rattle.book.specs.Books.{ChannelBook, first_missing, replay}
use Rattle.book.specs.Accepted.{IsHistory}

-- while a channel's last signature awaits the peer's revocation, no penalties are missing
abbrev pub AwaitsWithAllKept : ChannelBook → Type 0
AwaitsWithAllKept ch = ch.state.awaiting ≡ true → first_missing ch ≡ None

-- so it is over every history of calls, whatever the peers send
abbrev pub AwaitingMissNone : Type 0
AwaitingMissNone = (tokens_of : Signing) (history : List Entry) (c : ℕ) (ch : ChannelBook) → IsHistory tokens_of history → slice_get (replay history) c ≡ Some ch → AwaitsWithAllKept ch
