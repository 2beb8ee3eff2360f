-- What a history of a book's calls leaves of a channel, as `safety` sees it.
use Rattle.std.specs.Prelude.{ℕ, ◌==◌, if◌then◌else◌, List, Option, Some, None}
use Rattle.std.specs.List.{Contains, filter_map}
use Rattle.safety.specs.Holdings.{Release, Holding}
use Rattle.book.specs.declared.calls.Batch.{Batch}
use Rattle.book.specs.declared.calls.Call.{Call}
use Rattle.book.specs.declared.calls.Call.TheVariants.{Release as Releasing}
use Rattle.book.specs.declared.calls.Entry.{Entry}
use Rattle.book.specs.Books.{ChannelBook}

-- what a call releases in a channel
abbrev pub release_by : ℕ → Call → Option Release
release_by c (Releasing d batch) = if d == c then Some (record { claims = batch.claims; outputs = batch.outputs }) else None
release_by c call = None

-- all that these entries release in a channel, in order
abbrev pub releases_in : ℕ → List Entry → List Release
releases_in c entries = filter_map (λ e. release_by c e.call) entries

-- the holding of a channel of a book: its state, all that the history released in it, and the number of the own commitment with which it was closed, if it was
abbrev pub holding_of : List Entry → ℕ → ChannelBook → Holding
holding_of history c ch = record { state = ch.state; releases = releases_in c history; closed = ch.closed }

-- no release of the history in a channel is left out of its holding
abbrev pub HoldingsAreComplete : Type 0
HoldingsAreComplete = (history : List Entry) (seat c : ℕ) (batch : Batch) → Contains history (record { seat = seat; call = Releasing c batch }) → Contains (releases_in c history) (record { claims = batch.claims; outputs = batch.outputs })
