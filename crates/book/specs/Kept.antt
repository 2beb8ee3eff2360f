-- What a book keeps beside its history.
use Rattle.std.specs.Prelude.{◌≡◌, ℕ, ◌<◌, ◌≤◌, Bool, true, false, List, length, map, Some, slice_get}
use Rattle.tx.specs.declared.input.OutPoint.{OutPoint}
use Rattle.channel.specs.Tokens.{peer_tokens}
use Rattle.book.specs.declared.calls.Entry.{Entry}
use Rattle.book.specs.Books.{ChannelBook, Channels, is_kept, replay}
use Rattle.book.specs.Accepted.{all_accepted, AreWhole}

-- by number, a flag says whether the number is kept, and no number past
-- the flags is; all numbers below `below` are kept, and `below` is not
pub record AreFlags (kept : List ℕ) (flags : List Bool) (below : ℕ) : Type 0 where
  pub each : (n : ℕ) → n < length flags → slice_get flags n ≡ Some (is_kept kept n)
  pub later : (n : ℕ) → length flags ≤ n → is_kept kept n ≡ false
  pub before : (n : ℕ) → n < below → is_kept kept n ≡ true
  pub here : is_kept kept below ≡ false

-- each revoked commitment of the peer has a flag
pub record IsBeside (ch : ChannelBook) (flags : List Bool) (below : ℕ) : Type 0 where
  pub count : length flags ≡ length ch.state.secrets
  pub are : AreFlags ch.kept flags below

-- the channels by their funding outputs, in the order in which they were opened
abbrev pub by_funding : Channels → List (OutPoint × ChannelBook)
by_funding chs = map (λ ch. (ch.state.held.terms.funding, ch)) chs

-- the channels are those that a history of accepted calls and whole claims leaves, each by its funding output
pub record AreLeft (history : List Entry) (channels : List (OutPoint × ChannelBook)) : Type 0 where
  pub accepted : all_accepted peer_tokens history ≡ true
  pub whole : AreWhole history
  pub left : channels ≡ by_funding (replay history)
