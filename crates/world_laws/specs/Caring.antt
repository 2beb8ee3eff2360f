-- That a side of a world takes the care that `holdings` asks of a book.
use Rattle.std.specs.Prelude.{◌≡◌, ℕ, [], ◌∷◌, Some, slice_get}
use Rattle.std.specs.List.{AllByRecursion}
use Rattle.channel.specs.Tokens.{peer_tokens}
use Rattle.safety.specs.Holdings.{EachKeepsRules}
use Rattle.book.specs.Accepted.{IsHistory}
use Rattle.book.specs.Books.{ChannelBook, replay}
use Rattle.book_laws.specs.Holdings.{holding_of}
use Rattle.book_laws.specs.Keeping.{TakesCare, IsCareful}
use Rattle.world.specs.Worlds.{Node}
use Rattle.world.specs.Sources.{IsSide}

-- What is true of a side of a world and of one of its channels, as each event keeps it (`IsWorld`): calls lead to its history, and it released what recorded commitments give it. Left to ask is that each HTLC that it offers
-- there expires above 0, and that the outputs that it pays from there keep the limits of an output
pub record IsCaring (n : Node) (c : ℕ) (ch : ChannelBook) : Type 0 where
  pub called : IsHistory peer_tokens n.history
  pub side : IsSide n
  pub there : slice_get (replay n.history) c ≡ Some ch
  pub cares : AllByRecursion (λ e. TakesCare c e.call) n.history

-- then its history takes care of the channel
abbrev pub SidesAreCareful : Type 0
SidesAreCareful = (n : Node) (c : ℕ) (ch : ChannelBook) → IsCaring n c ch → IsCareful n.history c ch

-- and the channel keeps the rules
abbrev pub SidesKeepRules : Type 0
SidesKeepRules = (n : Node) (c : ℕ) (ch : ChannelBook) → IsCaring n c ch → EachKeepsRules (holding_of n.history c ch ∷ [])
