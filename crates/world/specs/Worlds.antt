-- The world of two sides: what each side has, and the chain with its pool.
use Rattle.std.specs.Prelude.{◌≡◌, ℕ, Bool, true, false, List, [], ◌∷◌, ◌++◌, drop, length, map, Option, slice_get}
use Rattle.std.specs.List.{AllByRecursion}
use Rattle.tx.specs.Fields.{Transaction}
use Rattle.terms.specs.declared.sides.Side.{Side}
use Rattle.terms.specs.declared.sides.Side.TheVariants.{A, B}
use Rattle.claim.specs.Claims.{IsWhole}
use Rattle.channel.specs.declared.messages.Message.{Message}
use Rattle.channel.specs.Tokens.{peer_tokens}
use Rattle.chain.specs.Blocks.{Standing}
use Rattle.watch.specs.Watching.{Seen, nothing_seen}
use Rattle.book.specs.declared.calls.Call.{Call}
use Rattle.book.specs.declared.calls.Call.TheVariants.{Open}
use Rattle.book.specs.declared.calls.Entry.{Entry}
use Rattle.book.specs.Books.{ChannelBook, at_index, replay}
use Rattle.book.specs.Accepted.{AreWhole}
use Rattle.book.specs.Replies.{Reply, reply_of, history_after}
use Rattle.world.specs.declared.limits.TheConstants.{SEAT}
use Rattle.side.specs.declared.due.DueClaim.{DueClaim}

-- what a side has of a channel besides its book: the messages on their way to the side, the oldest first, and what its watch has seen
pub record Line : Type 0 where
  pub inbox : List Message
  pub seen : Seen

-- one side: the history of its book; what it has of each channel besides the book; the height of the newest block that it read; the preimages that blocks showed to
-- it; its jobs, and the claims that were taken and not released yet, the oldest first
pub record Node : Type 0 where
  pub history : List Entry
  pub lines : List Line
  pub read : ℕ
  pub learnt : List (List ℕ)
  pub jobs : List DueClaim
  pub taken : List DueClaim

-- whether a call opens no channel
abbrev pub opens_none : Call → Bool
opens_none (Open o) = false
opens_none call = true

-- what is true of each side: it has a line for each channel of its book, and its claims were accepted
pub record IsNode (n : Node) : Type 0 where
  pub lines : length n.lines ≡ length (replay n.history)
  pub claims_are_whole : AreWhole n.history
  pub jobs : AllByRecursion (λ j. IsWhole j.claim) n.jobs
  pub taken : AllByRecursion (λ j. IsWhole j.claim) n.taken

-- the two sides, the chain, the transactions that wait for a block, and all fillings that were released so far
pub record World : Type 0 where
  pub a : Node
  pub b : Node
  pub chain : Standing
  pub pool : List Transaction
  pub released : List Transaction

abbrev pub node_of : Side → World → Node
node_of A w = w.a
node_of B w = w.b

abbrev pub with_node : Side → Node → World → World
with_node A n w = record w { a = n }
with_node B n w = record w { b = n }

-- the world with another node for a side, and another for its peer
abbrev pub with_nodes : Side → Node → Node → World → World
with_nodes A n peer w = record w { a = n; b = peer }
with_nodes B n peer w = record w { a = peer; b = n }

-- the messages on their way to a side, by channel
abbrev pub inboxes : Node → List (List Message)
inboxes n = map (λ l. l.inbox) n.lines

-- a side's channel, if there is one
abbrev pub channel_of : Node → ℕ → Option ChannelBook
channel_of n c = slice_get (replay n.history) c

-- the reply of a side's book to a call, and the side after it
abbrev pub answer_to : Node → Call → Reply
answer_to n call = reply_of peer_tokens n.history call

abbrev pub after_call : Call → Node → Node
after_call call n = record n { history = history_after peer_tokens n.history SEAT call }

-- a new channel, in which nothing was sent or seen yet
abbrev pub with_line : Node → Node
with_line n = record n { lines = n.lines ++ record { inbox = []; seen = nothing_seen } ∷ [] }

-- messages are on their way to a side in a channel; and the oldest one is removed
abbrev pub sent_to : ℕ → List Message → Node → Node
sent_to c messages n = record n { lines = at_index (λ line. record line { inbox = line.inbox ++ messages }) c n.lines }

abbrev pub received_by : ℕ → Node → Node
received_by c n = record n { lines = at_index (λ line. record line { inbox = drop 1 line.inbox }) c n.lines }
