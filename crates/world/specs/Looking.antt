-- What a side finds in the blocks that it has not read yet.
use Rattle.std.specs.Prelude.{◌≡◌, ℕ, ◌+◌, Bool, false, List, [], ◌∷◌, ◌++◌, length, map, min, max, reverse, drop, Option, Some, None, slice_get}
use Rattle.tx.specs.Fields.{Transaction}
use Rattle.resolve.specs.declared.known.Known.{Known}
use Rattle.chain.specs.Blocks.{Contents, height_of}
use Rattle.watch.specs.Watching.{Seen, is_spent, seen_up_to}
use Rattle.book.specs.declared.calls.Entry.{Entry}
use Rattle.book.specs.Books.{ChannelBook, is_kept, replay}
use Rattle.book.specs.Knowing.{IsKnownOf, preimages_in}
use Rattle.side.specs.declared.due.DueClaim.{DueClaim}
use Rattle.side.specs.declared.reading.ReadParts.{ReadParts}
use Rattle.side.specs.Due.{Finds}
use Rattle.side.specs.Reading.{Reader}
use Rattle.world.specs.Worlds.{Line, Node}

-- ---- one channel

-- what a side with this history knows of a channel, where `learnt` are the preimages that blocks showed in any channel
pub record Knows (history : List Entry) (learnt : List (List ℕ)) (c : ℕ) (known : Known) : Type 0 where
  pub ch : ChannelBook
  pub there : slice_get (replay history) c ≡ Some ch
  pub is : IsKnownOf ch.state (is_kept ch.kept) (preimages_in c history ++ learnt) known

-- a transaction that spends the channel's funding output was read before, or is one of these
abbrev pub is_closed : Option ChannelBook → Seen → List Transaction → Bool
is_closed None seen txs = false
is_closed (Some ch) seen txs = is_spent ch.state.held.terms.funding seen txs

-- a side reads a block for one channel: an open channel gives nothing
pub data ReadsChannel (history : List Entry) (learnt : List (List ℕ)) (height : ℕ) (txs : List Transaction) (c : ℕ) (older : Seen) : Seen → List DueClaim → List (List ℕ) → Type 0 where
  quiet : is_closed (slice_get (replay history) c) older txs ≡ false → ReadsChannel history learnt height txs c older older [] []
  sees : {newer : Seen} {jobs : List DueClaim} {shown : List (List ℕ)} (known : Known)
      → Knows history learnt c known → Finds known height txs c older newer jobs shown → ReadsChannel history learnt height txs c older newer jobs shown

-- ---- blocks

-- a block for all channels from number c on, with what was known before it
pub data ReadsBlock (history : List Entry) (learnt : List (List ℕ)) (height : ℕ) (txs : List Transaction) : ℕ → List Seen → List Seen → List DueClaim → List (List ℕ) → Type 0 where
  no_more : {c : ℕ} → ReadsBlock history learnt height txs c [] [] [] []
  channel : {c : ℕ} {s t : Seen} {older newer : List Seen} {jobs more_jobs : List DueClaim} {shown more_shown : List (List ℕ)}
      → ReadsChannel history learnt height txs c s t jobs shown → ReadsBlock history learnt height txs (c + 1) older newer more_jobs more_shown
      → ReadsBlock history learnt height txs c (s ∷ older) (t ∷ newer) (jobs ++ more_jobs) (shown ++ more_shown)

-- what a side has read: what was seen of each channel, the preimages that blocks showed so far, and the jobs
pub record Reading : Type 0 where
  pub seen : List Seen
  pub learnt : List (List ℕ)
  pub jobs : List DueClaim

-- after one more block
pub record IsAfter (history : List Entry) (height : ℕ) (txs : List Transaction) (r next : Reading) : Type 0 where
  pub jobs : List DueClaim
  pub shown : List (List ℕ)
  pub channels : ReadsBlock history r.learnt height txs 0 r.seen next.seen jobs shown
  pub jobs_are : next.jobs ≡ r.jobs ++ jobs
  pub learnt_is : next.learnt ≡ r.learnt ++ shown

-- blocks from a height on, in order
pub data Reads (history : List Entry) : ℕ → List Contents → Reading → Reading → Type 0 where
  all_read : {height : ℕ} {r : Reading} → Reads history height [] r r
  block : {height : ℕ} {b : Contents} {blocks : List Contents} {r next done : Reading}
      → IsAfter history height (reverse b.transactions) r next → Reads history (height + 1) blocks next done → Reads history height (b ∷ blocks) r done

-- reading the blocks above a height completes what was read up to it
abbrev pub Upward : List Entry → List Contents → ℕ → Reading → ℕ → Reading → Type 0
Upward history blocks from r at now = (done : Reading) → Reads history (at + 1) (drop (at + 1) blocks) now done → Reads history (from + 1) (drop (from + 1) blocks) r done

-- ---- a side

-- what a reader has read so far, and what it holds at the end
abbrev pub reading_in : Reader → Reading
reading_in r = record { seen = r.seen; learnt = r.learnt; jobs = r.jobs }

abbrev pub parts_read : ReadParts → Reading
parts_read p = record { seen = p.watches.items; learnt = p.learnt.items; jobs = p.due.items }

-- what a side has read before it looks
abbrev pub reading_of : Node → Reading
reading_of n = record { seen = map (λ line. line.seen) n.lines; learnt = n.learnt; jobs = [] }

-- replaces what was seen of each channel
abbrev pub with_seen : List Seen → List Line → List Line
with_seen (s ∷ seen) (line ∷ lines) = record line { seen = s } ∷ with_seen seen lines
with_seen seen lines = lines

-- a side has read this, up to a height
abbrev pub with_reading : ℕ → Reading → Node → Node
with_reading height r n = record n { lines = with_seen r.seen n.lines; read = max n.read height; learnt = r.learnt; jobs = n.jobs ++ r.jobs }

-- a side reads all blocks that it has not read yet, the oldest first, and gets k more jobs
pub record Looks (n : Node) (blocks : List Contents) (done : Node) (k : ℕ) : Type 0 where
  pub found : Reading
  pub reads : Reads n.history (n.read + 1) (drop (n.read + 1) (reverse blocks)) (reading_of n) found
  pub after : done ≡ with_reading (height_of blocks) found n
  pub count : k ≡ length found.jobs

-- a side goes back to a height: its watches discard everything seen above it; what it learnt, its jobs and the claims that it took stay
abbrev pub seen_back_to : ℕ → Line → Line
seen_back_to height line = record line { seen = seen_up_to height line.seen }

abbrev pub back_to : ℕ → Node → Node
back_to height n = record n { lines = map (seen_back_to height) n.lines; read = min n.read height }
