-- How far a watcher has read, and how it goes on.
use Rattle.std.specs.Prelude.{◌≡◌, ℕ, ◌+◌, ◌<◌, ◌^◌, ◌-◌, min, nat_lt, if◌then◌else◌, false, List, [], ◌∷◌, length, map, replicate, reverse, slice_get, All, Option, Some, None}
use Rattle.tx.specs.declared.input.OutPoint.{OutPoint}
use Rattle.tx.specs.Fields.{Transaction}
use Rattle.chain.specs.Blocks.{Contents as Block}
use Rattle.resolve.specs.declared.known.Known.{Known}
use Rattle.watch.specs.Watching.{nothing_seen, seen_up_to}
use Rattle.book.specs.Books.{replay}
use Rattle.book.specs.Knowing.{IsKnownIn}
use Rattle.side.specs.Reading.{Reader, begun as begun_with, numbers_to_ask, with_answer, IsRead}
use Rattle.desk.specs.Histories.{History, GoesOn}
use Rattle.node.specs.declared.pools.Pool.{Pool}
use Rattle.node.specs.Forks.{least_since}
use Rattle.running.specs.declared.watching.Follower.{Follower}
use Rattle.running.specs.declared.watching.Sight.{Sight}
use Rattle.running.specs.declared.watching.Sight.TheVariants.{Read, Asks, Back}

-- it follows this number of channels
abbrev pub IsFollower : ℕ → Follower → Type 0
IsFollower channels f = length f.reader.seen ≡ channels

-- it goes on following them, and asks of some of them alone
abbrev pub IsSight : ℕ → Sight → Type 0
IsSight channels (Read f) = IsFollower channels f
IsSight channels (Asks f asked) = IsFollower channels f × All (λ c. c < length f.reader.seen) asked.items
IsSight channels (Back f fork round) = IsFollower channels f

-- it follows these funding outputs from the first block on, and has seen nothing yet
pub record HasBegun (fundings : List OutPoint) (f : Follower) : Type 0 where
  pub reader : f.reader ≡ begun_with fundings (replicate (length fundings) nothing_seen) []
  pub round : f.round ≡ 0
  pub height : f.height ≡ 0
  pub goes_on : f.is_done ≡ false

-- ---- the next block

-- the channels of which more has to be known before a block with these transactions is read
abbrev pub asked_for : Follower → List Transaction → List ℕ
asked_for f txs = numbers_to_ask 0 f.reader.fundings f.reader.seen f.reader.knowns txs

-- nothing has to be asked, and the block is read
pub record ReadsOn (height : ℕ) (txs : List Transaction) (f next : Follower) : Type 0 where
  pub nothing : asked_for f txs ≡ []
  pub read : IsRead height txs f.reader next.reader
  pub round : next.round ≡ f.round
  pub height_is : next.height ≡ height
  pub goes_on : next.is_done ≡ false

-- a block of this height and with these transactions is read, or just the channels are named of which more has to be known
abbrev pub IsNext : ℕ → List Transaction → Follower → Sight → Type 0
IsNext height txs f (Read next) = ReadsOn height txs f next
IsNext height txs f (Asks same asked) = (same ≡ f) × (asked.items ≡ asked_for f txs)
IsNext height txs f (Back same fork round) = ⊥

-- the height after this one, within 64 bits
abbrev pub height_after : ℕ → ℕ
height_after height = min (height + 1) (2 ^ 64 - 1)

-- the block of a chain at a height, if it is there and not above the top, the height that was told
abbrev pub told_block : Pool → ℕ → ℕ → Option Block
told_block pool top height = if nat_lt top height then None else slice_get (reverse pool.chain.blocks) height

-- the block that a follower reads next
abbrev pub block_after : Pool → ℕ → Follower → Option Block
block_after pool top f = told_block pool top (height_after f.height)

-- What a follower finds on a chain up to the top: blocks that it read were replaced, so that it goes back to the lowest fork since; or there is no further block; or there is one.
pub data Finds (pool : Pool) (top : ℕ) (f : Follower) : Sight → Type 0 where
  replaced : (f.round ≡ length pool.forks.items → ⊥) → Finds pool top f (Back f (least_since f.round f.height pool.forks.items) (length pool.forks.items))
  no_more : f.round ≡ length pool.forks.items → block_after pool top f ≡ None → Finds pool top f (Read f)
  is_there : (block : Block) (sight : Sight) → f.round ≡ length pool.forks.items → block_after pool top f ≡ Some block → IsNext (height_after f.height) (reverse block.transactions) f sight → Finds pool top f sight

-- the same on some chain: nothing is known of a chain that threads share
abbrev pub FindsSome : ℕ → Follower → Sight → Type 0
FindsSome top f sight = (pool : Pool) × Finds pool top f sight

-- ---- what is asked

-- a reader gets an answer for each of these channels, in order: what is known of it in the side's history, which goes on from one answer to the next
pub data AreAnswered : History → History → List ℕ → Reader → Reader → Type 0 where
  none_left : (history : History) (r : Reader) → AreAnswered history history [] r r
  answered : (before history after : History) (c : ℕ) (cs : List ℕ) (known : Known) (r next : Reader) → GoesOn before history → IsKnownIn history c (slice_get (replay history) c) known
      → AreAnswered history after cs (with_answer c known r) next → AreAnswered before after (c ∷ cs) r next

-- one answer
pub record IsAnsweredFor (before after : History) (c : ℕ) (r next : Reader) : Type 0 where
  pub known : Known
  pub since : GoesOn before after
  pub is : IsKnownIn after c (slice_get (replay after) c) known
  pub next_is : next ≡ with_answer c known r

-- ---- what is given

-- a reader goes on with what was seen up to a height, with no answers and no claims
abbrev pub IsRenewed : List OutPoint → ℕ → Reader → Reader → Type 0
IsRenewed fundings height r next = next ≡ begun_with fundings (map (seen_up_to height) r.seen) r.learnt

-- a follower goes back to this height, after this number of reorganisations
pub record GoesBack (fundings : List OutPoint) (height round : ℕ) (f next : Follower) : Type 0 where
  pub reader : IsRenewed fundings height f.reader next.reader
  pub round_is : next.round ≡ round
  pub height_is : next.height ≡ height

-- what it read stays, and it has these answers more
pub record HasAsked (before after : History) (cs : List ℕ) (f next : Follower) : Type 0 where
  pub answers : AreAnswered before after cs f.reader next.reader
  pub round_is : next.round ≡ f.round
  pub height_is : next.height ≡ f.height
  pub goes_on : next.is_done ≡ f.is_done

-- it goes back, and reads on from there
pub record ReadsAgain (fundings : List OutPoint) (height round : ℕ) (f next : Follower) : Type 0 where
  pub back : GoesBack fundings height round f next
  pub goes_on : next.is_done ≡ false

-- What a follower does at what it found.
abbrev pub Follows : List OutPoint → History → History → Sight → Follower → Type 0
Follows fundings before after (Read f) next = next ≡ f
Follows fundings before after (Asks f asked) next = HasAsked before after asked.items f next
Follows fundings before after (Back f fork round) next = ReadsAgain fundings fork round f next

-- it found something on some chain up to the top, and did what follows
pub record GoesOnReading (fundings : List OutPoint) (before after : History) (top : ℕ) (f next : Follower) : Type 0 where
  pub sight : Sight
  pub found : FindsSome top f sight
  pub follows : Follows fundings before after sight next
