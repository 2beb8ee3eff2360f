-- The Enforcement theorem: what holds at every moment of every run of the world of two sides, for all events. Read this file first, then `Steps.antt` for what an event is, and
-- `safety/specs/Enforcement.antt` for what 'due' and 'passes' mean.
--
-- Over every interleaving of channel steps, blocks, reorganisations, broadcasts, closes, looks and releases, two things hold. First, take any filling of an accepted claim whose output is unspent, and
-- whose height and age are reached. It passes the chain's test of its input and runs to one true value, within 201 counted opcodes and 1,000 elements. No operand is missing, no check fails, and no
-- branch stays open. Second, after a received revocation no commitment is signed until verified penalties for every claimable output are kept. Besides, what is kept is exactly what can be claimed,
-- what was released fits its claims, and the two sides agree. The commitment with which a side closed a channel stays its newest, and is never revoked. Whatever stands on the chain, and whoever makes
-- the next block, nobody else takes what a revoked commitment lets a side claim, except in the ways of `IsTaker` and of `Fate`.
use Rattle.std.specs.Prelude.{◌≡◌, ◌⊎◌, ◌≤◌, ℕ, true, List, ◌∷◌, ◌++◌, length, map, Contains, Some, slice_get}
use Rattle.std.specs.List.{AllByRecursion, flat_map}
use Rattle.tx.specs.declared.input.TxIn.{TxIn}
use Rattle.tx.specs.Fields.{Transaction}
use Rattle.terms.specs.declared.sides.Side.{Side}
use Rattle.terms.specs.declared.sides.Side.TheVariants.{A}
use Rattle.terms.specs.Sides.{other}
use Rattle.claim.specs.Claims.{ClaimParts, IsWhole}
use Rattle.chain.specs.Blocks.{Contents as Block}
use Rattle.chain.specs.Checked.{is_checked}
use Rattle.penalty.specs.declared.states.RevokedState.{RevokedState}
use Rattle.channel.specs.declared.messages.Message.{Message}
use Rattle.channel.specs.Tokens.{peer_tokens}
use Rattle.scenario.specs.declared.events.Event.{Event}
use Rattle.scenario.specs.declared.events.Event.TheVariants.{Close}
use Rattle.safety.specs.Fates.{NothingEscapesAbove}
use Rattle.filling.specs.Filled.{AllFit}
use Rattle.book.specs.declared.calls.Batch.{Batch}
use Rattle.book.specs.declared.calls.Call.TheVariants.{Keep, Release}
use Rattle.book.specs.Books.{ChannelBook, replay}
use Rattle.book.specs.Accepted.{all_accepted, claims_by, IsHistory}
use Rattle.book.specs.Guarding.{is_guarded, ArePenaltiesIn}
use Rattle.book.specs.Replies.{is_accepted}
use Rattle.book.specs.Calling.{filling_by}
use Rattle.world.specs.declared.errors.EventError.{EventError}
use Rattle.world.specs.declared.errors.EventError.TheVariants.{NoSuchChannel, NoMessage, ChannelClosed}
use Rattle.world.specs.declared.outcomes.Outcome.{Outcome}
use Rattle.world.specs.Worlds.{World, Node, IsNode, node_of, channel_of, inboxes, answer_to}
use Rattle.book.specs.Acts.{call_of}
use Rattle.world.specs.Pairing.{AgreeBy, AreEnds, IsShutOut}
use Rattle.world.specs.Releasing.{AreFillings}
use Rattle.world.specs.Sources.{IsSide, IsFrom, transactions_in}
use Rattle.world.specs.Taken.{OutputsAreTaken}
use Rattle.safety.specs.Enforcement.{IsDue, Passes}
use Rattle.world.specs.Steps.{receipt_refusal, refusal_of, WorldSteps, Runs}

-- the claims of a side: those that its book kept and released, its jobs, and the claims that it took
abbrev pub claims_of : Node → List ClaimParts
claims_of n = flat_map (λ e. claims_by e.call) n.history ++ map (λ j. j.claim) (n.jobs ++ n.taken)

-- the oldest message on its way to a side in a channel is a signature, and the side closed the channel
pub record ShutsOut (n : Node) (c : ℕ) : Type 0 where
  pub m : Message
  pub rest : List Message
  pub oldest : slice_get (inboxes n) c ≡ Some (m ∷ rest)
  pub shut : IsShutOut (channel_of n c) m

-- this holds at each moment
pub record HoldsAt (w : World) : Type 0 where
  -- each call in both books was accepted after those before it, and no signature follows a revocation in its channel without the penalties kept between the two. (`GuardedMeans` of
  -- `book/specs/Guarding.antt` says so entry by entry.) What is kept is exactly the accepted claims on all that the revoked commitment lets the side claim
  pub accepted : (s : Side) → all_accepted peer_tokens (node_of s w).history ≡ true
  pub guarded : (s : Side) → is_guarded (node_of s w).history ≡ true
  pub kept : (s : Side) (seat c n : ℕ) (claims : List ClaimParts)
      → Contains (node_of s w).history (record { seat = seat; call = Keep c n claims })
      → ArePenaltiesIn c n (replay (node_of s w).history) claims
  -- each claim of a side is an accepted one
  pub claims : (s : Side) → AllByRecursion IsWhole (claims_of (node_of s w))
  -- an input that fits an accepted claim passes the chain's test for the next block and runs clean, once it is due
  pub opens : (x : ClaimParts) (t : Transaction) (input : TxIn) → IsWhole x
      → (due : IsDue w.chain.blocks (length w.chain.blocks) x t input)
      → Passes w.chain.blocks (length w.chain.blocks) x t input due
  -- each transaction that was released is the filling of a release in a side's history, and each input of such a filling fits its claim
  pub released : AreFillings w.a.history w.b.history w.released
  pub fits : (s : Side) (seat c : ℕ) (batch : Batch)
      → Contains (node_of s w).history (record { seat = seat; call = Release c batch })
      → AllFit (filling_by batch).tx batch.claims (filling_by batch).tx.inputs
  -- whoever makes the next block, and whatever it has before: an input in it that takes an output which a revoked commitment lets its owner's peer claim has one of the fates of `Fate`, as far as the
  -- peer's tokens in it are over what the peer signed
  pub others : (before : Block) (r : RevokedState)
      → NothingEscapesAbove (before ∷ w.chain.blocks) (length w.chain.blocks) r
  -- in a channel whose two seeds differ, each transaction on the chain that takes an output which a revoked commitment lets a side claim is a filling of the side's. Or it is the HTLC's own
  -- transaction, or, on to_local's form alone, a filling of the owner's after the delay. Or named strings collide
  pub taken : OutputsAreTaken w
  -- the two sides have as many channels, and hold the two ends of each
  pub as_many : length (replay w.a.history) ≡ length (replay w.b.history)
  pub agree : (c : ℕ) (x y : ChannelBook) → channel_of w.a c ≡ Some x → channel_of w.b c ≡ Some y
      → AreEnds x.state y.state
  -- a side can close each of its channels: barring out-of-memory, a close is refused only without a channel
  pub closes : (s : Side) (c : ℕ) (r : EventError) → refusal_of w (Close s c) ≡ Some r → r ≡ NoSuchChannel
  -- the commitment with which a side closed a channel is its newest at each later moment, and its peer has received no secret that revokes it
  pub closed : (s : Side) (c n : ℕ) (x y : ChannelBook) → channel_of (node_of s w) c ≡ Some x
      → channel_of (node_of (other s) w) c ≡ Some y → x.closed ≡ Some n
      → (n ≡ x.state.number) × (length y.state.secrets ≤ n)
  -- a side's book takes the oldest message on its way to it, except a signature in a channel that the side closed. So, barring out-of-memory, a delivery is refused only without a channel or a message,
  -- or for that
  pub takes : (s : Side) (c : ℕ) (m : Message) (rest : List Message)
      → slice_get (inboxes (node_of s w)) c ≡ Some (m ∷ rest)
      → (is_accepted (answer_to (node_of s w) (call_of c m)) ≡ true) ⊎ IsShutOut (channel_of (node_of s w) c) m
  pub delivers : (s : Side) (c : ℕ) (r : EventError) → receipt_refusal s c w ≡ Some r
      → (r ≡ NoSuchChannel) ⊎ ((r ≡ NoMessage) ⊎ ((r ≡ ChannelClosed) × ShutsOut (node_of s w) c))

-- what `play` did: a run of the events, at each moment of which all of this holds
pub record IsPlay (w : World) (es : List Event) (os : List Outcome) (end : World) : Type 0 where
  pub moments : List World
  pub runs : Runs w es os moments end
  pub holds : AllByRecursion HoldsAt moments

-- ---- why it holds

-- What each event keeps. The histories are those of calls. The books hold the two ends of the same channels, with the messages on their way. What was released is of these histories. Each side's
-- claims are on what its recorded commitments let it claim. Each transaction on the chain, in the pool and among those released comes from a side. The chain's transactions passed its tests
pub record IsWorld (w : World) : Type 0 where
  pub a : IsNode w.a
  pub b : IsNode w.b
  pub a_called : IsHistory peer_tokens w.a.history
  pub b_called : IsHistory peer_tokens w.b.history
  pub agree : AgreeBy A w.a.history w.b.history (inboxes w.a) (inboxes w.b)
  pub released : AreFillings w.a.history w.b.history w.released
  pub a_side : IsSide w.a
  pub b_side : IsSide w.b
  pub sources : AllByRecursion (IsFrom w) (transactions_in w)
  pub tested : is_checked w.chain.blocks ≡ true

abbrev pub StepsKeep : Type 0
StepsKeep = (w v : World) (e : Event) (o : Outcome) → IsWorld w → WorldSteps w e v o → IsNode v.a → IsNode v.b → is_checked v.chain.blocks ≡ true → IsWorld v

abbrev pub WorldsHold : Type 0
WorldsHold = (w : World) → IsWorld w → HoldsAt w
