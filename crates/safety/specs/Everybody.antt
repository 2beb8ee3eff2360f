-- One node against everybody. Its peers may send any message at any time, or none, and a block may hold any transactions; what is asked is that nobody makes a token of one of the node's keys. Then this
-- holds of each of its channels, on the chain as it stands.
use Rattle.std.specs.Prelude.{◌≡◌, ◌≢◌, ◌↔◌, ℕ, ◌+◌, Bool, true, false, List, Some, slice_get}
use Rattle.std.specs.List.{Contains, AllByRecursion, AllPairs}
use Rattle.chain.specs.Blocks.{Contents as Block, Coin, coin_at}
use Rattle.commit.specs.declared.outputs.HtlcOutput.{HtlcOutput}
use Rattle.commit.specs.Commitments.{transaction_of, htlcs_of, htlc_tx_of}
use Rattle.penalty.specs.declared.states.RevokedState.{RevokedState}
use Rattle.penalty.specs.Claimable.{Claimable, commitment_in, claimable_of}
use Rattle.penalty.specs.Worth.{staged, value_of, fees_with, IsCapacityWith}
use Rattle.channel.specs.declared.commitments.CommitmentState.{CommitmentState}
use Rattle.channel.specs.Tokens.{contents_of}
use Rattle.safety.specs.Whereabouts.{IsOnChain}
use Rattle.safety.specs.Places.{IsPeersClaim}
use Rattle.safety.specs.Holdings.{Holding, terms_in}
use Rattle.safety.specs.Breaks.{Breaks}
use Rattle.safety.specs.Closers.{IsCloser, IsFunded, IsWatched}
use Rattle.safety.specs.Passing.{IsReady}
use Rattle.safety.specs.Resolutions.{Resolution, IsSlept, AreResolved, IsPaidOrLate}

-- what holds of the outputs of a commitment of the peer's, and of what its HTLC transactions make of them
pub record PeersHold (hs : List Holding) (blocks : List Block) (h : Holding) (k : CommitmentState) : Type 0 where
  -- what a revoked one lets the node claim: a penalty on each output, or on that of its HTLC transaction
  pub penalties : AreResolved hs blocks (contents_of (terms_in h) k)
  -- what one that is not revoked lets it claim: to_remote, and each HTLC
  pub claims : (o : Claimable) → IsPeersClaim (contents_of (terms_in h) k) o → Resolution Breaks hs blocks (IsPaidOrLate false (contents_of (terms_in h) k) o) o

-- How a channel stands on a chain. Its funding output is unspent, and the node's newest commitment passes the next block. Or a commitment closed it, and by `WhoCloses` nothing else takes the funding output. If
-- that is the peer's, this holds of its outputs
pub data ChannelStands (hs : List Holding) (blocks : List Block) (h : Holding) : Type 0 where
  unclosed : (coin : Coin) → coin_at blocks (terms_in h).funding ≡ Some coin → coin.spent ≡ false → IsReady blocks h → ChannelStands hs blocks h
  closed : (k : CommitmentState) → IsCloser h k → IsOnChain blocks (transaction_of (contents_of (terms_in h) k))
      → ((n : ℕ) → slice_get h.state.signed n ≡ Some k → PeersHold hs blocks h k) → ChannelStands hs blocks h
  broken : Breaks hs blocks → ChannelStands hs blocks h

abbrev pub EachChannelStands : Type 0
EachChannelStands =
    (hs : List Holding) (blocks : List Block) → IsWatched hs blocks
    → (h : Holding) → Contains hs h → IsFunded blocks (terms_in h) → ChannelStands hs blocks h

-- ---- the whole capacity

-- A revoked commitment against everybody: for each of its outputs there is one on the chain that the node can claim. No two of them are at one outpoint, and together they are worth the capacity, less fees, dust
-- and what was rounded off. Each is unspent, or the node took it, or the owner did after the delay
pub record IsAllThere (hs : List Holding) (blocks : List Block) (state : RevokedState) : Type 0 where
  pub stands : ℕ → Bool
  pub those : (x : HtlcOutput) → Contains (htlcs_of (commitment_in state)) x → (stands x.index ≡ true) ↔ IsOnChain blocks (htlc_tx_of (commitment_in state) x)
  pub claimable : AllByRecursion (Contains (claimable_of state)) (staged stands (commitment_in state))
  pub apart : AllPairs (λ o p. o.place.outpoint ≢ p.place.outpoint) (staged stands (commitment_in state))
  pub worth : IsCapacityWith state (value_of (staged stands (commitment_in state)) + fees_with stands (commitment_in state))
  pub each : (o : Claimable) → Contains (staged stands (commitment_in state)) o → Resolution Breaks hs blocks (IsSlept (commitment_in state) o) o

abbrev pub RevokedAgainstEverybody : Type 0
RevokedAgainstEverybody =
    (hs : List Holding) (blocks : List Block) → IsWatched hs blocks
    → (h : Holding) → Contains hs h → (n : ℕ) (k : CommitmentState) → slice_get h.state.signed n ≡ Some k
    → (state : RevokedState) → commitment_in state ≡ contents_of (terms_in h) k → IsOnChain blocks (transaction_of (commitment_in state))
    → IsAllThere hs blocks state
