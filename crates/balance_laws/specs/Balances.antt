-- What a node has of a channel, whatever peers and blocks do (BOLT 5, "Unilateral Close Handling: Remote Commitment Transaction", "Revoked Transaction Close Handling").
use Rattle.std.specs.Prelude.{◌≡◌, ◌↔◌, ◌<◌, ◌≤◌, ℕ, ◌+◌, Bool, true, false, List, Some, None, slice_get}
use Rattle.std.specs.List.{Contains}
use Rattle.chain.specs.Blocks.{Contents as Block, Coin, coin_at}
use Rattle.terms.specs.declared.htlcs.Htlc.{Htlc}
use Rattle.commit.specs.declared.outputs.HtlcOutput.{HtlcOutput}
use Rattle.commit.specs.Commitments.{transaction_of, htlcs_of, htlc_tx_of}
use Rattle.channel.specs.declared.commitments.CommitmentState.{CommitmentState}
use Rattle.channel.specs.Tokens.{contents_of}
use Rattle.worth_laws.specs.Shares.{counted_msat, deductions, IsLess}
use Rattle.worth_laws.specs.Least.{MayClose, own_sat, at_least_sat}
use Rattle.safety.specs.Whereabouts.{IsOnChain}
use Rattle.safety.specs.Holdings.{Holding, terms_in, IsRevealed, KeepsRules}
use Rattle.safety.specs.Premises.{none_revokes}
use Rattle.safety.specs.Breaks.{Breaks}
use Rattle.safety.specs.Closers.{IsCloser, IsFunded, IsWatched}
use Rattle.safety.specs.Passing.{IsReady}
use Rattle.safety.specs.Resolutions.{Resolution, IsSlept, IsPaidOrLate}
use Rattle.balance_laws.specs.Claims.{AllAreWorth, ShareIsWorth}
use Rattle.balance_laws.specs.Own.{KeepsOwnRules, HasOwnShare}

-- Below, of the HTLCs that were offered to the node it counts on those that are `known`: it has the preimage.

-- ---- the claims on a commitment that closed a channel

-- Of a commitment that the peer revoked, all outputs: each is unspent, or the node took it, or the owner did after the delay
pub record HasAll (hs : List Holding) (blocks : List Block) (h : Holding) (known : Htlc → Bool) (k : CommitmentState) : Type 0 where
  pub stands : ℕ → Bool
  pub those : (x : HtlcOutput) → Contains (htlcs_of (contents_of (terms_in h) k)) x → (stands x.index ≡ true) ↔ IsOnChain blocks (htlc_tx_of (contents_of (terms_in h) k) x)
  pub claims : AllAreWorth h known stands k (λ o. Resolution Breaks hs blocks (IsSlept (contents_of (terms_in h) k) o) o)

-- Of one that the peer has not revoked, to_remote and each HTLC on which the node counts: each is unspent, or the node took it; or it is an HTLC that was paid or that is late
abbrev pub HasShare : List Holding → List Block → Holding → (Htlc → Bool) → CommitmentState → Type 0
HasShare hs blocks h known k = ShareIsWorth h false known (λ _. false) k (λ o. Resolution Breaks hs blocks (IsPaidOrLate false (contents_of (terms_in h) k) o) o)

-- ---- before a close

-- the node's newest commitment passes the next block. Its outputs on which the node counts are worth all that it counts on, less its deductions; and what can be read now at the least
pub record HasNewest (blocks : List Block) (h : Holding) (known : Htlc → Bool) : Type 0 where
  pub ready : IsReady blocks h
  pub worth : IsLess (counted_msat known h.state.held.side ready.newest.view) (deductions (terms_in h) ready.newest.view true h.state.held.side known) (own_sat known h.state ready.newest)
  pub least : at_least_sat known h.state ≤ own_sat known h.state ready.newest

-- ---- both

-- What a node has of a channel on a chain. The funding output is unspent; or a commitment of the peer's took it, one that is revoked, its newest, or the one after it; or the node's own newest
-- one did, with which it closed the channel
pub data BalanceIsThere (hs : List Holding) (blocks : List Block) (h : Holding) (known : Htlc → Bool) : Type 0 where
  unclosed : (coin : Coin) → coin_at blocks (terms_in h).funding ≡ Some coin → coin.spent ≡ false → HasNewest blocks h known → BalanceIsThere hs blocks h known
  by_revoked : (n : ℕ) (k : CommitmentState) → n < h.state.peer_number → slice_get h.state.signed n ≡ Some k → IsRevealed h n k
      → IsOnChain blocks (transaction_of (contents_of (terms_in h) k)) → HasAll hs blocks h known k → BalanceIsThere hs blocks h known
  by_newest : (k : CommitmentState) → slice_get h.state.signed h.state.peer_number ≡ Some k
      → IsOnChain blocks (transaction_of (contents_of (terms_in h) k)) → HasShare hs blocks h known k → BalanceIsThere hs blocks h known
  by_next : (k : CommitmentState) → h.state.awaiting ≡ true → slice_get h.state.signed (h.state.peer_number + 1) ≡ Some k
      → IsOnChain blocks (transaction_of (contents_of (terms_in h) k)) → HasShare hs blocks h known k → BalanceIsThere hs blocks h known
  by_own : (k : CommitmentState) → h.closed ≡ Some h.state.number → slice_get h.state.mine h.state.number ≡ Some k
      → IsOnChain blocks (transaction_of (contents_of (terms_in h) k)) → HasOwnShare hs blocks h known k → BalanceIsThere hs blocks h known
  broken : Breaks hs blocks → BalanceIsThere hs blocks h known

-- it is so of each channel that the node has not closed itself, whatever peers and blocks do, and whichever preimages it has
abbrev pub BalancesAreThere : Type 0
BalancesAreThere =
    (hs : List Holding) (blocks : List Block) → IsWatched hs blocks
    → (h : Holding) → Contains hs h → h.closed ≡ None → IsFunded blocks (terms_in h) → (known : Htlc → Bool) → BalanceIsThere hs blocks h known

-- and of each channel, whether or not the node closed it, if no input shows a token of the revocation key of a newest own commitment
abbrev pub AllBalancesAreThere : Type 0
AllBalancesAreThere =
    (hs : List Holding) (blocks : List Block) → IsWatched hs blocks → none_revokes hs blocks ≡ true
    → (h : Holding) → Contains hs h → KeepsOwnRules h → IsFunded blocks (terms_in h) → (known : Htlc → Bool) → BalanceIsThere hs blocks h known

-- what closes a channel on a chain is one of the commitments of which the least is taken
abbrev pub ClosersMayClose : Type 0
ClosersMayClose = (h : Holding) → KeepsRules h → (k : CommitmentState) → IsCloser h k → MayClose h.state k
