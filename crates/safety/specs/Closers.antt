-- Who closes a channel, whatever peers and blocks do.
use Rattle.std.specs.Prelude.{◌≡◌, ℕ, ◌+◌, true, List, Some, slice_get}
use Rattle.std.specs.List.{Contains}
use Rattle.tx.specs.declared.input.TxIn.{TxIn}
use Rattle.tx.specs.Fields.{Transaction, unsigned_transaction}
use Rattle.chain.specs.Blocks.{Contents as Block, Coin}
use Rattle.terms.specs.declared.agreement.Terms.{Terms}
use Rattle.commit.specs.Commitments.{transaction_of}
use Rattle.channel.specs.declared.commitments.CommitmentState.{CommitmentState}
use Rattle.channel.specs.Tokens.{contents_of}
use Rattle.safety.specs.Standing.{StandsAt}
use Rattle.safety.specs.Holdings.{Holding, terms_in, IsRevealed, EachKeepsRules}
use Rattle.safety.specs.Premises.{funding_lock, are_own}
use Rattle.safety.specs.Ledgers.{IsCoinAt, IsLedger}
use Rattle.safety.specs.Breaks.{Breaks}

-- Which commitment may close a channel: one that the peer revoked; the peer's newest; the one after it, which the node signed and the peer has not yet answered by a revocation; or the node's own newest one,
-- with which it closed the channel
pub data IsCloser (h : Holding) (k : CommitmentState) : Type 0 where
  revoked : (n : ℕ) → slice_get h.state.signed n ≡ Some k → IsRevealed h n k → IsCloser h k
  newest : slice_get h.state.signed h.state.peer_number ≡ Some k → IsCloser h k
  next : h.state.awaiting ≡ true → slice_get h.state.signed (h.state.peer_number + 1) ≡ Some k → IsCloser h k
  own : h.closed ≡ Some h.state.number → slice_get h.state.mine h.state.number ≡ Some k → IsCloser h k

-- at the funding outpoint stands the output that the terms speak of
abbrev pub IsFunded : List Block → Terms → Type 0
IsFunded blocks terms = (coin : Coin) × IsCoinAt blocks (funding_lock terms) coin

-- the node's channels, and a chain on which nobody else made a token of the node's keys
pub record IsWatched (hs : List Holding) (blocks : List Block) : Type 0 where
  pub kept : EachKeepsRules hs
  pub ledger : IsLedger hs blocks
  pub own : are_own hs blocks ≡ true

-- what takes the funding output of a channel: such a commitment, whatever its witness; or strings collide
pub data IsClosedBy (hs : List Holding) (blocks : List Block) (h : Holding) (t : Transaction) : Type 0 where
  by_commitment : (k : CommitmentState) → IsCloser h k → unsigned_transaction t ≡ transaction_of (contents_of (terms_in h) k) → IsClosedBy hs blocks h t
  by_collision : Breaks hs blocks → IsClosedBy hs blocks h t

abbrev pub WhoCloses : Type 0
WhoCloses =
    (hs : List Holding) (blocks : List Block) → IsWatched hs blocks
    → (h : Holding) → Contains hs h → (coin : Coin) → IsCoinAt blocks (funding_lock (terms_in h)) coin
    → (height : ℕ) (t : Transaction) (input : TxIn) → StandsAt blocks height t → Contains t.inputs input → input.outpoint ≡ (terms_in h).funding
    → IsClosedBy hs blocks h t
