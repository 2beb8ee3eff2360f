-- The node's newest commitment, wherever the funding output of its channel is unspent.
use Rattle.std.specs.Prelude.{◌≡◌, ◌⊎◌, ◌<◌, ℕ, false, List, ◌∷◌, length, Some, None, slice_get}
use Rattle.std.specs.List.{Contains}
use Rattle.digest.specs.Hash.{sha256d, Collide}
use Rattle.tx.specs.Fields.{Transaction}
use Rattle.tx.specs.Spelling.{stripped_spelling}
use Rattle.chain.specs.Blocks.{Contents as Block, Coin, empty_block}
use Rattle.chain.specs.Checks.{transaction_refusal}
use Rattle.channel.specs.declared.commitments.CommitmentState.{CommitmentState}
use Rattle.channel.specs.Tokens.{contents_of}
use Rattle.publish.specs.Published.{signed_commitment_of}
use Rattle.safety.specs.Standing.{StandsAt}
use Rattle.safety.specs.Holdings.{Holding, terms_in}
use Rattle.safety.specs.Premises.{funding_lock}
use Rattle.safety.specs.Ledgers.{IsCoinAt}
use Rattle.safety.specs.Closers.{IsWatched}

-- what is hashed for the id of a transaction on the chain collides with what is hashed for the id of this one
pub record HasTwinOn (blocks : List Block) (t : Transaction) : Type 0 where
  pub height : ℕ
  pub twin : Transaction
  pub stands : StandsAt blocks height twin
  pub collide : Collide sha256d (stripped_spelling t) (stripped_spelling twin)

-- the node's newest commitment, with both signatures: the next block may hold it, or it has such a twin
pub record CanClose (blocks : List Block) (h : Holding) : Type 0 where
  pub commitment : Transaction
  pub is : signed_commitment_of h.state h.state.number ≡ Some commitment
  pub passes : (transaction_refusal (empty_block ∷ blocks) commitment ≡ None) ⊎ HasTwinOn blocks commitment

-- the channel has a newest own commitment, which closes it if it has an output: no block of Bitcoin's may hold a transaction without one
pub record IsReady (blocks : List Block) (h : Holding) : Type 0 where
  pub newest : CommitmentState
  pub recorded : slice_get h.state.mine h.state.number ≡ Some newest
  pub closes : 0 < length (contents_of (terms_in h) newest).outputs → CanClose blocks h

-- such is each channel whose funding output is unspent
abbrev pub NewestPasses : Type 0
NewestPasses =
    (hs : List Holding) (blocks : List Block) → IsWatched hs blocks
    → (h : Holding) → Contains hs h → (coin : Coin) → IsCoinAt blocks (funding_lock (terms_in h)) coin → coin.spent ≡ false → IsReady blocks h
