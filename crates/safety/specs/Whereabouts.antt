-- Where the money of a revoked commitment is, on a chain on which the commitment stands.
use Rattle.std.specs.Prelude.{◌≡◌, ◌≢◌, ◌↔◌, ℕ, ◌+◌, Bool, true, false, List, Some}
use Rattle.std.specs.List.{Contains, All, AllByRecursion, AllPairs}
use Rattle.tx.specs.declared.input.TxIn.{TxIn}
use Rattle.tx.specs.Fields.{Transaction, KeepsLimits, unsigned_transaction}
use Rattle.chain.specs.Blocks.{Contents as Block, Coin, coin_at}
use Rattle.chain.specs.Checked.{is_checked}
use Rattle.chain.specs.Conserving.{GrantsAreApart}
use Rattle.claim.specs.Fitting.{output_at}
use Rattle.commit.specs.declared.outputs.HtlcOutput.{HtlcOutput}
use Rattle.commit.specs.Commitments.{transaction_of, htlcs_of, htlc_tx_of}
use Rattle.penalty.specs.declared.states.RevokedState.{RevokedState}
use Rattle.penalty.specs.Claimable.{Claimable, commitment_in, claimable_of}
use Rattle.penalty.specs.Worth.{staged, value_of, fees_with, IsCapacityWith}
use Rattle.safety.specs.Signing.{Signed, IsSignable}
use Rattle.safety.specs.Spending.{spend_on}
use Rattle.safety.specs.Standing.{StandsAt}
use Rattle.safety.specs.Taking.{ShowsOnly}
use Rattle.safety.specs.Fates.{signed_by_peer, Ending}

-- this transaction, which has no witness, stands on the chain with some witness
pub record IsOnChain (blocks : List Block) (t : Transaction) : Type 0 where
  pub height : ℕ
  pub signed : Transaction
  pub stands : StandsAt blocks height signed
  pub same : unsigned_transaction signed ≡ t

-- a revoked commitment stands on the chain. The chain's transactions passed their tests and keep the
-- limits, and its grants have ids of their own
pub record HasCommitment (blocks : List Block) (state : RevokedState) : Type 0 where
  pub checked : is_checked blocks ≡ true
  pub limits : (height : ℕ) (t : Transaction) → StandsAt blocks height t → KeepsLimits t
  pub grants : GrantsAreApart blocks
  pub commitment : IsOnChain blocks (transaction_of (commitment_in state))

-- an input of a transaction in the block of this height names the output
pub record IsNamedBy (blocks : List Block) (o : Claimable) (height : ℕ) (t : Transaction) (input : TxIn) : Type 0 where
  pub stands : StandsAt blocks height t
  pub within : Contains t.inputs input
  pub names : input.outpoint ≡ o.place.outpoint

-- if an input on the chain names an output that the peer can claim, each signature of the peer's in
-- it is over an input that the peer signed
abbrev pub ShowsOnlyOn : List Block → RevokedState → List Signed → Type 0
ShowsOnlyOn blocks state own =
    (o : Claimable) → Contains (claimable_of state) o
    → (height : ℕ) (t : Transaction) (input : TxIn) → IsNamedBy blocks o height t input
    → ShowsOnly (commitment_in state).keys (signed_by_peer (commitment_in state) own) (spend_on o t input)

-- the coin that stands at the output's outpoint on the chain is this output
pub record IsCoinOf (blocks : List Block) (o : Claimable) (coin : Coin) : Type 0 where
  pub there : coin_at blocks o.place.outpoint ≡ Some coin
  pub output : coin.output ≡ output_at o.place

-- where an output is that the peer can claim: it is unspent on the chain, or an input there took it
-- for good
pub data Whereabouts (blocks : List Block) (state : RevokedState) (own : List Signed) (o : Claimable) : Type 0 where
  unspent : (coin : Coin) → IsCoinOf blocks o coin → coin.spent ≡ false → Whereabouts blocks state own o
  taken : (coin : Coin) → IsCoinOf blocks o coin
      → (height : ℕ) (t : Transaction) (input : TxIn) → IsNamedBy blocks o height t input
      → Ending state o coin.height height t input own → Whereabouts blocks state own o

-- for each output of the commitment there is one on the chain that the peer can claim: the output
-- itself or, if its HTLC transaction stands there, the output of that. They are at different
-- outpoints and worth the capacity, and each is unspent or taken for good
pub record AreAllThere (blocks : List Block) (state : RevokedState) (own : List Signed) : Type 0 where
  pub stands : ℕ → Bool
  pub those : (h : HtlcOutput) → Contains (htlcs_of (commitment_in state)) h
      → (stands h.index ≡ true) ↔ IsOnChain blocks (htlc_tx_of (commitment_in state) h)
  pub claimable : AllByRecursion (Contains (claimable_of state)) (staged stands (commitment_in state))
  pub apart : AllPairs (λ o p. o.place.outpoint ≢ p.place.outpoint) (staged stands (commitment_in state))
  pub worth : IsCapacityWith state (value_of (staged stands (commitment_in state)) + fees_with stands (commitment_in state))
  pub each : AllByRecursion (Whereabouts blocks state own) (staged stands (commitment_in state))

-- this holds whatever inputs of its own the peer signed
abbrev pub NothingIsLost : Type 0
NothingIsLost =
    (state : RevokedState) (blocks : List Block) → HasCommitment blocks state
    → (own : List Signed) → All IsSignable own → ShowsOnlyOn blocks state own → AreAllThere blocks state own
