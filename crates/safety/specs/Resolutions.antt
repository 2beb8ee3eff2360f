-- What becomes of the outputs of a peer's commitment, whatever peers and blocks do (BOLT 5, "Revoked Transaction Close Handling", "Unilateral Close Handling: Remote Commitment Transaction").
use Rattle.std.specs.Prelude.{◌≡◌, ◌≢◌, ◌↔◌, ◌<◌, ℕ, ◌+◌, Bool, true, false, not, List, Some, length, slice_get}
use Rattle.std.specs.List.{Contains, AllByRecursion, AllPairs}
use Rattle.sha2.specs.Sha256.{sha256}
use Rattle.tx.specs.declared.input.TxIn.{TxIn}
use Rattle.tx.specs.Fields.{Transaction, unsigned_transaction}
use Rattle.chain.specs.Blocks.{Contents as Block, Coin}
use Rattle.commit.specs.declared.fees.Direction.{Direction}
use Rattle.commit.specs.declared.fees.Direction.TheVariants.{Offered, Received}
use Rattle.commit.specs.declared.outputs.HtlcOutput.{HtlcOutput}
use Rattle.commit.specs.Commitments.{Contents, id_of, transaction_of, htlcs_of, htlc_tx_of}
use Rattle.penalty.specs.declared.states.RevokedState.{RevokedState}
use Rattle.penalty.specs.Claimable.{Claimable, commitment_in, claimable_of}
use Rattle.penalty.specs.Worth.{staged, value_of, fees_with, IsCapacityWith}
use Rattle.channel.specs.declared.commitments.CommitmentState.{CommitmentState}
use Rattle.channel.specs.Tokens.{contents_of}
use Rattle.safety.specs.Spending.{HasWaited}
use Rattle.safety.specs.Whereabouts.{IsOnChain, IsNamedBy, IsCoinOf}
use Rattle.safety.specs.Places.{IsPeersClaim}
use Rattle.safety.specs.Holdings.{Release, released, Holding, terms_in, IsRevealed}
use Rattle.safety.specs.Closers.{IsWatched}
use Rattle.safety.specs.Breaks.{Breaks}

-- the node released a transaction, whatever its witness
pub record WasReleased (hs : List Holding) (t : Transaction) : Type 0 where
  pub holding : Holding
  pub held : Contains hs holding
  pub release : Release
  pub among : Contains holding.releases release
  pub same : unsigned_transaction t ≡ unsigned_transaction (released release)

-- What became of an output that the node can claim. It is unspent; or a transaction that the node released took it; or somebody else did, and `Lost` holds of the coin, of the height of the block and of the
-- input; or strings collide, as `Broken` says
pub data Resolution (Broken : List Holding → List Block → Type 0) (hs : List Holding) (blocks : List Block) (Lost : Coin → ℕ → TxIn → Type 0) (o : Claimable) : Type 0 where
  unspent : (coin : Coin) → IsCoinOf blocks o coin → coin.spent ≡ false → Resolution Broken hs blocks Lost o
  ours : (height : ℕ) (t : Transaction) (input : TxIn) → IsNamedBy blocks o height t input → WasReleased hs t → Resolution Broken hs blocks Lost o
  lost : (coin : Coin) → IsCoinOf blocks o coin → (height : ℕ) (t : Transaction) (input : TxIn) → IsNamedBy blocks o height t input → Lost coin height input → Resolution Broken hs blocks Lost o
  broken : Broken hs blocks → Resolution Broken hs blocks Lost o

-- ---- a revoked commitment

-- the owner took an output in to_local's form after the delay
abbrev pub IsSlept : Contents → Claimable → Coin → ℕ → TxIn → Type 0
IsSlept c o coin height input = HasWaited c o coin.height height

-- For each output of a revoked commitment that stands on the chain there is one that the node can claim: the output itself or, if its HTLC transaction stands there, the output of that. No two of these are at one
-- outpoint. Each is unspent, or the node took it, or its owner did after the delay
pub record AreResolved (hs : List Holding) (blocks : List Block) (c : Contents) : Type 0 where
  pub stands : ℕ → Bool
  pub those : (x : HtlcOutput) → Contains (htlcs_of c) x → (stands x.index ≡ true) ↔ IsOnChain blocks (htlc_tx_of c x)
  pub apart : AllPairs (λ o p. o.place.outpoint ≢ p.place.outpoint) (staged stands c)
  pub each : (o : Claimable) → Contains (staged stands c) o → Resolution Breaks hs blocks (IsSlept c o) o

abbrev pub RevokedAreResolved : Type 0
RevokedAreResolved =
    (hs : List Holding) (blocks : List Block) → IsWatched hs blocks
    → (h : Holding) → Contains hs h → (n : ℕ) (k : CommitmentState) → slice_get h.state.signed n ≡ Some k → IsOnChain blocks (transaction_of (contents_of (terms_in h) k))
    → AreResolved hs blocks (contents_of (terms_in h) k)

-- ---- one that is not revoked

-- an item of the witness is a preimage of the hash
pub record ShowsPreimage (witness : List (List ℕ)) (hash : List ℕ) : Type 0 where
  pub item : List ℕ
  pub shown : Contains witness item
  pub long : length item ≡ 32
  pub hashed : sha256 item ≡ hash

-- an output is that of an HTLC of the commitment
pub record IsOnHtlc (c : Contents) (x : HtlcOutput) (o : Claimable) : Type 0 where
  pub among : Contains (htlcs_of c) x
  pub at : o.place.outpoint ≡ record { txid = id_of c; index = x.index }

-- the direction of an HTLC that the node offered, on its own commitment or on its peer's
abbrev pub outgoing : (own : Bool) → Direction
outgoing true = Offered
outgoing false = Received

-- Somebody took an HTLC's output, on the node's own commitment or on its peer's. The node had offered it: then the input shows the preimage. Or the peer had offered it: then the block is above the expiry
pub data IsPaidOrLate (own : Bool) (c : Contents) (o : Claimable) (coin : Coin) (height : ℕ) (input : TxIn) : Type 0 where
  paid : (x : HtlcOutput) → IsOnHtlc c x o → x.direction ≡ outgoing own → ShowsPreimage input.witness x.htlc.hash → IsPaidOrLate own c o coin height input
  late : (x : HtlcOutput) → IsOnHtlc c x o → x.direction ≡ outgoing (not own) → x.htlc.expiry_height < height → IsPaidOrLate own c o coin height input

-- what the node can claim of its peer's commitment, to_remote and each HTLC whatever preimages it knows, is unspent; or the node took it; or it is an HTLC that was paid or that is late
abbrev pub PeersAreResolved : Type 0
PeersAreResolved =
    (hs : List Holding) (blocks : List Block) → IsWatched hs blocks
    → (h : Holding) → Contains hs h → (n : ℕ) (k : CommitmentState) → slice_get h.state.signed n ≡ Some k → IsOnChain blocks (transaction_of (contents_of (terms_in h) k))
    → (o : Claimable) → IsPeersClaim (contents_of (terms_in h) k) o → Resolution Breaks hs blocks (IsPaidOrLate false (contents_of (terms_in h) k) o) o
