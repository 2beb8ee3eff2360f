-- What takes an output that a revoked commitment lets the owner's peer claim, by where the transaction that takes it comes from.
use Rattle.std.specs.Prelude.{◌≡◌, ◌≢◌, ◌⊎◌, ℕ, ◌%◌, ◌^◌, ◌<◌, List, [], ◌∷◌, ◌++◌}
use Rattle.std.specs.List.{Contains}
use Rattle.tx.specs.declared.input.OutPoint.{OutPoint}
use Rattle.tx.specs.declared.input.TxIn.{TxIn}
use Rattle.tx.specs.Fields.{Transaction, unsigned_transaction}
use Rattle.tx.specs.Spelling.{number}
use Rattle.chain.specs.Blocks.{Coin, grant_outpoint}
use Rattle.claim.specs.Claims.{ClaimParts, FitsClaim}
use Rattle.terms.specs.declared.agreement.Terms.{Terms}
use Rattle.terms.specs.Sides.{other}
use Rattle.commit.specs.declared.outputs.HtlcOutput.{HtlcOutput}
use Rattle.commit.specs.Commitments.{Contents, transaction_of, id_of, htlcs_of, htlc_tx_of, lock_time_of}
use Rattle.penalty.specs.Claimable.{Claimable, claims_from}
use Rattle.penalty.specs.Sets.{claimed_by}
use Rattle.resolve.specs.Due.{owners_due}
use Rattle.channel.specs.declared.commitments.CommitmentState.{CommitmentState}
use Rattle.channel.specs.Tokens.{contents_of}
use Rattle.safety.specs.Standing.{PassesTest}
use Rattle.safety.specs.Ways.{TakenBy}
use Rattle.safety.specs.Spending.{HasWaited}
use Rattle.safety.specs.Recorded.{IsPayable}
use Rattle.safety.specs.Places.{IsOutPointOf}
use Rattle.safety.specs.Strings.{IsHashedForCommitment, StringsCollide}
use Rattle.safety.specs.Seeds.{AreOfTwoSeeds, SidesCollide}

-- the transaction is that of the HTLC whose output is at the outpoint, whatever its witness. A timeout is in a block above the HTLC's expiry
pub record IsHtlcTransaction (c : Contents) (o : OutPoint) (height : ℕ)
    (t : Transaction) : Type 0 where
  pub htlc : HtlcOutput
  pub among : Contains (htlcs_of c) htlc
  pub at : o ≡ record { txid = id_of c; index = htlc.index }
  pub same : unsigned_transaction t ≡ htlc_tx_of c htlc
  pub reached : lock_time_of htlc.direction htlc.htlc < height

-- one commitment of a side is another one of that side, if both have one number
abbrev pub AreOneByNumber : (k m : CommitmentState) → Type 0
AreOneByNumber k m = k.number ≡ m.number → k ≡ m

-- what takes an output of a revoked commitment by a commitment of the same side: the HTLC's transaction, or the owner after the delay; or what is hashed for the two commitments collides
abbrev pub OwnersWay : Terms → (k m : CommitmentState) → Claimable → (since height : ℕ) → Transaction → Type 0
OwnersWay terms k m o since height t =
    TakenBy ⊥ (IsHtlcTransaction (contents_of terms k) o.place.outpoint height t) (HasWaited (contents_of terms k) o since height) (StringsCollide (IsHashedForCommitment terms k) (IsHashedForCommitment terms m))

-- an input that fits a claim, on what a commitment of the same side gives its owner, takes it in one of these ways
abbrev pub OwnersTake : Type 0
OwnersTake =
    (terms : Terms) (k m : CommitmentState) → IsPayable terms k → IsPayable terms m → AreOneByNumber k m
    → (o : Claimable) → Contains (claims_from (contents_of terms k) 0 (contents_of terms k).outputs) o
    → (preimages : List (List ℕ)) (x : ClaimParts) → Contains (owners_due preimages (contents_of terms m)) (claimed_by x) → x.place.outpoint ≡ o.place.outpoint
    → (height : ℕ) (t : Transaction) (input : TxIn) (coin : Coin) → FitsClaim x t input → PassesTest height t input coin
    → OwnersWay terms k m o coin.height height t

-- an input of an HTLC transaction of such a commitment is one of its HTLC's transaction, or these strings collide
abbrev pub HtlcTransactionsTake : Type 0
HtlcTransactionsTake =
    (terms : Terms) (k m : CommitmentState) → IsPayable terms k → IsPayable terms m → AreOneByNumber k m
    → (o : Claimable) → Contains (claims_from (contents_of terms k) 0 (contents_of terms k).outputs) o
    → (h : HtlcOutput) → Contains (htlcs_of (contents_of terms m)) h
    → (height : ℕ) (t : Transaction) (input : TxIn) (coin : Coin) → unsigned_transaction t ≡ htlc_tx_of (contents_of terms m) h
    → Contains t.inputs input → input.outpoint ≡ o.place.outpoint → PassesTest height t input coin
    → IsHtlcTransaction (contents_of terms k) o.place.outpoint height t ⊎ StringsCollide (IsHashedForCommitment terms k) (IsHashedForCommitment terms m)

-- an outpoint of the commitments of both sides shows a collision. So what the owner's peer recorded of its own commitments takes nothing here
abbrev pub SidesAreApart : Type 0
SidesAreApart =
    (terms : Terms) (k m : CommitmentState) → IsPayable terms k → IsPayable terms m → m.owner ≡ other k.owner
    → (seed rival : List ℕ) → AreOfTwoSeeds terms k seed rival
    → (o : OutPoint) → IsOutPointOf (contents_of terms k) o → IsOutPointOf (contents_of terms m) o → SidesCollide terms k m seed rival

-- so does an outpoint of commitments of two channels, which spend two funding outputs
abbrev pub ChannelsAreApart : Type 0
ChannelsAreApart =
    (terms others : Terms) (k m : CommitmentState) → IsPayable terms k → IsPayable others m → terms.funding ≢ others.funding
    → (o : OutPoint) → IsOutPointOf (contents_of terms k) o → IsOutPointOf (contents_of others m) o → StringsCollide (IsHashedForCommitment terms k) (IsHashedForCommitment others m)

-- what is hashed for the id of the grant after g earlier ones
abbrev pub IsHashedForGrant : ℕ → List ℕ → Type 0
IsHashedForGrant g bytes = bytes ≡ (0x67 ∷ 0x72 ∷ 0x61 ∷ 0x6e ∷ 0x74 ∷ []) ++ number 8 (g % 2 ^ 64)

-- an outpoint of a commitment that is a grant's shows a collision. So commitments, which spend grants, take nothing here
abbrev pub OutputsAreNoGrants : Type 0
OutputsAreNoGrants =
    (terms : Terms) (k : CommitmentState) (g : ℕ) → IsOutPointOf (contents_of terms k) (grant_outpoint g) → StringsCollide (IsHashedForGrant g) (IsHashedForCommitment terms k)

-- an input of a commitment transaction, whatever its witness, spends the funding output
abbrev pub CommitmentsSpendFundings : Type 0
CommitmentsSpendFundings =
    (terms : Terms) (k : CommitmentState) (t : Transaction) (input : TxIn) → unsigned_transaction t ≡ transaction_of (contents_of terms k) → Contains t.inputs input
    → input.outpoint ≡ terms.funding

-- and one of an HTLC transaction spends an output of its commitment
abbrev pub HtlcTransactionsSpendOutputs : Type 0
HtlcTransactionsSpendOutputs =
    (c : Contents) (h : HtlcOutput) → Contains (htlcs_of c) h → (t : Transaction) (input : TxIn) → unsigned_transaction t ≡ htlc_tx_of c h → Contains t.inputs input
    → IsOutPointOf c input.outpoint
