-- Where the outputs that a revoked commitment lets the owner's peer claim can go, by what the peer signed.
use Rattle.std.specs.Prelude.{◌≡◌, ℕ, true, List, [], ◌∷◌, ◌++◌, map, Some}
use Rattle.std.specs.List.{Contains, Any, All}
use Rattle.tx.specs.declared.input.TxIn.{TxIn}
use Rattle.tx.specs.Parts.{Output}
use Rattle.tx.specs.Fields.{Transaction}
use Rattle.chain.specs.Blocks.{Contents as Block, Coin, coin_at}
use Rattle.chain.specs.Checked.{is_checked}
use Rattle.claim.specs.Fitting.{output_at}
use Rattle.commit.specs.declared.outputs.HtlcOutput.{HtlcOutput}
use Rattle.commit.specs.Fees.{satoshis_of}
use Rattle.commit.specs.Outputs.{htlc_script}
use Rattle.commit.specs.Commitments.{Contents, id_of, htlcs_of, htlc_tx_of}
use Rattle.commit.specs.Signing.{input_of, htlc_digest}
use Rattle.penalty.specs.declared.states.RevokedState.{RevokedState}
use Rattle.penalty.specs.Claimable.{Claimable, place_in, commitment_in, claimable_of}
use Rattle.penalty.specs.Covering.{IsClaimedAt}
use Rattle.safety.specs.Signing.{Signed, IsSignable, digest_of, AreSame}
use Rattle.safety.specs.Spending.{spend_on, IsOwners, IsLate, Takes}
use Rattle.safety.specs.Ways.{TakenBy}
use Rattle.safety.specs.Taking.{IsAsSigned, Collides}
use Rattle.safety.specs.Takers.{IsHtlcTransaction}
use Rattle.safety.specs.Standing.{StandsAt}

-- an HTLC transaction, as the peer signs it with the commitment (BOLT 2, `commitment_signed`)
abbrev pub htlc_signed : Contents → HtlcOutput → Signed
htlc_signed c h = record {
  transaction = htlc_tx_of c h;
  input = input_of (record { txid = id_of c; index = h.index }) 0;
  code = htlc_script c.keys h.direction h.htlc;
  value = satoshis_of h.htlc.amount_msat;
}

-- its digest is the one that the peer's token in `commitment_signed` is over
abbrev pub SignedWithCommitment : Type 0
SignedWithCommitment = (c : Contents) (h : HtlcOutput) → htlc_digest c h ≡ digest_of (htlc_signed c h)

-- what the peer signed: the HTLC transactions, with the commitment, and inputs of its own
abbrev pub signed_by_peer : Contents → List Signed → List Signed
signed_by_peer c own = map (htlc_signed c) (htlcs_of c) ++ own

-- the input is of the HTLC transaction of the HTLC at the outpoint that it names, whatever its witness. The only output of that is one that the peer can claim again
pub record IsClaimableAgain (state : RevokedState) (height : ℕ) (t : Transaction)
    (input : TxIn) : Type 0 where
  pub is : IsHtlcTransaction (commitment_in state) input.outpoint height t
  pub output : Output
  pub alone : t.outputs ≡ output ∷ []
  pub again : IsClaimedAt (claimable_of state) (place_in t 0 output)

-- what an input is that takes such an output: one of the peer's own, whatever its witness; of an HTLC transaction; the owner's after the delay; or a collision
abbrev pub FateBy : (HtlcTransaction : Type 0) → RevokedState → Claimable → (since height : ℕ) → Transaction → TxIn → List Signed → Type 0
FateBy HtlcTransaction state o since height t input own =
    TakenBy (Any (AreSame (spend_on o t input)) own) HtlcTransaction (IsOwners (IsLate (commitment_in state) since height) (commitment_in state) o t input)
    (Collides state o t input (signed_by_peer (commitment_in state) own))

-- of an HTLC transaction whose output the peer can claim again, or what takes the output for good
abbrev pub Fate : RevokedState → Claimable → (since height : ℕ) → Transaction → TxIn → List Signed → Type 0
Fate state o since height t input own = FateBy (IsClaimableAgain state height t input) state o since height t input own

-- what takes the output for good
abbrev pub Ending : RevokedState → Claimable → (since height : ℕ) → Transaction → TxIn → List Signed → Type 0
Ending state o since height t input own = FateBy ⊥ state o since height t input own

-- it has a fate, whatever inputs of its own the peer signed, if each signature of the peer's in it is over an input that the peer signed
abbrev pub HasFate : RevokedState → Claimable → (since height : ℕ) → Transaction → TxIn → Type 0
HasFate s o since height t input = (own : List Signed) → All IsSignable own
    → IsAsSigned (commitment_in s).keys (signed_by_peer (commitment_in s) own) (spend_on o t input)
    → Fate s o since height t input own

-- this holds of any coin that is one of the outputs that a revoked state lets the peer claim
abbrev pub NothingEscapes : Type 0
NothingEscapes =
    (state : RevokedState) (o : Claimable) (height : ℕ) (t : Transaction) (input : TxIn) (coin : Coin) → Takes state o height t input coin
    → HasFate state o coin.height height t input

-- this holds of any transaction that a block of this height may hold above these blocks
abbrev pub NothingEscapesAbove : List Block → ℕ → RevokedState → Type 0
NothingEscapesAbove blocks height s = (o : Claimable) (t : Transaction) (input : TxIn) (coin : Coin)
    → coin_at blocks input.outpoint ≡ Some coin → Takes s o height t input coin
    → HasFate s o coin.height height t input

-- this holds of each transaction on a chain that passed its tests, by the coin that its input names
abbrev pub NothingEscapesOnChains : Type 0
NothingEscapesOnChains =
    (state : RevokedState) (o : Claimable) → Contains (claimable_of state) o
    → (blocks : List Block) → is_checked blocks ≡ true
    → (height : ℕ) (t : Transaction) → StandsAt blocks height t → (input : TxIn) → Contains t.inputs input
    → (coin : Coin) → coin_at blocks input.outpoint ≡ Some coin → coin.output ≡ output_at o.place
    → HasFate state o coin.height height t input
