-- What takes the outputs that a revoked commitment lets the owner's peer claim, once it is known what the peer signed.
use Rattle.std.specs.Prelude.{◌≡◌, ◌⊎◌, ℕ, List}
use Rattle.std.specs.List.{Contains, Any, All}
use Rattle.tx.specs.declared.input.TxIn.{TxIn}
use Rattle.tx.specs.Fields.{Transaction, KeepsLimits}
use Rattle.chain.specs.Blocks.{Coin}
use Rattle.commit.specs.Keys.{KeyBytes}
use Rattle.penalty.specs.declared.states.RevokedState.{RevokedState}
use Rattle.penalty.specs.Claimable.{Claimable, commitment_in}
use Rattle.safety.specs.Signing.{Signed, IsSignable, digest_of, AreSame, ListsCollide}
use Rattle.safety.specs.Spending.{spend_on, IsSignedBy, peer_keys, ShowsCollision, IsOwners, IsLate, Takes}
use Rattle.safety.specs.Ways.{TakenBy}

-- where the witness has a token of one of the peer's keys over the input's digest, that digest is of one that the peer signed
abbrev pub ShowsOnly : KeyBytes → List Signed → Signed → Type 0
ShowsOnly k signed s = (key : List ℕ) → Contains (peer_keys k) key → IsSignedBy key s
    → Any (λ z. digest_of s ≡ digest_of z) signed

-- an input of a transaction that keeps the limits; each signature of the peer's in it is over an input that the peer signed
pub record IsAsSigned (k : KeyBytes) (signed : List Signed) (s : Signed) : Type 0 where
  pub limits : KeepsLimits s.transaction
  pub among : Contains s.transaction.inputs s.input
  pub shows : ShowsOnly k signed s

-- the witness shows other bytes for a hash of the script, or what is hashed for the input collides with what is hashed for one that was signed
abbrev pub Collides : RevokedState → Claimable → Transaction → TxIn → List Signed → Type 0
Collides state o t input signed = ShowsCollision (commitment_in state) o input ⊎ Any (ListsCollide (spend_on o t input)) signed

-- An input takes, in a block of one height, an output of a block of another height. The input is one that the peer signed, whatever its witness; or the owner's after the delay; or byte strings
-- collide. Here the HTLC transactions are among what the peer signed
abbrev pub IsTaken : RevokedState → Claimable → (since height : ℕ) → Transaction → TxIn → List Signed → Type 0
IsTaken state o since height t input signed =
    TakenBy (Any (AreSame (spend_on o t input)) signed) ⊥ (IsOwners (IsLate (commitment_in state) since height) (commitment_in state) o t input) (Collides state o t input signed)

-- this holds of each output that a revoked state lets the peer claim, whatever the peer signed
abbrev pub OnlyAsSigned : Type 0
OnlyAsSigned =
    (state : RevokedState) (o : Claimable) (height : ℕ) (t : Transaction) (input : TxIn) (coin : Coin) → Takes state o height t input coin
    → (signed : List Signed) → All IsSignable signed → IsAsSigned (commitment_in state).keys signed (spend_on o t input)
    → IsTaken state o coin.height height t input signed
