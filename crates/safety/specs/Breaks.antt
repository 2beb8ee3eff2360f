-- What would have to be broken for a node to lose money that it should have: two named byte strings with one hash. Each of them is fixed by what the node has of its channels, and by the chain: an item of a
-- witness there, or what is signed for an input there. (What an input holds are byte strings, as its Rust type ensures.)
use Rattle.std.specs.Prelude.{◌≡◌, ◌⊎◌, ℕ, List, ◌++◌, Some, slice_get, codes}
use Rattle.std.specs.List.{Contains, Any}
use Rattle.sha2.specs.Sha256.{sha256}
use Rattle.digest.specs.Hash.{hash160, sha256d, Collide}
use Rattle.digest.specs.Ripemd160.{ripemd160}
use Rattle.tx.specs.Fields.{Transaction}
use Rattle.tx.specs.Spelling.{stripped_spelling}
use Rattle.chain.specs.Blocks.{Contents as Block, Coin}
use Rattle.terms.specs.declared.agreement.Terms.{Terms}
use Rattle.terms.specs.Agreement.{party}
use Rattle.terms.specs.Sides.{other}
use Rattle.commit.specs.declared.outputs.HtlcOutput.{HtlcOutput}
use Rattle.commit.specs.Commitments.{htlcs_of}
use Rattle.channel.specs.declared.commitments.CommitmentState.{CommitmentState}
use Rattle.channel.specs.Tokens.{contents_of}
use Rattle.safety.specs.Signing.{Signed, Collision, ListsCollide}
use Rattle.safety.specs.Spending.{ItemCollides}
use Rattle.safety.specs.Standing.{StandsAt}
use Rattle.safety.specs.Recorded.{IsOfCommitment}
use Rattle.safety.specs.Holdings.{Holding, terms_in}
use Rattle.safety.specs.Given.{given_by}
use Rattle.safety.specs.Premises.{LockedOutput, locks_by, keys_by}
use Rattle.safety.specs.Ledgers.{IsCoinAt}

-- what a token on an input of the chain is over, where the input names an output of the node's channels that stands there: the code and the value are those of that output
pub record IsSpendOn (hs : List Holding) (blocks : List Block) (s : Signed) : Type 0 where
  pub height : ℕ
  pub stands : StandsAt blocks height s.transaction
  pub within : Contains s.transaction.inputs s.input
  pub lock : LockedOutput
  pub locked : Contains (locks_by hs) lock
  pub coin : Coin
  pub there : IsCoinAt blocks lock coin
  pub names : s.input.outpoint ≡ lock.place.outpoint
  pub code : s.code ≡ lock.code
  pub value : s.value ≡ lock.place.value

-- what is hashed for the id of a transaction of a commitment, and for a key of its owner's peer
abbrev pub IsHashedForId : Terms → CommitmentState → List ℕ → Type 0
IsHashedForId terms k bytes = (t : Transaction) × IsOfCommitment (contents_of terms k) t × (bytes ≡ stripped_spelling t)

abbrev pub IsHashedForKey : Terms → CommitmentState → List ℕ → Type 0
IsHashedForKey terms k bytes =
    (bytes ≡ codes "revoke" ++ (party (other k.owner) terms).bases.revocation.bytes ++ k.point.bytes) ⊎ (bytes ≡ codes "derive" ++ (party (other k.owner) terms).bases.htlc.bytes ++ k.point.bytes)

-- the payment hash of an HTLC of it
abbrev pub IsPaymentHash : Terms → CommitmentState → List ℕ → Type 0
IsPaymentHash terms k hash = (x : HtlcOutput) × Contains (htlcs_of (contents_of terms k)) x × (hash ≡ x.htlc.hash)

-- such a string, for a commitment of a peer's that the node signed
pub record IsForPeers (Is : Terms → CommitmentState → List ℕ → Type 0) (hs : List Holding) (bytes : List ℕ) : Type 0 where
  pub holding : Holding
  pub held : Contains hs holding
  pub number : ℕ
  pub commitment : CommitmentState
  pub signed : slice_get holding.state.signed number ≡ Some commitment
  pub is : Is (terms_in holding) commitment bytes

-- the SHA-256 of an item of a witness
abbrev pub IsHashOfItem : List (List ℕ) → List ℕ → Type 0
IsHashOfItem witness hash = (item : List ℕ) × Contains witness item × (hash ≡ sha256 item)

pub data Breaks (hs : List Holding) (blocks : List Block) : Type 0 where
  -- what is hashed for two ids, and for two keys
  by_ids : Collision (Collide sha256d) (IsForPeers IsHashedForId hs) (IsForPeers IsHashedForId hs) → Breaks hs blocks
  by_keys : Collision (Collide sha256) (IsForPeers IsHashedForKey hs) (IsForPeers IsHashedForKey hs) → Breaks hs blocks
  -- an item of the witness, and the script of the output
  by_script : (s : Signed) → IsSpendOn hs blocks s → ItemCollides sha256 s.code s.input.witness → Breaks hs blocks
  -- an item of the witness, and a key of the node's
  by_key : (s : Signed) → IsSpendOn hs blocks s → (key : List ℕ) → Contains (keys_by hs) key → ItemCollides hash160 key s.input.witness → Breaks hs blocks
  -- what is hashed for the digest of the input, and for that of one that the node signed
  by_digest : (s : Signed) → IsSpendOn hs blocks s → Any (λ z. ListsCollide s z.over) (given_by hs) → Breaks hs blocks
  -- the SHA-256 of an item, and a payment hash, of one RIPEMD-160
  by_preimage : (s : Signed) → IsSpendOn hs blocks s → Collision (Collide ripemd160) (IsHashOfItem s.input.witness) (IsForPeers IsPaymentHash hs) → Breaks hs blocks
