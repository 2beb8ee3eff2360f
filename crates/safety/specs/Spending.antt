-- What an input has that spends an output which the owner's peer can claim by a revoked commitment.
use Rattle.std.specs.Prelude.{◌≡◌, ◌⊎◌, ℕ, ◌+◌, ◌%◌, ◌^◌, ◌≤◌, false, List, [], ◌∷◌, Some}
use Rattle.std.specs.List.{Contains}
use Rattle.sha2.specs.Sha256.{sha256}
use Rattle.digest.specs.Hash.{hash160, Collide}
use Rattle.script.specs.declared.opcode.Op.TheVariants.{Push}
use Rattle.script.specs.Spelling.{spelling}
use Rattle.script.specs.Token.{token_of}
use Rattle.script.specs.Step.{bit_at}
use Rattle.script.specs.Run.{Clean}
use Rattle.tx.specs.declared.input.TxIn.{TxIn}
use Rattle.tx.specs.Fields.{Transaction}
use Rattle.sighash.specs.Programs.{run_of}
use Rattle.chain.specs.Blocks.{Coin}
use Rattle.claim.specs.Fitting.{output_at}
use Rattle.commit.specs.Keys.{KeyBytes}
use Rattle.commit.specs.Commitments.{Contents}
use Rattle.forms.specs.Forms.{to_local_form}
use Rattle.penalty.specs.declared.states.RevokedState.{RevokedState}
use Rattle.penalty.specs.Claimable.{Claimable, commitment_in, claimable_of}
use Rattle.safety.specs.Signing.{Signed, Collision, digest_of}
use Rattle.safety.specs.Standing.{PassesTest}

-- what a token for the input is over, where it spends this output
abbrev pub spend_on : Claimable → Transaction → TxIn → Signed
spend_on o t input =
    record { transaction = t; input = input; code = spelling o.form.ops; value = o.place.value }

-- an item of the input's own witness is the key's token over the input's digest
abbrev pub IsSignedBy : List ℕ → Signed → Type 0
IsSignedBy key s = Contains s.input.witness (token_of key (digest_of s))

-- the keys of the owner's peer in a commitment's scripts
abbrev pub peer_keys : KeyBytes → List (List ℕ)
peer_keys k = k.revocation ∷ k.remote_htlc ∷ k.remote ∷ []

-- a key of the peer's that the output's script pushes, or whose HASH160 it pushes
pub record IsPeerKeyOn (c : Contents) (o : Claimable) (key : List ℕ) : Type 0 where
  pub peers : Contains (peer_keys c.keys) key
  pub named : Contains o.form.ops (Push key) ⊎ Contains o.form.ops (Push (hash160 key))

-- an item of the witness collides with these bytes
abbrev pub ItemCollides : (hash : List ℕ → List ℕ) (bytes : List ℕ) (witness : List (List ℕ)) → Type 0
ItemCollides hash bytes witness = Collision (Collide hash) (Contains witness) (λ b. b ≡ bytes)

-- the witness shows other bytes with the hash of the output's script (BIP 141), or with that of such a key
pub data ShowsCollision (c : Contents) (o : Claimable) (input : TxIn) : Type 0 where
  of_script : ItemCollides sha256 (spelling o.form.ops) input.witness → ShowsCollision c o input
  of_key : (key : List ℕ) → IsPeerKeyOn c o key → ItemCollides hash160 key input.witness
      → ShowsCollision c o input

-- the owner's way, which only to_local's form has: the delayed key's token, and `Late` holds
pub record IsOwners (Late : Type 0) (c : Contents) (o : Claimable) (t : Transaction)
    (input : TxIn) : Type 0 where
  pub form : o.form ≡ to_local_form c.keys.revocation c.delay_blocks c.keys.delayed
  pub token : IsSignedBy c.keys.delayed (spend_on o t input)
  pub late : Late

-- what an input has that spends the output: the token of one of the peer's keys, or the owner's way, or a collision
pub data CanSpend (Late : Type 0) (c : Contents) (o : Claimable) (t : Transaction) (input : TxIn) : Type 0 where
  by_peer : (key : List ℕ) → IsPeerKeyOn c o key → IsSignedBy key (spend_on o t input) → CanSpend Late c o t input
  by_owner : IsOwners Late c o t input → CanSpend Late c o t input
  by_collision : ShowsCollision c o input → CanSpend Late c o t input

-- the input's sequence is a relative lock of at least this many blocks, and the lock is enforced (BIP 68)
pub record Waits (t : Transaction) (input : TxIn) (delay_blocks : ℕ) : Type 0 where
  pub version : 2 ≤ t.version
  pub on : bit_at 31 input.sequence ≡ false
  pub blocks : bit_at 22 input.sequence ≡ false
  pub enough : delay_blocks ≤ input.sequence % 2 ^ 16

-- whatever input runs clean on an output that a revoked state lets the peer claim spends it in one of these ways
abbrev pub WhoCanSpend : Type 0
WhoCanSpend =
    (state : RevokedState) (o : Claimable) → Contains (claimable_of state) o
    → (t : Transaction) (input : TxIn) (counted height : ℕ) → run_of t input (output_at o.place) ≡ Some (Clean counted height)
    → CanSpend (Waits t input (commitment_in state).delay_blocks) (commitment_in state) o t input

-- the coin is an output that a revoked state lets the peer claim, and in a block of this height the input passes the chain's test of it
pub record Takes (state : RevokedState) (o : Claimable) (height : ℕ) (t : Transaction)
    (input : TxIn) (coin : Coin) : Type 0 where
  pub claimable : Contains (claimable_of state) o
  pub output : coin.output ≡ output_at o.place
  pub passes : PassesTest height t input coin

-- a height is at least the commitment's delay above another one. With a delay of 0 nobody waits
abbrev pub IsLate : Contents → (since height : ℕ) → Type 0
IsLate c since height = since + c.delay_blocks ≤ height

-- the same where the output has the form of to_local, which the owner can take
pub record HasWaited (c : Contents) (o : Claimable) (since height : ℕ) : Type 0 where
  pub form : o.form ≡ to_local_form c.keys.revocation c.delay_blocks c.keys.delayed
  pub late : IsLate c since height

-- whatever input passes the chain's test of such an output spends it in one of these ways
abbrev pub WhoSpends : Type 0
WhoSpends =
    (state : RevokedState) (o : Claimable) (height : ℕ) (t : Transaction) (input : TxIn) (coin : Coin) → Takes state o height t input coin
    → CanSpend (IsLate (commitment_in state) coin.height height) (commitment_in state) o t input
