-- Whoever spends the output of an HTLC by its preimage shows the preimage to the watch.
use Rattle.std.specs.Prelude.{◌≡◌, ℕ, ◌<◌, ◌⊎◌, true, List, [], ◌∷◌, ◌++◌, Some, slice_get, Contains}
use Rattle.std.specs.List.{AllByRecursion}
use Rattle.sha2.specs.Sha256.{sha256}
use Rattle.digest.specs.Hash.{Collide}
use Rattle.digest.specs.Ripemd160.{ripemd160}
use Rattle.script.specs.declared.limits.TheConstants.{LOCKTIME_THRESHOLD}
use Rattle.script.specs.Token.{is_key}
use Rattle.script.specs.Run.{Clean}
use Rattle.facts.specs.Meaning.{Meets}
use Rattle.paths.specs.declared.state.Path.{Path}
use Rattle.tx.specs.declared.input.TxIn.{TxIn}
use Rattle.tx.specs.Fields.{Transaction}
use Rattle.sighash.specs.Programs.{spend_of, run_of}
use Rattle.terms.specs.declared.sides.Side.{Side}
use Rattle.terms.specs.declared.agreement.Terms.{Terms}
use Rattle.commit.specs.declared.fees.Direction.{Direction}
use Rattle.commit.specs.declared.fees.Direction.TheVariants.{Offered, Received}
use Rattle.commit.specs.declared.outputs.HtlcOutput.{HtlcOutput}
use Rattle.commit.specs.Fees.{satoshis_of}
use Rattle.commit.specs.Keys.{KeyBytes, keys_of}
use Rattle.commit.specs.Outputs.{htlc_script, htlc_output}
use Rattle.commit.specs.Commitments.{Contents, id_of, htlcs_of, tx_output}
use Rattle.penalty.specs.Claimable.{htlc_form}
use Rattle.resolve.specs.Preimages.{shown_by_input}
use Rattle.watch.specs.declared.learning.CommitmentHtlcs.{CommitmentHtlcs}
use Rattle.watch.specs.Learning.{htlcs_in, learnt_from}

-- an input of a transaction spends the output of an HTLC
pub record SpendsHtlc (c : Contents) (h : HtlcOutput) (t : Transaction) (i : TxIn) : Type 0 where
  pub htlc : Contains (htlcs_of c) h
  pub input : Contains t.inputs i
  pub outpoint : i.outpoint ≡ record { txid = id_of c; index = h.index }

-- ---- the ways through an HTLC's script

-- its witness takes the path of an index: the items below the script meet that path
pub record Goes (c : Contents) (h : HtlcOutput) (t : Transaction) (i : TxIn) (index : ℕ) : Type 0 where
  pub path : Path
  pub there : slice_get (htlc_form c.keys h.direction h.htlc).paths index ≡ Some path
  pub items : List (List ℕ)
  pub witness : i.witness ≡ items ++ htlc_script c.keys h.direction h.htlc ∷ []
  pub meets : Meets (spend_of t i (htlc_script c.keys h.direction h.htlc) (satoshis_of h.htlc.amount_msat)) items path.arity path.facts

-- the HTLC keys have the form of keys, as those of each commitment of the terms have
pub record AreKeys (k : KeyBytes) : Type 0 where
  pub local : is_key k.local_htlc ≡ true
  pub remote : is_key k.remote_htlc ≡ true

abbrev pub KeysAreKeys : Type 0
KeysAreKeys = (terms : Terms) (owner : Side) (point : List ℕ) → AreKeys (keys_of terms owner point)

-- each number is a byte
abbrev pub IsBytes : List ℕ → Type 0
IsBytes bytes = AllByRecursion (λ b. b < 256) bytes

-- the input's witness ends with another script that has the SHA-256 of the HTLC's. That script is a byte string if all items of the witness are, which an
-- input's Rust type ensures. (`sha256` hashes lists of any numbers. A list that is no byte string can have the hash of one: `twins` in
-- `proofs/ShowingExamples.antt`)
pub record ScriptCollides (c : Contents) (h : HtlcOutput) (i : TxIn) : Type 0 where
  pub items : List (List ℕ)
  pub script : List ℕ
  pub shown : i.witness ≡ items ++ script ∷ []
  pub bytes : AllByRecursion IsBytes i.witness → IsBytes script
  pub collide : Collide sha256 script (htlc_script c.keys h.direction h.htlc)

-- where the output runs clean (BIP 141), the witness takes one of the paths, or it ends with another script with the same SHA-256
abbrev pub SpendersGo : Type 0
SpendersGo =
    (c : Contents) (h : HtlcOutput) (t : Transaction) (i : TxIn) (counted height : ℕ) → AreKeys c.keys → h.htlc.expiry_height < LOCKTIME_THRESHOLD
    → run_of t i (tx_output (htlc_output c.keys h.direction h.htlc)) ≡ Some (Clean counted height) → ((index : ℕ) × Goes c h t i index) ⊎ ScriptCollides c h i

-- ---- the preimage

-- the index of the path that asks for it: the peer's direct claim of what the owner offered, or the owner's HTLC-success
-- transaction
abbrev pub preimage_way : Direction → ℕ
preimage_way Offered = 2
preimage_way Received = 1

-- it is learnt from one of the inputs
pub record IsLearnt (commitments : List CommitmentHtlcs) (hash : List ℕ) (inputs : List TxIn) : Type 0 where
  pub preimage : List ℕ
  pub hashed : sha256 preimage ≡ hash
  pub learnt : Contains (learnt_from commitments inputs) preimage

-- the input shows an item of 32 bytes whose SHA-256 is another value than this hash, with the same RIPEMD-160
pub record HashCollides (hash : List ℕ) (i : TxIn) : Type 0 where
  pub item : List ℕ
  pub shown : shown_by_input (Some i) ≡ Some item
  pub collide : Collide ripemd160 (sha256 item) hash

-- whoever takes that path shows the preimage, or an item with that collision
abbrev pub PreimagesAreLearnt : Type 0
PreimagesAreLearnt =
    (commitments : List CommitmentHtlcs) (c : Contents) (h : HtlcOutput) (t : Transaction) (i : TxIn) → Contains commitments (htlcs_in c) → SpendsHtlc c h t i
    → Goes c h t i (preimage_way h.direction) → IsLearnt commitments h.htlc.hash t.inputs ⊎ HashCollides h.htlc.hash i
