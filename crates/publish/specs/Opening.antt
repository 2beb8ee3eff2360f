-- What is broadcast spends the outputs that it names, on a chain that has them (BIP 65, BIP 68, BIP 141).
use Rattle.std.specs.Prelude.{◌≡◌, ℕ, ◌<◌, ◌≤◌, false, List, length, Some, None, slice_get}
use Rattle.std.specs.List.{All}
use Rattle.std.specs.Str.{bytes_eq}
use Rattle.digest.specs.Hash.{hash160}
use Rattle.script.specs.declared.limits.TheConstants.{LOCKTIME_THRESHOLD}
use Rattle.tx.specs.declared.input.OutPoint.{OutPoint}
use Rattle.tx.specs.Parts.{Output}
use Rattle.tx.specs.Fields.{Transaction}
use Rattle.chain.specs.Blocks.{Contents as Block, Coin, coin_at}
use Rattle.chain.specs.Checks.{indexed_refusal}
use Rattle.terms.specs.declared.agreement.Terms.{Terms}
use Rattle.commit.specs.declared.outputs.HtlcOutput.{HtlcOutput}
use Rattle.sighash.specs.Programs.{script_hash_program}
use Rattle.commit.specs.Outputs.{htlc_output}
use Rattle.commit.specs.Commitments.{Contents, id_of, htlcs_of, lock_time_of, tx_output}
use Rattle.commit.specs.Signing.{funding_script}
use Rattle.channel.specs.declared.commitments.CommitmentState.{CommitmentState}
use Rattle.channel.specs.States.{State}
use Rattle.channel.specs.Tokens.{contents_of}
use Rattle.publish.specs.Published.{branch_item, signed_commitment_of, signed_htlc_tx_of}

-- the funding output of a channel: its capacity, for the funding script
abbrev pub funding_output : Terms → Output
funding_output terms = record { value = terms.capacity_sat; script = script_hash_program (funding_script terms) }

-- a chain has this output at an outpoint, unspent
pub record HasUnspent (blocks : List Block) (o : OutPoint) (output : Output) : Type 0 where
  pub coin : Coin
  pub there : coin_at blocks o ≡ Some coin
  pub output_is : coin.output ≡ output
  pub unspent : coin.spent ≡ false

-- the first input of a transaction passes all tests in a block of this height
abbrev pub IsTaken : List Block → ℕ → Transaction → Type 0
IsTaken blocks height t = indexed_refusal blocks height t (slice_get t.inputs 0) ≡ None

-- a commitment with both signatures spends the funding output, wherever that is unspent, in a block of any height
abbrev pub CommitmentsSpend : Type 0
CommitmentsSpend =
    (s : State) (n : ℕ) (t : Transaction) (blocks : List Block) (height : ℕ) → signed_commitment_of s n ≡ Some t
    → HasUnspent blocks s.held.terms.funding (funding_output s.held.terms) → IsTaken blocks height t

-- the output of an HTLC of a commitment, and its outpoint
abbrev pub output_of : Contents → HtlcOutput → Output
output_of c h = tx_output (htlc_output c.keys h.direction h.htlc)

abbrev pub outpoint_of : Contents → HtlcOutput → OutPoint
outpoint_of c h = record { txid = id_of c; index = h.index }

-- the HTLC transaction of a commitment, with the item above its signatures
pub record IsHtlcTx (s : State) (n k : ℕ) (preimages : List (List ℕ)) (c : Contents) (h : HtlcOutput) (item : List ℕ) (t : Transaction) : Type 0 where
  pub state : CommitmentState
  pub recorded : slice_get s.mine n ≡ Some state
  pub contents : c ≡ contents_of s.held.terms state
  pub kth : slice_get (htlcs_of c) k ≡ Some h
  pub branch : branch_item preimages h.direction h.htlc ≡ Some item
  pub tx : signed_htlc_tx_of s n k preimages ≡ Some t

-- An HTLC transaction with both signatures spends the HTLC's output, wherever that is unspent. HTLC-timeout does so in each block above the expiry, and HTLC-success in each block
-- above the first. The one exception: the item above its signatures must not have the hash of the revocation key, for which the script would take it.
abbrev pub HtlcTxsSpend : Type 0
HtlcTxsSpend =
    (s : State) (n k : ℕ) (preimages : List (List ℕ)) (c : Contents) (h : HtlcOutput) (item : List ℕ) (t : Transaction) (blocks : List Block) (height : ℕ)
    → IsHtlcTx s n k preimages c h item t → All (λ p. length p ≡ 32) preimages → h.htlc.expiry_height < LOCKTIME_THRESHOLD
    → bytes_eq (hash160 item) (hash160 c.keys.revocation) ≡ false
    → (here : HasUnspent blocks (outpoint_of c h) (output_of c h)) → here.coin.height ≤ height → lock_time_of h.direction h.htlc < height → IsTaken blocks height t
