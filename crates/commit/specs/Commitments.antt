-- Commitments, and the HTLC transactions that spend their outputs (BOLT 3, "Commitment Transaction", "HTLC-Timeout and HTLC-Success Transactions").
use Rattle.std.specs.Prelude.{◌≡◌, ℕ, ◌+◌, ◌-◌, ◌≤◌, List, [], ◌∷◌, map, length, Option, Some, None, slice_get, option_map}
use Rattle.std.specs.List.{All, cons_option}
use Rattle.tx.specs.declared.input.OutPoint.{OutPoint}
use Rattle.tx.specs.declared.limits.TheConstants.{MAX_VALUE, MAX_OUTPUTS, MAX_BYTES}
use Rattle.tx.specs.Parts.{Output}
use Rattle.tx.specs.Fields.{Transaction, version_two}
use Rattle.tx.specs.Spelling.{transaction_id}
use Rattle.terms.specs.declared.htlcs.Htlc.{Htlc}
use Rattle.terms.specs.declared.numbers.Obscured.{Obscured}
use Rattle.terms.specs.declared.sides.Side.{Side}
use Rattle.terms.specs.declared.agreement.Terms.{Terms}
use Rattle.terms.specs.declared.views.View.{View}
use Rattle.terms.specs.Agreement.{party}
use Rattle.terms.specs.Numbers.{mask_of, obscured}
use Rattle.commit.specs.declared.fees.Direction.{Direction}
use Rattle.commit.specs.declared.fees.Direction.TheVariants.{Offered, Received}
use Rattle.commit.specs.declared.outputs.OutputKind.{OutputKind}
use Rattle.commit.specs.declared.outputs.OutputKind.TheVariants.{ToLocal, ToRemote, ToHtlc}
use Rattle.commit.specs.declared.outputs.CommitmentOutput.{CommitmentOutput}
use Rattle.commit.specs.declared.outputs.HtlcOutput.{HtlcOutput}
use Rattle.commit.specs.Fees.{satoshis_of, fee_sat_of, htlc_weight}
use Rattle.commit.specs.Amounts.{amounts_of}
use Rattle.commit.specs.Keys.{KeyBytes, keys_of}
use Rattle.sighash.specs.Programs.{script_hash_program}
use Rattle.commit.specs.Outputs.{to_local_script, htlc_script, outputs_of}
use Rattle.commit.specs.Order.{in_order}

-- what a commitment consists of
pub record Contents : Type 0 where
  -- the output that it spends
  pub funding : OutPoint
  -- its lock time and the sequence of its input, which carry its number
  pub hidden : Obscured
  pub keys : KeyBytes
  -- the delay of to_local and of the HTLC transactions' outputs
  pub delay_blocks : ℕ
  pub feerate_per_kw : ℕ
  -- in their order
  pub outputs : List CommitmentOutput

-- the owner's commitment of a view, with its number and the owner's per-commitment point for it
unfoldable pub commitment_of : Terms → View → Side → ℕ → List ℕ → Contents
commitment_of terms view owner n point = record {
  funding = terms.funding;
  hidden = obscured (mask_of terms) n;
  keys = keys_of terms owner point;
  delay_blocks = (party owner terms).delay_blocks;
  feerate_per_kw = view.feerate_per_kw;
  outputs = in_order (outputs_of (party owner terms).delay_blocks (keys_of terms owner point)
      (amounts_of terms view owner));
}

-- an unsigned transaction of version 2 with one input
abbrev pub spending : OutPoint → ℕ → List Output → ℕ → Transaction
spending outpoint sequence outputs lock_time = version_two
    (record { outpoint = outpoint; sequence = sequence; witness = [] } ∷ []) outputs lock_time

abbrev pub tx_output : CommitmentOutput → Output
tx_output o = record { value = o.value; script = o.program }

-- the commitment transaction, and its id
unfoldable pub transaction_of : Contents → Transaction
transaction_of c = spending c.funding c.hidden.sequence (map tx_output c.outputs) c.hidden.lock_time

abbrev pub id_of : Contents → List ℕ
id_of c = transaction_id (transaction_of c)

-- the HTLC outputs, with their indices
abbrev pub htlc_at : ℕ → OutputKind → Option HtlcOutput
htlc_at index (ToHtlc d h) = Some (record { index = index; direction = d; htlc = h })
htlc_at index kind = None

unfoldable pub htlcs_from : ℕ → List CommitmentOutput → List HtlcOutput
htlcs_from index [] = []
htlcs_from index (o ∷ os) = cons_option (htlc_at index o.kind) (htlcs_from (index + 1) os)

abbrev pub htlcs_of : Contents → List HtlcOutput
htlcs_of c = htlcs_from 0 c.outputs

-- HTLC-timeout has the expiry as its lock time, HTLC-success has 0
abbrev pub lock_time_of : Direction → Htlc → ℕ
lock_time_of Offered h = h.expiry_height
lock_time_of Received h = 0

-- the output of an HTLC transaction: the HTLC's satoshis less the fee, in the form of to_local
abbrev pub htlc_tx_output : Contents → HtlcOutput → Output
htlc_tx_output c h = record {
  value = satoshis_of h.htlc.amount_msat - fee_sat_of (htlc_weight h.direction) c.feerate_per_kw;
  script = script_hash_program (to_local_script c.delay_blocks c.keys);
}

-- the HTLC transaction of an HTLC's output
unfoldable pub htlc_tx_of : Contents → HtlcOutput → Transaction
htlc_tx_of c h = spending (record { txid = id_of c; index = h.index }) 0
    (htlc_tx_output c h ∷ []) (lock_time_of h.direction h.htlc)

-- the HTLC transaction of the k-th untrimmed HTLC in the order of outputs, from 0, if there is one
unfoldable pub htlc_tx_at : Contents → ℕ → Option Transaction
htlc_tx_at c k = option_map (htlc_tx_of c) (slice_get (htlcs_of c) k)

-- an HTLC output has the HTLC's satoshis and its script
abbrev pub IsHtlcOf : KeyBytes → CommitmentOutput → OutputKind → Type 0
IsHtlcOf k o ToLocal = Unit {0}
IsHtlcOf k o ToRemote = Unit {0}
IsHtlcOf k o (ToHtlc direction h) = (o.value ≡ satoshis_of h.amount_msat) × (o.script ≡ htlc_script k direction h)

-- an output keeps the limits of a transaction's
pub record IsTxOutput (o : CommitmentOutput) : Type 0 where
  pub value : o.value ≤ MAX_VALUE
  pub program : length o.program ≤ MAX_BYTES

pub record IsOutputOf (k : KeyBytes) (o : CommitmentOutput) : Type 0 where
  pub limits : IsTxOutput o
  pub htlc : IsHtlcOf k o o.kind

-- what a commitment keeps besides its contents: its transaction and id, its HTLCs, and the program of their second stage
pub record Keeps (c : Contents) (transaction : Transaction) (id : List ℕ) (htlcs : List HtlcOutput) (second_stage_program : List ℕ) : Type 0 where
  pub transaction_is : transaction ≡ transaction_of c
  pub id_is : id ≡ id_of c
  pub htlcs_are : htlcs ≡ htlcs_of c
  pub program_is : second_stage_program ≡ script_hash_program (to_local_script c.delay_blocks c.keys)
  pub few : length c.outputs ≤ MAX_OUTPUTS
  pub outputs_are : All (λ o. IsOutputOf c.keys o) c.outputs
