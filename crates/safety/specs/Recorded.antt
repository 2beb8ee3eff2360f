-- What holds of the transactions of each commitment, whichever side recorded it.
use Rattle.std.specs.Prelude.{◌≡◌, ◌<◌, ◌^◌, length}
use Rattle.std.specs.List.{Contains}
use Rattle.tx.specs.declared.input.OutPoint.{OutPoint}
use Rattle.tx.specs.Fields.{Transaction, KeepsLimits}
use Rattle.terms.specs.declared.agreement.Terms.{Terms}
use Rattle.commit.specs.declared.outputs.HtlcOutput.{HtlcOutput}
use Rattle.commit.specs.Commitments.{Contents, transaction_of, htlcs_of, htlc_tx_of}
use Rattle.penalty.specs.Paying.{CanPay}
use Rattle.channel.specs.declared.commitments.CommitmentState.{CommitmentState}
use Rattle.channel.specs.Tokens.{contents_of}

-- an outpoint has 32 bytes and an index of 32 bits
pub record IsOutPoint (o : OutPoint) : Type 0 where
  pub txid : length o.txid ≡ 32
  pub index : o.index < 2 ^ 32

-- a commitment of the terms. They have a funding output, a commitment can pay the view, and a transaction can carry the number
pub record IsPayable (terms : Terms) (k : CommitmentState) : Type 0 where
  pub funding : IsOutPoint terms.funding
  pub view : CanPay terms k.view
  pub number : k.number < 2 ^ 48

-- a transaction of a commitment, without witnesses: the commitment transaction, or an HTLC transaction that spends an output of it
pub data IsOfCommitment (c : Contents) (t : Transaction) : Type 0 where
  of_commitment : t ≡ transaction_of c → IsOfCommitment c t
  of_htlc : (h : HtlcOutput) → Contains (htlcs_of c) h → t ≡ htlc_tx_of c h
      → IsOfCommitment c t

-- each of them keeps the limits of a transaction
abbrev pub RecordedLimits : Type 0
RecordedLimits = (terms : Terms) (k : CommitmentState) → IsPayable terms k → (t : Transaction) → IsOfCommitment (contents_of terms k) t → KeepsLimits t

-- commitments of one channel that have one transaction have one number
abbrev pub SameNumber : Type 0
SameNumber =
    (terms : Terms) (k m : CommitmentState) → k.number < 2 ^ 48 → m.number < 2 ^ 48
    → transaction_of (contents_of terms k) ≡ transaction_of (contents_of terms m) → k.number ≡ m.number
