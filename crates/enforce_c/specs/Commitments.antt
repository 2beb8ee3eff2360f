-- The commitment that rows are of, or why there is none.
use Rattle.std.specs.Prelude.{◌≡◌, ℕ, true, false, ◌+◌, ◌==◌, nat_lt, if◌then◌else◌, List, [], ◌∷◌, Option, Some, None, Result, Ok, Err}
use Rattle.script.specs.Token.{is_key}
use Rattle.script.specs.declared.limits.TheConstants.{LOCKTIME_THRESHOLD}
use Rattle.anchor_forms.specs.declared.channel_types.ChannelType.{ChannelType}
use Rattle.anchor_forms.specs.declared.channel_types.ChannelType.TheVariants.{StaticRemoteKey, Anchors}
use Rattle.commit.specs.declared.fees.Direction.{Direction}
use Rattle.commit.specs.declared.fees.Direction.TheVariants.{Offered, Received}
use Rattle.commit.specs.Keys.{KeyBytes}
use Rattle.revoked.specs.Parts.{RevokedParts}
use Rattle.revoked.specs.declared.outputs.RevokedHtlc.{RevokedHtlc}
use Rattle.unilateral.specs.declared.closes.Whose.{Whose}
use Rattle.unilateral.specs.declared.closes.Whose.TheVariants.{Ours, Theirs}
use Rattle.unilateral.specs.declared.names.FundingKeys.{FundingKeys}
use Rattle.enforce_c.specs.declared.commitment_rows.Commitment.{Commitment}
use Rattle.enforce_c.specs.declared.commitment_rows.HtlcRow.{HtlcRow}
use Rattle.enforce_c.specs.declared.statuses.Refusal.{Refusal}
use Rattle.enforce_c.specs.declared.statuses.Refusal.TheVariants.{NoSuchChannelType, NotACommitmentKey, NoSuchDirection, ExpiryTooLarge, NoSuchClose}
use Rattle.enforce_c.specs.Claimed.{or_then}

-- the type of a channel
abbrev pub channel_type_of : ℕ → Result ChannelType Refusal
channel_type_of kind =
    if kind == 1 then Ok StaticRemoteKey
    else if kind == 2 then Ok Anchors
    else Err NoSuchChannelType

-- why what a call answers is refused, if it is
abbrev pub fault_in : {A : Type 0} → Result A Refusal → Option Refusal
fault_in (Ok x) = None
fault_in (Err e) = Some e

-- ---- keys

-- why bytes are not the key of this number, if they are none
abbrev pub key_fault : List ℕ → ℕ → Option Refusal
key_fault key number = if is_key key then None else Some (NotACommitmentKey number)

-- in the order of the fields
abbrev pub keys_fault : Commitment → Option Refusal
keys_fault c = or_then (key_fault c.revocation 0) (or_then (key_fault c.delayed 1) (or_then (key_fault c.local_htlc 2) (or_then (key_fault c.remote_htlc 3) (key_fault c.remote 4))))

abbrev pub key_bytes_of : Commitment → KeyBytes
key_bytes_of c = record {
  revocation = c.revocation;
  delayed = c.delayed;
  local_htlc = c.local_htlc;
  remote_htlc = c.remote_htlc;
  remote = c.remote;
}

-- those of the funding output come after, if they are told
abbrev pub funding_fault : Commitment → Option Refusal
funding_fault c = if c.has_funding_keys then or_then (key_fault c.own_funding 5) (key_fault c.peers_funding 6) else None

abbrev pub IsFundingOf : Commitment → Option FundingKeys → Type 0
IsFundingOf c None = c.has_funding_keys ≡ false
IsFundingOf c (Some f) = (c.has_funding_keys ≡ true) × (f.ours.bytes ≡ c.own_funding) × (f.peers.bytes ≡ c.peers_funding)

-- ---- HTLCs

-- why there is no direction of the HTLC of an index, if there is none
abbrev pub direction_fault : ℕ → ℕ → Option Refusal
direction_fault kind index =
    if kind == 1 then None
    else if kind == 2 then None
    else Some (NoSuchDirection index)

abbrev pub IsDirection : ℕ → Direction → Type 0
IsDirection kind Offered = kind ≡ 1
IsDirection kind Received = kind ≡ 2

-- why a row is of no HTLC, if it is of none: its direction, then its expiry, which is a height (BIP 65)
abbrev pub htlc_fault : HtlcRow → ℕ → Option Refusal
htlc_fault row index = or_then (direction_fault row.direction index) (if nat_lt row.expiry_height LOCKTIME_THRESHOLD then None else Some (ExpiryTooLarge index))

-- the row is of this HTLC
pub record IsHtlcOf (row : HtlcRow) (h : RevokedHtlc) : Type 0 where
  pub direction : IsDirection row.direction h.direction
  pub hash : h.hash ≡ row.hash
  pub expiry : h.expiry.height ≡ row.expiry_height

-- the same of rows from an index on, one by one
abbrev pub htlcs_fault : ℕ → List HtlcRow → Option Refusal
htlcs_fault index [] = None
htlcs_fault index (row ∷ rows) = or_then (htlc_fault row index) (htlcs_fault (index + 1) rows)

abbrev pub AreHtlcsOf : List HtlcRow → List RevokedHtlc → Type 0
AreHtlcsOf [] [] = Unit {0}
AreHtlcsOf (row ∷ rows) (h ∷ hs) = IsHtlcOf row h × AreHtlcsOf rows hs
AreHtlcsOf rows hs = ⊥

-- ---- the commitment

-- whose commitment it is
abbrev pub whose_of : ℕ → Result Whose Refusal
whose_of kind =
    if kind == 1 then Ok Ours
    else if kind == 2 then Ok Theirs
    else Err NoSuchClose

-- the first fault of the rows, in this order: the type of the channel, each key, each HTLC
abbrev pub commitment_fault : Commitment → List HtlcRow → Option Refusal
commitment_fault c htlcs =
    or_then (fault_in (channel_type_of c.channel_type)) (or_then (keys_fault c) (or_then (funding_fault c) (htlcs_fault 0 htlcs)))

-- the rows are of this commitment, and these are the funding keys
pub record IsCommitmentOf (c : Commitment) (rows : List HtlcRow) (r : RevokedParts) (funding_keys : Option FundingKeys) : Type 0 where
  pub channel_type : channel_type_of c.channel_type ≡ Ok r.channel_type
  pub keyed : keys_fault c ≡ None
  pub keys : r.keys ≡ key_bytes_of c
  pub delay : r.delay_blocks ≡ c.delay_blocks
  pub funded : funding_fault c ≡ None
  pub funding : IsFundingOf c funding_keys
  pub faultless : htlcs_fault 0 rows ≡ None
  pub htlcs : AreHtlcsOf rows r.htlcs
