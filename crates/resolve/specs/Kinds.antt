-- The kinds of claims on HTLCs, and what they need.
use Rattle.std.specs.Prelude.{◌≡◌, ℕ, true, List}
use Rattle.terms.specs.declared.htlcs.Htlc.{Htlc}
use Rattle.claim.specs.declared.parts.Place.{Place}
use Rattle.forms.specs.declared.kinds.ClaimKind.{ClaimKind}
use Rattle.forms.specs.declared.kinds.ClaimKind.TheVariants.{DirectPreimage, DirectTimeout, HtlcTimeout, HtlcSuccess}
use Rattle.commit.specs.declared.fees.Direction.{Direction}
use Rattle.commit.specs.declared.fees.Direction.TheVariants.{Offered, Received}
use Rattle.commit.specs.declared.derived.CommitmentKeys.{CommitmentKeys}
use Rattle.commit.specs.declared.outputs.HtlcOutput.{HtlcOutput}
use Rattle.commit.specs.Fees.{satoshis_of}
use Rattle.commit.specs.Keys.{KeyBytes}
use Rattle.sighash.specs.Programs.{script_hash_program}
use Rattle.commit.specs.Outputs.{htlc_script}
use Rattle.commit.specs.Commitments.{Contents, id_of}
use Rattle.resolve.specs.Due.{can_time_out, can_pay}

-- the kind of claim of the owner's peer
abbrev pub direct_kind_of : CommitmentKeys → Direction → Htlc → ClaimKind
direct_kind_of k Offered h = DirectPreimage h.hash k.remote_htlc
direct_kind_of k Received h = DirectTimeout k.remote_htlc

-- the kind of claim of the owner, with the peer's token
abbrev pub second_stage_kind_of : CommitmentKeys → Direction → Htlc → List ℕ → ClaimKind
second_stage_kind_of k Offered h token = HtlcTimeout k.local_htlc token
second_stage_kind_of k Received h token = HtlcSuccess h.hash k.local_htlc token

-- such a claim is neither of the two that are refused
abbrev pub IsDirect : KeyBytes → Direction → Htlc → Type 0
IsDirect k Offered h = can_pay k h ≡ true
IsDirect k Received h = can_time_out k ≡ true

abbrev pub IsSecondStage : KeyBytes → Direction → Htlc → Type 0
IsSecondStage k Offered h = can_time_out k ≡ true
IsSecondStage k Received h = can_pay k h ≡ true

-- the place of an HTLC's output: its outpoint, value and program
pub record IsHtlcPlace (c : Contents) (h : HtlcOutput) (place : Place) : Type 0 where
  pub id : place.outpoint.txid ≡ id_of c
  pub index : place.outpoint.index ≡ h.index
  pub value : place.value ≡ satoshis_of h.htlc.amount_msat
  pub program : place.program ≡ script_hash_program (htlc_script c.keys h.direction h.htlc)
