-- Which claims there are on a commitment, and the outpoints that they are at.
use Rattle.std.specs.Prelude.{◌≡◌, ℕ, List, Some, slice_get}
use Rattle.std.specs.List.{Contains}
use Rattle.tx.specs.declared.input.OutPoint.{OutPoint}
use Rattle.tx.specs.Spelling.{transaction_id}
use Rattle.claim.specs.declared.parts.Place.{Place}
use Rattle.commit.specs.declared.outputs.OutputKind.{OutputKind}
use Rattle.commit.specs.declared.outputs.OutputKind.TheVariants.{ToLocal, ToRemote, ToHtlc}
use Rattle.commit.specs.declared.outputs.CommitmentOutput.{CommitmentOutput}
use Rattle.commit.specs.declared.outputs.HtlcOutput.{HtlcOutput}
use Rattle.commit.specs.Commitments.{Contents, tx_output, transaction_of, id_of, htlcs_of, htlc_tx_of}
use Rattle.penalty.specs.Claimable.{Claimable, place_in, penalty_on, payment_on, htlc_penalty_on, second_stage_penalty, claims_from, commitment_in}
use Rattle.resolve.specs.declared.verdicts.Verdict.{Verdict}
use Rattle.resolve.specs.declared.known.RevokedCommitment.{RevokedCommitment}
use Rattle.resolve.specs.declared.known.Known.{Known}
use Rattle.resolve.specs.Due.{delayed_on, second_stage_on, delayed_second_stage, direct_on, owners_due, peers_due, due_of}

-- the place of a commitment's output at an index
abbrev pub place_at : Contents → ℕ → CommitmentOutput → Place
place_at c index output = place_in (transaction_of c) index (tx_output output)

-- at an index of the commitment stands this output, which is of a kind
pub record IsAt (c : Contents) (index : ℕ) (output : CommitmentOutput) (of : OutputKind) : Type 0 where
  pub there : slice_get c.outputs index ≡ Some output
  pub kind : output.kind ≡ of

-- at the index of an HTLC of the commitment stands this output, which is the HTLC's
pub record IsHtlcAt (c : Contents) (h : HtlcOutput) (output : CommitmentOutput) : Type 0 where
  pub at : IsAt c h.index output (ToHtlc h.direction h.htlc)
  pub among : Contains (htlcs_of c) h

-- what a commitment's owner claims of it: to_local, an HTLC's output by the HTLC transaction, and the output of that
pub data IsOwnersClaim (c : Contents) (o : Claimable) : Type 0 where
  delayed : (index : ℕ) (output : CommitmentOutput) → IsAt c index output ToLocal → o ≡ delayed_on c (place_at c index output) → IsOwnersClaim c o
  second_stage : (h : HtlcOutput) (output : CommitmentOutput) → IsHtlcAt c h output → o ≡ second_stage_on c h (place_at c h.index output) → IsOwnersClaim c o
  delayed_second : (h : HtlcOutput) (output : CommitmentOutput) → IsHtlcAt c h output → o ≡ delayed_second_stage c h → IsOwnersClaim c o

-- what its peer claims of it: to_remote, and an HTLC's output by its own key
pub data IsPeersClaim (c : Contents) (o : Claimable) : Type 0 where
  payment : (index : ℕ) (output : CommitmentOutput) → IsAt c index output ToRemote → o ≡ payment_on c (place_at c index output) → IsPeersClaim c o
  direct : (h : HtlcOutput) (output : CommitmentOutput) → IsHtlcAt c h output → o ≡ direct_on c h.direction h.htlc (place_at c h.index output) → IsPeersClaim c o

-- what its peer claims of it once it is revoked: each output, and that of each HTLC transaction
pub data IsRevokedClaim (c : Contents) (o : Claimable) : Type 0 where
  penalty : (index : ℕ) (output : CommitmentOutput) → IsAt c index output ToLocal → o ≡ penalty_on c (place_at c index output) → IsRevokedClaim c o
  own_payment : (index : ℕ) (output : CommitmentOutput) → IsAt c index output ToRemote → o ≡ payment_on c (place_at c index output) → IsRevokedClaim c o
  htlc_penalty : (h : HtlcOutput) (output : CommitmentOutput) → IsHtlcAt c h output → o ≡ htlc_penalty_on c h.direction h.htlc (place_at c h.index output) → IsRevokedClaim c o
  second_penalty : (h : HtlcOutput) (output : CommitmentOutput) → IsHtlcAt c h output → o ≡ second_stage_penalty c h → IsRevokedClaim c o

-- an outpoint is that of an output of the commitment transaction, or that of the only output of one of its HTLC transactions
pub data IsOutPointOf (c : Contents) (o : OutPoint) : Type 0 where
  of_output : (index : ℕ) (output : CommitmentOutput) → slice_get c.outputs index ≡ Some output → o ≡ record { txid = id_of c; index = index } → IsOutPointOf c o
  of_second_stage : (h : HtlcOutput) → Contains (htlcs_of c) h → o ≡ record { txid = transaction_id (htlc_tx_of c h); index = 0 } → IsOutPointOf c o

-- what is due to the owner of a commitment is one of the owner's claims, at such an outpoint
abbrev pub OwnersPlaces : Type 0
OwnersPlaces = (preimages : List (List ℕ)) (c : Contents) (o : Claimable) → Contains (owners_due preimages c) o → IsOwnersClaim c o × IsOutPointOf c o.place.outpoint

-- what is due to its peer is one of the peer's
abbrev pub PeersPlaces : Type 0
PeersPlaces = (preimages : List (List ℕ)) (c : Contents) (o : Claimable) → Contains (peers_due preimages c) o → IsPeersClaim c o × IsOutPointOf c o.place.outpoint

-- what its peer can claim once it is revoked is one of those
abbrev pub RevokedPlaces : Type 0
RevokedPlaces = (c : Contents) (o : Claimable) → Contains (claims_from c 0 c.outputs) o → IsRevokedClaim c o × IsOutPointOf c o.place.outpoint

-- which commitment a claim is on, by what is known of a channel: one's own newest; the peer's newest, or the one after it; or a revoked one
pub data IsKnownDue (known : Known) (o : Claimable) : Type 0 where
  on_own : Contains (owners_due known.preimages known.own.commitment) o → IsKnownDue known o
  on_theirs : Contains (peers_due known.preimages known.theirs) o → IsKnownDue known o
  on_next : (c : Contents) → known.next ≡ Some c → Contains (peers_due known.preimages c) o → IsKnownDue known o
  on_revoked : (n : ℕ) (r : RevokedCommitment) → slice_get known.revoked n ≡ Some r → r.state.number ≡ n
      → Contains (claims_from (commitment_in r.state) 0 (commitment_in r.state).outputs) o → IsKnownDue known o

-- what is due by a verdict is on such a commitment
abbrev pub KnownPlaces : Type 0
KnownPlaces = (known : Known) (v : Verdict) (o : Claimable) → Contains (due_of known v) o → IsKnownDue known o
