-- What is due on the chain, by the commitment that closed the channel (BOLT 5, "Unilateral Close Handling").
use Rattle.std.specs.Prelude.{ℕ, Bool, ◌&&◌, not, ◌==◌, if◌then◌else◌, List, [], ◌∷◌, Option, Some, None, slice_get}
use Rattle.std.specs.Str.{bytes_eq}
use Rattle.digest.specs.Hash.{hash160}
use Rattle.digest.specs.Ripemd160.{ripemd160}
use Rattle.script.specs.Token.{token_of}
use Rattle.terms.specs.declared.htlcs.Htlc.{Htlc}
use Rattle.claim.specs.declared.parts.Place.{Place}
use Rattle.claim.specs.declared.parts.Shell.TheVariants.{Open, Fixed}
use Rattle.forms.specs.Forms.{to_local_form}
use Rattle.forms.specs.Fillings.{Filling, Signature, PreimageOf, Bytes}
use Rattle.commit.specs.declared.fees.Direction.{Direction}
use Rattle.commit.specs.declared.fees.Direction.TheVariants.{Offered, Received}
use Rattle.commit.specs.declared.outputs.OutputKind.{OutputKind}
use Rattle.commit.specs.declared.outputs.OutputKind.TheVariants.{ToLocal, ToRemote, ToHtlc}
use Rattle.commit.specs.declared.outputs.HtlcOutput.{HtlcOutput}
use Rattle.commit.specs.Keys.{KeyBytes}
use Rattle.commit.specs.Commitments.{Contents, htlc_tx_output, htlc_tx_of}
use Rattle.commit.specs.Signing.{htlc_digest}
use Rattle.penalty.specs.Claimable.{Claimable, place_in, payment_on, htlc_form, claims_by, claimable_of}
use Rattle.resolve.specs.declared.verdicts.Verdict.{Verdict}
use Rattle.resolve.specs.declared.verdicts.Verdict.TheVariants.{Ours, Theirs, TheirsNext, Revoked, Unknown}
use Rattle.resolve.specs.declared.known.RevokedCommitment.{RevokedCommitment}
use Rattle.resolve.specs.declared.known.Known.{Known}
use Rattle.resolve.specs.Preimages.{is_known}

-- Two claims are refused, and so never due. One is a timeout where the revocation key's hash is that of the empty item: the script would take the
-- empty item for the revocation key.
abbrev pub can_time_out : KeyBytes → Bool
can_time_out k = not (bytes_eq (hash160 k.revocation) (hash160 []))

-- The other is a preimage where the revocation key's hash is the RIPEMD-160 of the payment hash.
abbrev pub can_pay : KeyBytes → Htlc → Bool
can_pay k h = not (bytes_eq (hash160 k.revocation) (ripemd160 h.hash))

-- the owner of a commitment takes back what it offered, and is paid what it received if it knows the preimage
abbrev pub is_owners : List (List ℕ) → KeyBytes → Direction → Htlc → Bool
is_owners preimages k Offered h = can_time_out k
is_owners preimages k Received h = is_known preimages h.hash && can_pay k h

-- the owner's peer is paid what the owner offered, and takes back what the owner received
abbrev pub is_peers : List (List ℕ) → KeyBytes → Direction → Htlc → Bool
is_peers preimages k Offered h = is_known preimages h.hash && can_pay k h
is_peers preimages k Received h = can_time_out k

-- to_local, or the output of an HTLC transaction: by the owner's delayed key, after the delay
abbrev pub delayed_on : Contents → Place → Claimable
delayed_on c place = record {
  place = place;
  form = to_local_form c.keys.revocation c.delay_blocks c.keys.delayed;
  path = 1;
  slots = Bytes [] ∷ Signature c.keys.delayed ∷ [];
  shell = Open;
}

-- what spends the HTLC with both keys: the empty item for the timeout, or the preimage
abbrev pub item_with_both_keys : Direction → Htlc → Filling
item_with_both_keys Offered h = Bytes []
item_with_both_keys Received h = PreimageOf h.hash

-- an HTLC's output by the HTLC transaction, with the token that the owner's peer gave for it
abbrev pub second_stage_on : Contents → HtlcOutput → Place → Claimable
second_stage_on c h place = record {
  place = place;
  form = htlc_form c.keys h.direction h.htlc;
  path = 1;
  slots = item_with_both_keys h.direction h.htlc ∷ Signature c.keys.local_htlc ∷ Bytes (token_of c.keys.remote_htlc (htlc_digest c h)) ∷ Bytes [] ∷ [];
  shell = Fixed (htlc_tx_of c h);
}

-- the output of that transaction
abbrev pub delayed_second_stage : Contents → HtlcOutput → Claimable
delayed_second_stage c h = delayed_on c (place_in (htlc_tx_of c h) 0 (htlc_tx_output c h))

-- what spends the HTLC with only the peer's key: the preimage, or the empty item for the timeout
abbrev pub item_with_peers_key : Direction → Htlc → Filling
item_with_peers_key Offered h = PreimageOf h.hash
item_with_peers_key Received h = Bytes []

-- an HTLC's output by the key of the owner's peer
abbrev pub direct_on : Contents → Direction → Htlc → Place → Claimable
direct_on c direction h place = record {
  place = place;
  form = htlc_form c.keys direction h;
  path = 2;
  slots = item_with_peers_key direction h ∷ Signature c.keys.remote_htlc ∷ [];
  shell = Open;
}

-- what an output at an index lets the commitment's owner claim
abbrev pub owners_on : List (List ℕ) → Contents → ℕ → Place → OutputKind → List Claimable
owners_on preimages c index place ToLocal = delayed_on c place ∷ []
owners_on preimages c index place ToRemote = []
owners_on preimages c index place (ToHtlc direction h) =
    if is_owners preimages c.keys direction h
    then second_stage_on c (record { index = index; direction = direction; htlc = h }) place ∷ delayed_second_stage c (record { index = index; direction = direction; htlc = h }) ∷ []
    else []

-- what an output lets the owner's peer claim
abbrev pub peers_on : List (List ℕ) → Contents → ℕ → Place → OutputKind → List Claimable
peers_on preimages c index place ToLocal = []
peers_on preimages c index place ToRemote = payment_on c place ∷ []
peers_on preimages c index place (ToHtlc direction h) = if is_peers preimages c.keys direction h then direct_on c direction h place ∷ [] else []

-- what all outputs let them claim, in order
unfoldable pub owners_due : List (List ℕ) → Contents → List Claimable
owners_due preimages c = claims_by (owners_on preimages c) c 0 c.outputs

unfoldable pub peers_due : List (List ℕ) → Contents → List Claimable
peers_due preimages c = claims_by (peers_on preimages c) c 0 c.outputs

-- the same for a commitment that may not be there
abbrev pub peers_due_if : List (List ℕ) → Option Contents → List Claimable
peers_due_if preimages None = []
peers_due_if preimages (Some c) = peers_due preimages c

-- the penalty set of a revoked commitment
abbrev pub penalties_if : Option RevokedCommitment → List Claimable
penalties_if None = []
penalties_if (Some r) = claimable_of r.state

-- a revoked commitment, if it has the number
abbrev pub if_number : ℕ → Option RevokedCommitment → Option RevokedCommitment
if_number n None = None
if_number n (Some r) = if r.state.number == n then Some r else None

-- the revoked commitment of a number; the list has them by number, from 0 on
abbrev pub revoked_at : Known → ℕ → Option RevokedCommitment
revoked_at known n = if_number n (slice_get known.revoked n)

-- what is due by a verdict, in the order of outputs
unfoldable pub due_of : Known → Verdict → List Claimable
due_of known Ours = owners_due known.preimages known.own.commitment
due_of known Theirs = peers_due known.preimages known.theirs
due_of known TheirsNext = peers_due_if known.preimages known.next
due_of known (Revoked n) = penalties_if (revoked_at known n)
due_of known Unknown = []
