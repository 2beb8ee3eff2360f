-- What a revoked commitment lets its owner's peer claim (BOLT 5, "Revoked Transaction Close Handling").
use Rattle.std.specs.Prelude.{ℕ, ◌+◌, List, [], ◌∷◌, ◌++◌}
use Rattle.digest.specs.Hash.{hash160}
use Rattle.digest.specs.Ripemd160.{ripemd160}
use Rattle.tx.specs.Parts.{Output}
use Rattle.tx.specs.Fields.{Transaction}
use Rattle.tx.specs.Spelling.{outpoint_at}
use Rattle.keys.specs.Derivation.{point_of}
use Rattle.terms.specs.declared.htlcs.Htlc.{Htlc}
use Rattle.paths.specs.Listing.{CheckedScript}
use Rattle.claim.specs.declared.parts.Place.{Place}
use Rattle.claim.specs.declared.parts.Shell.{Shell}
use Rattle.claim.specs.declared.parts.Shell.TheVariants.{Open}
use Rattle.commit.specs.declared.fees.Direction.{Direction}
use Rattle.commit.specs.declared.fees.Direction.TheVariants.{Offered, Received}
use Rattle.commit.specs.declared.outputs.OutputKind.{OutputKind}
use Rattle.commit.specs.declared.outputs.OutputKind.TheVariants.{ToLocal, ToRemote, ToHtlc}
use Rattle.commit.specs.declared.outputs.CommitmentOutput.{CommitmentOutput}
use Rattle.commit.specs.declared.outputs.HtlcOutput.{HtlcOutput}
use Rattle.commit.specs.Keys.{KeyBytes}
use Rattle.commit.specs.Commitments.{Contents, commitment_of, tx_output, transaction_of, htlc_tx_output, htlc_tx_of}
use Rattle.forms.specs.Forms.{to_local_form, key_hash_form, offered_form, received_form}
use Rattle.forms.specs.Fillings.{Filling, Signature, Bytes}
use Rattle.penalty.specs.declared.states.RevokedState.{RevokedState}

-- an output that may be claimed: its place, and its script with the paths through it. Then the path that is taken, what fills its slots with the
-- top of the stack first, and the transaction round the claim
pub record Claimable : Type 0 where
  pub place : Place
  pub form : CheckedScript
  pub path : ℕ
  pub slots : List Filling
  pub shell : Shell

-- the output with these parts
abbrev pub claimable_with : Place → CheckedScript → ℕ → List Filling → Shell → Claimable
claimable_with place form path slots shell =
    record { place = place; form = form; path = path; slots = slots; shell = shell }

-- the place of an output of a transaction
abbrev pub place_in : Transaction → ℕ → Output → Place
place_in t index o = record { outpoint = outpoint_at t index; value = o.value; program = o.script }

-- a penalty on to_local, or on the output of an HTLC transaction: by the revocation key
abbrev pub penalty_on : Contents → Place → Claimable
penalty_on c place = claimable_with place (to_local_form c.keys.revocation c.delay_blocks c.keys.delayed) 0
    (Bytes (1 ∷ []) ∷ Signature c.keys.revocation ∷ []) Open

-- to_remote: by the peer's payment key
abbrev pub payment_on : Contents → Place → Claimable
payment_on c place = claimable_with place (key_hash_form (hash160 c.keys.remote)) 0
    (Bytes c.keys.remote ∷ Signature c.keys.remote ∷ []) Open

-- the form of an HTLC's output
abbrev pub htlc_form : KeyBytes → Direction → Htlc → CheckedScript
htlc_form k Offered h =
    offered_form (hash160 k.revocation) k.remote_htlc k.local_htlc (ripemd160 h.hash)
htlc_form k Received h =
    received_form (hash160 k.revocation) k.remote_htlc k.local_htlc (ripemd160 h.hash) h.expiry_height

-- a penalty on an HTLC's output: by the revocation key
abbrev pub htlc_penalty_on : Contents → Direction → Htlc → Place → Claimable
htlc_penalty_on c direction h place = claimable_with place (htlc_form c.keys direction h) 0
    (Bytes c.keys.revocation ∷ Signature c.keys.revocation ∷ []) Open

-- the output of the one HTLC transaction that the peer signed for an HTLC: HTLC-timeout where the owner offered it, else HTLC-success
abbrev pub second_stage_penalty : Contents → HtlcOutput → Claimable
second_stage_penalty c h = penalty_on c (place_in (htlc_tx_of c h) 0 (htlc_tx_output c h))

-- what an output at an index lets the peer claim
abbrev pub claims_on : Contents → ℕ → Place → OutputKind → List Claimable
claims_on c index place ToLocal = penalty_on c place ∷ []
claims_on c index place ToRemote = payment_on c place ∷ []
claims_on c index place (ToHtlc direction h) = htlc_penalty_on c direction h place
    ∷ second_stage_penalty c (record { index = index; direction = direction; htlc = h }) ∷ []

-- what the outputs from an index on let the peer claim, by a rule for one output at an index and a place
unfoldable pub claims_by : (ℕ → Place → OutputKind → List Claimable) → Contents → ℕ
    → List CommitmentOutput → List Claimable
claims_by on c index [] = []
claims_by on c index (o ∷ os) = on index (place_in (transaction_of c) index (tx_output o)) o.kind
    ++ claims_by on c (index + 1) os

abbrev pub claims_from : Contents → ℕ → List CommitmentOutput → List Claimable
claims_from c = claims_by (claims_on c) c

-- the revoked commitment, with the point of the secret
abbrev pub commitment_in : RevokedState → Contents
commitment_in s = commitment_of s.terms s.view s.owner s.number (point_of s.secret)

-- what a revoked state lets the owner's peer claim, in the order of outputs, each HTLC followed by the output of its HTLC transaction
unfoldable pub claimable_of : RevokedState → List Claimable
claimable_of state = claims_from (commitment_in state) 0 (commitment_in state).outputs
