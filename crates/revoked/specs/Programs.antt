-- The outputs of a revoked commitment, by their programs (BOLT 3, "Commitment Transaction Outputs").
use Rattle.std.specs.Prelude.{◌≡◌, ℕ, List, [], ◌∷◌, map, Option}
use Rattle.std.specs.List.{find}
use Rattle.std.specs.Str.{bytes_eq}
use Rattle.digest.specs.Hash.{hash160}
use Rattle.digest.specs.Ripemd160.{ripemd160}
use Rattle.script.specs.Spelling.{spelling}
use Rattle.sighash.specs.Programs.{script_hash_program, key_hash_program}
use Rattle.paths.specs.Listing.{CheckedScript}
use Rattle.claim.specs.declared.parts.Place.{Place}
use Rattle.claim.specs.declared.parts.Shell.TheVariants.{Open}
use Rattle.forms.specs.Forms.{to_local_form, key_hash_form}
use Rattle.forms.specs.Fillings.{Signature, Bytes}
use Rattle.anchor_forms.specs.declared.channel_types.ChannelType.{ChannelType}
use Rattle.anchor_forms.specs.Forms.{offered_form_in, received_form_in}
use Rattle.commit.specs.declared.fees.Direction.{Direction}
use Rattle.commit.specs.declared.fees.Direction.TheVariants.{Offered, Received}
use Rattle.commit.specs.Keys.{KeyBytes}
use Rattle.penalty.specs.Claimable.{Claimable, claimable_with}
use Rattle.revoked.specs.declared.outputs.RevokedHtlc.{RevokedHtlc}
use Rattle.revoked.specs.declared.outputs.RevokedOutput.{RevokedOutput}
use Rattle.revoked.specs.declared.outputs.RevokedOutput.TheVariants.{ToLocal, ToRemote, ToHtlc}
use Rattle.revoked.specs.Parts.{RevokedParts}

-- the form of an HTLC's output, in a channel of a type
abbrev pub form_by : ChannelType → KeyBytes → Direction → List ℕ → ℕ → CheckedScript
form_by t k Offered hash expiry_height =
    offered_form_in t (hash160 k.revocation) k.remote_htlc k.local_htlc (ripemd160 hash)
form_by t k Received hash expiry_height = received_form_in t (hash160 k.revocation) k.remote_htlc
    k.local_htlc (ripemd160 hash) expiry_height

abbrev pub form_of_htlc : ChannelType → KeyBytes → RevokedHtlc → CheckedScript
form_of_htlc t k h = form_by t k h.direction h.hash h.expiry.height

-- the program of an HTLC's output
abbrev pub htlc_program : ChannelType → KeyBytes → RevokedHtlc → List ℕ
htlc_program t k h = script_hash_program (spelling (form_of_htlc t k h).ops)

-- the form of an output, and the program that stands for it. to_local has one script in both types of channels; with anchors to_remote has another one, which is
-- not known here
abbrev pub known_form : RevokedParts → RevokedOutput → CheckedScript
known_form r ToLocal = to_local_form r.keys.revocation r.delay_blocks r.keys.delayed
known_form r ToRemote = key_hash_form (hash160 r.keys.remote)
known_form r (ToHtlc h) = form_of_htlc r.channel_type r.keys h

abbrev pub known_program : RevokedParts → RevokedOutput → List ℕ
known_program r ToLocal = script_hash_program (spelling (known_form r ToLocal).ops)
known_program r ToRemote = key_hash_program r.keys.remote
known_program r (ToHtlc h) = htlc_program r.channel_type r.keys h

-- the outputs whose programs are known, in the order in which a program is compared with theirs
abbrev pub known_outputs : RevokedParts → List RevokedOutput
known_outputs r = ToLocal ∷ ToRemote ∷ map ToHtlc r.htlcs

-- the first of them that has a program
unfoldable pub output_with : RevokedParts → List ℕ → Option RevokedOutput
output_with r program = find (λ o. bytes_eq (known_program r o) program) (known_outputs r)

-- the first HTLC whose output has it
abbrev pub htlc_with : ChannelType → KeyBytes → List RevokedHtlc → List ℕ → Option RevokedHtlc
htlc_with t k htlcs program = find (λ h. bytes_eq (htlc_program t k h) program) htlcs

-- the claim on to_local, or on the output of an HTLC transaction, at a place: by the revocation key, in any transaction
abbrev pub claim_on_to_local : KeyBytes → ℕ → Place → Claimable
claim_on_to_local k delay_blocks place = claimable_with place
    (to_local_form k.revocation delay_blocks k.delayed) 0
    (Bytes (1 ∷ []) ∷ Signature k.revocation ∷ []) Open

-- on to_remote without anchors, the hash of the peer's payment key: by that key
abbrev pub claim_on_to_remote : KeyBytes → Place → Claimable
claim_on_to_remote k place = claimable_with place (key_hash_form (hash160 k.remote)) 0
    (Bytes k.remote ∷ Signature k.remote ∷ []) Open

-- on an HTLC's output: by the revocation key
abbrev pub claim_on_htlc : ChannelType → KeyBytes → RevokedHtlc → Place → Claimable
claim_on_htlc t k h place = claimable_with place (form_of_htlc t k h) 0
    (Bytes k.revocation ∷ Signature k.revocation ∷ []) Open

abbrev pub claim_on : RevokedParts → RevokedOutput → Place → Claimable
claim_on r ToLocal place = claim_on_to_local r.keys r.delay_blocks place
claim_on r ToRemote place = claim_on_to_remote r.keys place
claim_on r (ToHtlc h) place = claim_on_htlc r.channel_type r.keys h place

-- the programs of a commitment, with its HTLCs by theirs
pub record HasPrograms (r : RevokedParts) (to_local to_remote : List ℕ)
    (noted : List ℕ → Option RevokedHtlc) : Type 0 where
  pub local : to_local ≡ known_program r ToLocal
  pub remote : to_remote ≡ known_program r ToRemote
  pub htlcs : (program : List ℕ) → noted program ≡ htlc_with r.channel_type r.keys r.htlcs program
