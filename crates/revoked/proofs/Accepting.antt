-- Claims on the forms of a revoked commitment's outputs are accepted, where the programs stand for them.
use Rattle.std.proofs.Common.{◌≡◌, ℕ, true, List, [], ◌∷◌, map, length, refl, sym, ap, subst, ◌∙◌}
use Rattle.std.specs.Str.{bytes_eq}
use Rattle.std.proofs.lemmas.Bool.{or_left, or_right}
use Rattle.std.proofs.lemmas.Slice.Eq.{bytes_eq-Decides}
use Rattle.digest.specs.Hash.{hash160}
use Rattle.digest.proofs.OutsideVectors.{length-ripemd160}
use Rattle.script.specs.Spelling.{spelling}
use Rattle.sighash.specs.Programs.{script_hash_program, key_hash_program, key_hash_script}
use Rattle.terms.specs.Scripts.{key_hash}
use Rattle.paths.specs.Listing.{CheckedScript}
use Rattle.claim.specs.declared.parts.Place.{Place}
use Rattle.claim.specs.declared.parts.Shell.{Shell}
use Rattle.claim.specs.declared.parts.Shell.TheVariants.{Open}
use Rattle.claim.specs.Claims.{ClaimParts}
use Rattle.claim.specs.Judgement.{is_key_program, is_program}
use Rattle.forms.specs.declared.kinds.ClaimKind.{ClaimKind}
use Rattle.forms.specs.Claims.{path_taken_by}
use Rattle.forms.specs.Forms.{key_hash_form}
use Rattle.forms.specs.Fillings.{Filling, Signature, Bytes, filling_of, fillings_of}
use Rattle.anchor_forms.specs.declared.channel_types.ChannelType.{ChannelType}
use Rattle.anchor_forms.specs.declared.channel_types.ChannelType.TheVariants.{StaticRemoteKey, Anchors}
use Rattle.anchor_forms.specs.Penalties.{IsPenaltyForm, IsPenaltyOn}
use Rattle.commit.specs.declared.fees.Direction.{Direction}
use Rattle.commit.specs.declared.fees.Direction.TheVariants.{Offered, Received}
use Rattle.commit.specs.declared.derived.CommitmentKeys.{CommitmentKeys}
use Rattle.commit.specs.Keys.{KeyBytes, bytes_of}
use Rattle.penalty.specs.Claimable.{Claimable, claimable_with}
use Rattle.penalty.specs.Sets.{IsClaimOn}
use Rattle.revoked.specs.declared.outputs.RevokedHtlc.{RevokedHtlc}
use Rattle.revoked.specs.Programs.{form_by, form_of_htlc, claim_on_htlc}

same_bytes : (xs : List ℕ) → bytes_eq xs xs ≡ true
same_bytes xs = (bytes_eq-Decides xs xs).1 refl

-- a program that is the hash of the script
stands_for : (script program : List ℕ) → program ≡ script_hash_program script → is_program script program ≡ true
stands_for script program e = rw e (or_left _ _ (same_bytes (script_hash_program script)))

-- of a form, the program that is the hash of its script
pub by_hash : (form checked : CheckedScript) (program : List ℕ) → checked ≡ form → program ≡ script_hash_program (spelling form.ops) → is_program (spelling checked.ops) program ≡ true
by_hash form checked program e f = stands_for (spelling checked.ops) program (f ∙ ap (λ (x : CheckedScript). script_hash_program (spelling x.ops)) (sym e))

key_program : (key : List ℕ) → is_program (spelling (key_hash (hash160 key))) (key_hash_program key) ≡ true
unfolding key_hash_program
key_program key =
    let l : length (hash160 key) ≡ 20 = length-ripemd160 _ in
    let e : is_key_program (spelling (key_hash (hash160 key))) (0x00 ∷ 0x14 ∷ hash160 key) ≡ true = rw (l, same_bytes (key_hash_script (hash160 key))) refl in
    or_right (bytes_eq (0x00 ∷ 0x14 ∷ hash160 key) (script_hash_program (spelling (key_hash (hash160 key))))) (is_key_program (spelling (key_hash (hash160 key))) (0x00 ∷ 0x14 ∷ hash160 key)) e

pub by_key : (key : List ℕ) (checked : CheckedScript) (program : List ℕ) → checked ≡ key_hash_form (hash160 key) → program ≡ key_hash_program key → is_program (spelling checked.ops) program ≡ true
by_key key checked program e f =
    ap (λ (x : CheckedScript). is_program (spelling x.ops) program) e
    ∙ ap (is_program (spelling (key_hash (hash160 key)))) f ∙ key_program key

-- the first path of each HTLC's form is that of the revocation key
penalty_form : (t : ChannelType) (k : KeyBytes) (direction : Direction) (hash : List ℕ) (expiry_height : ℕ) → IsPenaltyForm k.revocation (form_by t k direction hash expiry_height)
penalty_form StaticRemoteKey k Offered hash expiry_height = record { counted = 19; first = refl }
penalty_form StaticRemoteKey k Received hash expiry_height = record { counted = 21; first = refl }
penalty_form Anchors k Offered hash expiry_height = record { counted = 21; first = refl }
penalty_form Anchors k Received hash expiry_height = record { counted = 23; first = refl }

pub has_penalty : (t : ChannelType) (k : CommitmentKeys) (h : RevokedHtlc) (checked : CheckedScript) → checked ≡ form_of_htlc t (bytes_of k) h → IsPenaltyForm k.revocation.bytes checked
has_penalty t k h checked e = subst (IsPenaltyForm k.revocation.bytes) (sym e) (penalty_form t (bytes_of k) h.direction h.hash h.expiry.height)

-- a penalty on the form that was built is the claim on the HTLC
pub of_penalty_on : (t : ChannelType) (k : CommitmentKeys) (h : RevokedHtlc) (checked : CheckedScript) (place : Place) (c : ClaimParts) → checked ≡ form_of_htlc t (bytes_of k) h
    → IsPenaltyOn k.revocation.bytes checked place c → IsClaimOn (claim_on_htlc t (bytes_of k) h place) c
of_penalty_on t k h checked place c e p = record {
  exact =
      ap (λ (x : CheckedScript). claimable_with c.place x c.index (map filling_of c.slots) c.shell) (p.ways ∙ e)
      ∙ ap (λ (x : Place). claimable_with x (form_of_htlc t (bytes_of k) h) c.index (map filling_of c.slots) c.shell) p.place_is
      ∙ ap (λ (n : ℕ). claimable_with place (form_of_htlc t (bytes_of k) h) n (map filling_of c.slots) c.shell) p.index
      ∙ ap (λ (fs : List Filling). claimable_with place (form_of_htlc t (bytes_of k) h) 0 fs c.shell) p.slots
      ∙ ap (λ (s : Shell). claimable_with place (form_of_htlc t (bytes_of k) h) 0 (Bytes k.revocation.bytes ∷ Signature k.revocation.bytes ∷ []) s) p.shell;
  accepted = p.accepted;
}

-- on the form that was built
abbrev claimed_with : ClaimKind → Place → CheckedScript → Claimable
claimed_with kind place form = record { place = place; form = form; path = path_taken_by kind; slots = fillings_of kind; shell = Open }

pub on_form : (kind : ClaimKind) (form checked : CheckedScript) (place : Place) (claim : ClaimParts) → checked ≡ form
    → IsClaimOn (record { place = place; form = checked; path = path_taken_by kind; slots = fillings_of kind; shell = Open }) claim
    → IsClaimOn (record { place = place; form = form; path = path_taken_by kind; slots = fillings_of kind; shell = Open }) claim
on_form kind form checked place claim e i = subst (λ o. IsClaimOn o claim) (ap (claimed_with kind place) e) i
