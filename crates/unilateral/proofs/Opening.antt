-- The claims on HTLCs by the key of the owner's peer are accepted, in channels of both types.
use Rattle.std.proofs.Common.{◌≡◌, ◌≢◌, ℕ, ◌<◌, Bool, true, false, not, List, [], ◌∷◌, map, Result, Ok, Err, refl, sym, ap, subst, ◌∙◌}
use Rattle.std.specs.Prelude.{is_ok}
use Rattle.std.specs.Str.{bytes_eq}
use Rattle.std.proofs.lemmas.Bool.{lt-ltb, false_from_ne_true, false≢true, or_left}
use Rattle.std.proofs.lemmas.Slice.Eq.{bytes_eq-Decides}
use Rattle.digest.specs.Hash.{hash160}
use Rattle.digest.specs.Ripemd160.{ripemd160}
use Rattle.script.specs.declared.limits.TheConstants.{LOCKTIME_THRESHOLD}
use Rattle.script.specs.Spelling.{spelling}
use Rattle.sighash.specs.Programs.{script_hash_program}
use Rattle.paths.specs.declared.state.Path.{Path}
use Rattle.paths.specs.Listing.{CheckedScript}
use Rattle.claim.specs.declared.parts.Slot.{Slot}
use Rattle.claim.specs.declared.parts.Slot.TheVariants.{Sig, Preimage, Exact}
use Rattle.claim.specs.declared.parts.Place.{Place}
use Rattle.claim.specs.declared.parts.Shell.{Shell}
use Rattle.claim.specs.declared.parts.Shell.TheVariants.{Open}
use Rattle.claim.specs.declared.errors.AcceptError.{AcceptError}
use Rattle.claim.specs.declared.errors.AcceptError.TheVariants.{NoMemory, NoSuchPath, WrongArity, Unmet, Contradiction, WrongProgram, WrongShell}
use Rattle.claim.specs.Judgement.{is_program, judgement_of}
use Rattle.claim.specs.Fitting.{IsRefusal}
use Rattle.claim.specs.Claims.{ClaimParts, IsAcceptedOf}
use Rattle.forms.specs.declared.kinds.ClaimKind.{ClaimKind}
use Rattle.forms.specs.Claims.{path_taken_by}
use Rattle.forms.specs.Fillings.{Filling, Signature, PreimageOf, Bytes, filling_of, fillings_of}
use Rattle.anchor_forms.specs.declared.channel_types.ChannelType.{ChannelType}
use Rattle.anchor_forms.specs.declared.channel_types.ChannelType.TheVariants.{StaticRemoteKey, Anchors}
use Rattle.commit.specs.declared.fees.Direction.{Direction}
use Rattle.commit.specs.declared.fees.Direction.TheVariants.{Offered, Received}
use Rattle.commit.specs.declared.derived.CommitmentKeys.{CommitmentKeys}
use Rattle.commit.specs.Keys.{KeyBytes, bytes_of}
use Rattle.penalty.specs.Claimable.{Claimable, claimable_with}
use Rattle.penalty.specs.Sets.{IsClaimOn}
use Rattle.resolve.specs.Due.{can_time_out}
use Rattle.revoked.specs.declared.outputs.RevokedHtlc.{RevokedHtlc}
use Rattle.revoked.specs.Programs.{form_by, form_of_htlc, htlc_program}
use Rattle.unilateral.specs.Claims.{item_with_peers_key, direct_on}
use Rattle.unilateral.specs.Kinds.{direct_kind_of, can_pay, is_direct, IsOpenTo}

same_bytes : (x : List ℕ) → bytes_eq x x ≡ true
same_bytes x = (bytes_eq-Decides x x).1 refl

-- bytes that are not equal, from a test
pub differs : (a b : List ℕ) → not (bytes_eq a b) ≡ true → b ≢ a
differs a b t e = false≢true (sym (ap not ((bytes_eq-Decides a b).1 (sym e))) ∙ t)

other_bytes : (x y : List ℕ) → x ≢ y → bytes_eq x y ≡ false
other_bytes x y h = false_from_ne_true (bytes_eq x y) (λ e. h ((bytes_eq-Decides x y).0 e))

-- a program that is the hash of the script
pub stands_for : (form checked : CheckedScript) (program : List ℕ) → checked ≡ form → program ≡ script_hash_program (spelling form.ops) → is_program (spelling checked.ops) program ≡ true
stands_for form checked program e f = rw (e, f) (or_left _ _ (same_bytes (script_hash_program (spelling form.ops))))

-- with the preimage
by_preimage : (t : ChannelType) (k : KeyBytes) (hash : List ℕ) (expiry_height : ℕ) (place : Place) → can_pay k hash ≡ true → is_program (spelling (form_by t k Offered hash expiry_height).ops) place.program ≡ true
    → (slots : List Slot) → map filling_of slots ≡ PreimageOf hash ∷ Signature k.remote_htlc ∷ [] → is_ok (judgement_of (form_by t k Offered hash expiry_height) 2 slots place Open) ≡ true
unfolding judgement_of
by_preimage StaticRemoteKey k hash expiry_height place o prog (Preimage g ∷ Sig s ∷ []) e =
    let n = differs (hash160 k.revocation) (ripemd160 hash) o in
    let a = other_bytes (ripemd160 hash) (hash160 k.revocation) n in
    let b : bytes_eq (hash160 k.revocation) (ripemd160 hash) ≡ false = other_bytes (hash160 k.revocation) (ripemd160 hash) (λ f. n (sym f)) in
    let item : g ≡ hash = cc in
    let signs : s.bytes ≡ k.remote_htlc = cc in
    let p = same_bytes (ripemd160 hash) in
    let same = same_bytes k.remote_htlc in
    rw (prog, b, item, a, p, signs, same) refl
by_preimage Anchors k hash expiry_height place o prog (Preimage g ∷ Sig s ∷ []) e =
    let n = differs (hash160 k.revocation) (ripemd160 hash) o in
    let a = other_bytes (ripemd160 hash) (hash160 k.revocation) n in
    let b : bytes_eq (hash160 k.revocation) (ripemd160 hash) ≡ false = other_bytes (hash160 k.revocation) (ripemd160 hash) (λ f. n (sym f)) in
    let item : g ≡ hash = cc in
    let signs : s.bytes ≡ k.remote_htlc = cc in
    let p = same_bytes (ripemd160 hash) in
    let same = same_bytes k.remote_htlc in
    rw (prog, b, item, a, p, signs, same) refl
by_preimage t k hash expiry_height place o prog [] e = absurd (cc)
by_preimage t k hash expiry_height place o prog (x ∷ []) e = absurd (cc)
by_preimage t k hash expiry_height place o prog (Sig s ∷ y ∷ []) e = absurd (cc)
by_preimage t k hash expiry_height place o prog (Exact w ∷ y ∷ []) e = absurd (cc)
by_preimage t k hash expiry_height place o prog (Preimage g ∷ Exact v ∷ []) e = absurd (cc)
by_preimage t k hash expiry_height place o prog (Preimage g ∷ Preimage v ∷ []) e = absurd (cc)
by_preimage t k hash expiry_height place o prog (x ∷ y ∷ z ∷ xs) e = absurd (cc)

-- after the expiry
by_timeout : (t : ChannelType) (k : KeyBytes) (hash : List ℕ) (expiry_height : ℕ) (place : Place) → expiry_height < LOCKTIME_THRESHOLD → can_time_out k ≡ true
    → is_program (spelling (form_by t k Received hash expiry_height).ops) place.program ≡ true
    → (slots : List Slot) → map filling_of slots ≡ Bytes [] ∷ Signature k.remote_htlc ∷ [] → is_ok (judgement_of (form_by t k Received hash expiry_height) 2 slots place Open) ≡ true
unfolding judgement_of
by_timeout StaticRemoteKey k hash expiry_height place l o prog (Exact w ∷ Sig s ∷ []) e =
    let a = other_bytes (hash160 []) (hash160 k.revocation) (differs (hash160 k.revocation) (hash160 []) o) in
    let b = lt-ltb expiry_height LOCKTIME_THRESHOLD l in
    let item : w.item ≡ [] = cc in
    let signs : s.bytes ≡ k.remote_htlc = cc in
    let same = same_bytes k.remote_htlc in
    rw (prog, item, a, b, signs, same) refl
by_timeout Anchors k hash expiry_height place l o prog (Exact w ∷ Sig s ∷ []) e =
    let a = other_bytes (hash160 []) (hash160 k.revocation) (differs (hash160 k.revocation) (hash160 []) o) in
    let b = lt-ltb expiry_height LOCKTIME_THRESHOLD l in
    let item : w.item ≡ [] = cc in
    let signs : s.bytes ≡ k.remote_htlc = cc in
    let same = same_bytes k.remote_htlc in
    rw (prog, item, a, b, signs, same) refl
by_timeout t k hash expiry_height place l o prog [] e = absurd (cc)
by_timeout t k hash expiry_height place l o prog (x ∷ []) e = absurd (cc)
by_timeout t k hash expiry_height place l o prog (Sig s ∷ y ∷ []) e = absurd (cc)
by_timeout t k hash expiry_height place l o prog (Preimage g ∷ y ∷ []) e = absurd (cc)
by_timeout t k hash expiry_height place l o prog (Exact w ∷ Exact v ∷ []) e = absurd (cc)
by_timeout t k hash expiry_height place l o prog (Exact w ∷ Preimage v ∷ []) e = absurd (cc)
by_timeout t k hash expiry_height place l o prog (x ∷ y ∷ z ∷ xs) e = absurd (cc)

opens : (t : ChannelType) (k : CommitmentKeys) (direction : Direction) (hash : List ℕ) (expiry_height : ℕ) (place : Place) → expiry_height < LOCKTIME_THRESHOLD → is_direct (bytes_of k) direction hash ≡ true
    → is_program (spelling (form_by t (bytes_of k) direction hash expiry_height).ops) place.program ≡ true
    → IsOpenTo (direct_kind_of k direction hash) (form_by t (bytes_of k) direction hash expiry_height) place
opens t k Offered hash expiry_height place l o prog slots e = by_preimage t (bytes_of k) hash expiry_height place o prog slots e
opens t k Received hash expiry_height place l o prog slots e = by_timeout t (bytes_of k) hash expiry_height place l o prog slots e

pub open_to : (t : ChannelType) (k : CommitmentKeys) (h : RevokedHtlc) (checked : CheckedScript) (place : Place) (kind : ClaimKind) → is_direct (bytes_of k) h.direction h.hash ≡ true
    → place.program ≡ htlc_program t (bytes_of k) h → checked ≡ form_of_htlc t (bytes_of k) h → kind ≡ direct_kind_of k h.direction h.hash → IsOpenTo kind checked place
open_to t k h checked place kind o p e f =
    subst (λ (x : ClaimKind). IsOpenTo x checked place) (sym f)
    (subst (λ (x : CheckedScript). IsOpenTo (direct_kind_of k h.direction h.hash) x place) (sym e)
    (opens t k h.direction h.hash h.expiry.height place h.expiry.low o (stands_for (form_of_htlc t (bytes_of k) h) (form_of_htlc t (bytes_of k) h) place.program refl p)))

-- the claim that is accepted is the one on the HTLC
direct_path : (k : CommitmentKeys) (direction : Direction) (hash : List ℕ) → path_taken_by (direct_kind_of k direction hash) ≡ 2
direct_path k Offered hash = refl
direct_path k Received hash = refl

direct_slots : (k : CommitmentKeys) (direction : Direction) (hash : List ℕ) → fillings_of (direct_kind_of k direction hash) ≡ item_with_peers_key direction hash ∷ Signature k.remote_htlc.bytes ∷ []
direct_slots k Offered hash = refl
direct_slots k Received hash = refl

same_claim : (place : Place) (form : CheckedScript) (path : ℕ) (slots : List Filling) (checked : CheckedScript) (n : ℕ) (fs : List Filling) (shell : Shell) → checked ≡ form → n ≡ path → fs ≡ slots
    → ◌≡◌ {A = Claimable} (claimable_with place checked n fs shell) (claimable_with place form path slots shell)
same_claim place form path slots checked n fs shell e f g = rw (e, f, g) refl

pub as_direct : (t : ChannelType) (k : CommitmentKeys) (h : RevokedHtlc) (checked : CheckedScript) (place : Place) (kind : ClaimKind) (claim : ClaimParts) → checked ≡ form_of_htlc t (bytes_of k) h
    → kind ≡ direct_kind_of k h.direction h.hash → IsClaimOn (claimable_with place checked (path_taken_by kind) (fillings_of kind) Open) claim → IsClaimOn (direct_on t (bytes_of k) h place) claim
as_direct t k h checked place kind claim e f i =
    subst (λ o. IsClaimOn o claim)
    (same_claim place (form_of_htlc t (bytes_of k) h) 2 (item_with_peers_key h.direction h.hash ∷ Signature k.remote_htlc.bytes ∷ []) checked (path_taken_by kind) (fillings_of kind) Open e
    (ap path_taken_by f ∙ direct_path k h.direction h.hash) (ap fillings_of f ∙ direct_slots k h.direction h.hash))
    i

-- what is accepted is not refused
no_refusal : (r : Result Path AcceptError) (e : AcceptError) → is_ok r ≡ true → IsRefusal r e → ⊥
no_refusal (Err x) e t h = false≢true t
no_refusal (Ok p) NoMemory t h = h
no_refusal (Ok p) NoSuchPath t h = let g : ◌≡◌ {A = Result Path AcceptError} (Ok p) (Err NoSuchPath) = h in cc
no_refusal (Ok p) WrongArity t h = let g : ◌≡◌ {A = Result Path AcceptError} (Ok p) (Err WrongArity) = h in cc
no_refusal (Ok p) (Unmet s) t h = let g : ◌≡◌ {A = Result Path AcceptError} (Ok p) (Err (Unmet s)) = h in cc
no_refusal (Ok p) Contradiction t h = let g : ◌≡◌ {A = Result Path AcceptError} (Ok p) (Err Contradiction) = h in cc
no_refusal (Ok p) WrongProgram t h = let g : ◌≡◌ {A = Result Path AcceptError} (Ok p) (Err WrongProgram) = h in cc
no_refusal (Ok p) WrongShell t h = let g : ◌≡◌ {A = Result Path AcceptError} (Ok p) (Err WrongShell) = h in cc

pub never_refused : (kind : ClaimKind) (form : CheckedScript) (place : Place) (slots : List Slot) (index : ℕ) (refusal : AcceptError) → IsOpenTo kind form place → map filling_of slots ≡ fillings_of kind
    → index ≡ path_taken_by kind → IsRefusal (judgement_of form index slots place Open) refusal → ⊥
never_refused kind form place slots index refusal o e f r =
    no_refusal (judgement_of form index slots place Open) refusal (ap (λ n. is_ok (judgement_of form n slots place Open)) f ∙ o slots e) r
