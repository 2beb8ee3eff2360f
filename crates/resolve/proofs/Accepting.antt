-- The claims other than penalties are accepted.
use Rattle.std.proofs.Common.{◌≡◌, ℕ, ◌<◌, ◌^◌, true, List, [], ◌∷◌, Some, refl, sym, ap, subst, ◌∙◌}
use Rattle.std.specs.Prelude.{◌≢◌, not}
use Rattle.std.specs.Str.{bytes_eq}
use Rattle.std.proofs.lemmas.Bool.{false≢true}
use Rattle.std.proofs.lemmas.Slice.Eq.{bytes_eq-Decides}
use Rattle.digest.specs.Hash.{hash160}
use Rattle.digest.specs.Ripemd160.{ripemd160}
use Rattle.script.specs.declared.limits.TheConstants.{LOCKTIME_THRESHOLD}
use Rattle.script.specs.Spelling.{spelling}
use Rattle.script.specs.Token.{token_of}
use Rattle.sighash.specs.Signing.{sighash}
use Rattle.keys.specs.declared.compressed.Key.{Key}
use Rattle.terms.specs.declared.htlcs.Htlc.{Htlc}
use Rattle.paths.specs.Listing.{CheckedScript}
use Rattle.claim.specs.declared.parts.Place.{Place}
use Rattle.claim.specs.declared.parts.Shell.{Shell}
use Rattle.claim.specs.declared.parts.Shell.TheVariants.{Open, Fixed}
use Rattle.claim.specs.Claims.{ClaimParts}
use Rattle.claim.specs.Judgement.{bare_shell}
use Rattle.forms.specs.declared.kinds.ClaimKind.{ClaimKind}
use Rattle.forms.specs.declared.kinds.ClaimKind.TheVariants.{Delayed}
use Rattle.forms.specs.Claims.{Claims, of_delayed, of_preimage, of_timeout, of_htlc_timeout, of_htlc_success, path_taken_by}
use Rattle.forms.specs.Fillings.{Filling, Signature, Bytes, fillings_of}
use Rattle.forms.specs.Forms.{to_local_form}
use Rattle.commit.specs.declared.fees.Direction.{Direction}
use Rattle.commit.specs.declared.fees.Direction.TheVariants.{Offered, Received}
use Rattle.commit.specs.declared.derived.CommitmentKeys.{CommitmentKeys}
use Rattle.commit.specs.declared.outputs.HtlcOutput.{HtlcOutput}
use Rattle.commit.specs.Keys.{KeyBytes, bytes_of}
use Rattle.commit.specs.Outputs.{htlc_script}
use Rattle.commit.specs.Commitments.{Contents, htlc_tx_of}
use Rattle.commit.specs.Signing.{htlc_digest}
use Rattle.penalty.specs.Claimable.{Claimable, htlc_form}
use Rattle.penalty.specs.Sets.{IsClaimOn}
use Rattle.penalty.specs.Outputs.{HasWay}
use Rattle.penalty.proofs.Programs.{same_htlc}
use Rattle.resolve.specs.Due.{delayed_on, item_with_peers_key, direct_on, item_with_both_keys, second_stage_on}
use Rattle.resolve.specs.Kinds.{direct_kind_of, second_stage_kind_of, IsDirect, IsSecondStage, IsHtlcPlace}
use Rattle.resolve.proofs.Standing.{htlc_tx_digest, htlc_tx_bare}

-- to_local
pub claims_delayed : (revocation : List ℕ) (delay_blocks : ℕ) (delayed : Key) (checked : CheckedScript) (place : Place) → delay_blocks < 2 ^ 16 → checked ≡ to_local_form revocation delay_blocks delayed.bytes
    → Claims (Delayed delayed) checked 1 place Open
claims_delayed revocation delay_blocks delayed checked place l e = subst (λ x. Claims (Delayed delayed) x 1 place Open) (sym e) (of_delayed revocation delay_blocks delayed place l)

pub as_delayed : (c : Contents) (k : CommitmentKeys) (delay_blocks : ℕ) (checked : CheckedScript) (place : Place) (claim : ClaimParts) → bytes_of k ≡ c.keys → delay_blocks ≡ c.delay_blocks
    → checked ≡ to_local_form k.revocation.bytes delay_blocks k.delayed.bytes
    → IsClaimOn (record { place = place; form = checked; path = 1; slots = fillings_of (Delayed k.delayed); shell = Open }) claim → IsClaimOn (delayed_on c place) claim
as_delayed c k delay_blocks checked place claim e d f i =
    subst (λ o. IsClaimOn o claim)
    (ap (λ (x : CheckedScript). record { place = place; form = x; path = 1; slots = fillings_of (Delayed k.delayed); shell = Open }) (f ∙ ap (λ n. to_local_form k.revocation.bytes n k.delayed.bytes) d)
    ∙ ap (λ (b : KeyBytes). record { place = place; form = to_local_form b.revocation c.delay_blocks b.delayed; path = 1; slots = Bytes [] ∷ Signature b.delayed ∷ []; shell = Open }) e)
    i

-- an HTLC by the peer's key
differs : (a b : List ℕ) → not (bytes_eq a b) ≡ true → b ≢ a
differs a b t e = false≢true (sym (ap not ((bytes_eq-Decides a b).1 (sym e))) ∙ t)

claims_direct_at : (k : CommitmentKeys) (direction : Direction) (h : Htlc) (place : Place) → h.expiry_height < LOCKTIME_THRESHOLD → IsDirect (bytes_of k) direction h
    → Claims (direct_kind_of k direction h) (htlc_form (bytes_of k) direction h) (path_taken_by (direct_kind_of k direction h)) place Open
claims_direct_at k Offered h place l o = of_preimage (hash160 k.revocation.bytes) k.remote_htlc k.local_htlc.bytes h.hash place (differs (hash160 k.revocation.bytes) (ripemd160 h.hash) o)
claims_direct_at k Received h place l o = of_timeout (hash160 k.revocation.bytes) k.remote_htlc k.local_htlc.bytes (ripemd160 h.hash) h.expiry_height place l (differs (hash160 k.revocation.bytes) (hash160 []) o)

pub claims_direct : (c : Contents) (k : CommitmentKeys) (direction : Direction) (h : Htlc) (checked : CheckedScript) (place : Place) → bytes_of k ≡ c.keys → h.expiry_height < LOCKTIME_THRESHOLD
    → IsDirect c.keys direction h → checked ≡ htlc_form (bytes_of k) direction h → Claims (direct_kind_of k direction h) checked (path_taken_by (direct_kind_of k direction h)) place Open
claims_direct c k direction h checked place b l o e =
    subst (λ x. Claims (direct_kind_of k direction h) x (path_taken_by (direct_kind_of k direction h)) place Open) (sym e)
    (claims_direct_at k direction h place l (subst (λ y. IsDirect y direction h) (sym b) o))

direct_path : (k : CommitmentKeys) (direction : Direction) (h : Htlc) → path_taken_by (direct_kind_of k direction h) ≡ 2
direct_path k Offered h = refl
direct_path k Received h = refl

direct_slots : (k : CommitmentKeys) (direction : Direction) (h : Htlc) → fillings_of (direct_kind_of k direction h) ≡ item_with_peers_key direction h ∷ Signature k.remote_htlc.bytes ∷ []
direct_slots k Offered h = refl
direct_slots k Received h = refl

-- a form, a path and slots are those of the commitment's keys
same_parts : (c : Contents) (direction : Direction) (h : Htlc) (place : Place) (shell : Shell) (slots_of : KeyBytes → List Filling) (form : CheckedScript) (path n : ℕ) (slots : List Filling) (k : KeyBytes)
    → k ≡ c.keys → form ≡ htlc_form k direction h → path ≡ n → slots ≡ slots_of k
    → ◌≡◌ {A = Claimable} (record { place = place; form = form; path = path; slots = slots; shell = shell })
    (record { place = place; form = htlc_form c.keys direction h; path = n; slots = slots_of c.keys; shell = shell })
same_parts c direction h place shell slots_of form path n slots k e f p s = rw (f, p, s, e) refl

pub as_direct : (c : Contents) (k : CommitmentKeys) (direction : Direction) (h : Htlc) (checked : CheckedScript) (place : Place) (claim : ClaimParts) → bytes_of k ≡ c.keys
    → checked ≡ htlc_form (bytes_of k) direction h
    → IsClaimOn (record { place = place; form = checked; path = path_taken_by (direct_kind_of k direction h); slots = fillings_of (direct_kind_of k direction h); shell = Open }) claim
    → IsClaimOn (direct_on c direction h place) claim
as_direct c k direction h checked place claim e f i =
    subst (λ o. IsClaimOn o claim)
    (same_parts c direction h place Open (λ b. item_with_peers_key direction h ∷ Signature b.remote_htlc ∷ []) checked _ 2 _ (bytes_of k) e f (direct_path k direction h) (direct_slots k direction h))
    i

-- an HTLC by its HTLC transaction
claims_second_at : (c : Contents) (k : CommitmentKeys) (direction : Direction) (htlc : Htlc) (h : HtlcOutput) (place : Place) → IsSecondStage (bytes_of k) direction htlc
    → sighash (htlc_tx_of c h) 0 (spelling (htlc_form (bytes_of k) direction htlc).ops) place.value ≡ Some (htlc_digest c h)
    → Claims (second_stage_kind_of k direction htlc (token_of k.remote_htlc.bytes (htlc_digest c h))) (htlc_form (bytes_of k) direction htlc) 1 place (Fixed (htlc_tx_of c h))
claims_second_at c k Offered htlc h place o d =
    of_htlc_timeout (hash160 k.revocation.bytes) k.remote_htlc k.local_htlc (ripemd160 htlc.hash) place (htlc_tx_of c h) (htlc_digest c h) (differs (hash160 k.revocation.bytes) (hash160 []) o) d
claims_second_at c k Received htlc h place o d =
    of_htlc_success (hash160 k.revocation.bytes) k.remote_htlc k.local_htlc htlc.hash htlc.expiry_height place (htlc_tx_of c h) (htlc_digest c h) (differs (hash160 k.revocation.bytes) (ripemd160 htlc.hash) o) d

second_path : (k : CommitmentKeys) (direction : Direction) (h : Htlc) (token : List ℕ) → path_taken_by (second_stage_kind_of k direction h token) ≡ 1
second_path k Offered h token = refl
second_path k Received h token = refl

second_slots : (k : CommitmentKeys) (direction : Direction) (h : Htlc) (token : List ℕ)
    → fillings_of (second_stage_kind_of k direction h token) ≡ item_with_both_keys direction h ∷ Signature k.local_htlc.bytes ∷ Bytes token ∷ Bytes [] ∷ []
second_slots k Offered h token = refl
second_slots k Received h token = refl

pub claims_second : (c : Contents) (k : CommitmentKeys) (h : HtlcOutput) (checked : CheckedScript) (place : Place) (token : List ℕ) → bytes_of k ≡ c.keys
    → token ≡ token_of c.keys.remote_htlc (htlc_digest c h) → IsSecondStage c.keys h.direction h.htlc → IsHtlcPlace c h place → checked ≡ htlc_form (bytes_of k) h.direction h.htlc
    → Claims (second_stage_kind_of k h.direction h.htlc token) checked 1 place (Fixed (htlc_tx_of c h))
claims_second c k h checked place token b t o p e =
    let u : token ≡ token_of k.remote_htlc.bytes (htlc_digest c h) = t ∙ ap (λ (y : KeyBytes). token_of y.remote_htlc (htlc_digest c h)) (sym b) in
    let s : spelling (htlc_form (bytes_of k) h.direction h.htlc).ops ≡ htlc_script c.keys h.direction h.htlc = sym (same_htlc (bytes_of k) h.direction h.htlc) ∙ ap (λ y. htlc_script y h.direction h.htlc) b in
    subst (λ x. Claims (second_stage_kind_of k h.direction h.htlc token) x 1 place (Fixed (htlc_tx_of c h))) (sym e)
    (subst (λ y. Claims (second_stage_kind_of k h.direction h.htlc y) (htlc_form (bytes_of k) h.direction h.htlc) 1 place (Fixed (htlc_tx_of c h))) (sym u)
    (claims_second_at c k h.direction h.htlc h place (subst (λ y. IsSecondStage y h.direction h.htlc) (sym b) o) (htlc_tx_digest c h _ place.value s p.value)))

pub claims_fixed : (c : Contents) (k : CommitmentKeys) (h : HtlcOutput) (checked : CheckedScript) (place : Place) (token : List ℕ) (kind : ClaimKind) (shell : Shell)
    → kind ≡ second_stage_kind_of k h.direction h.htlc token → shell ≡ Fixed (htlc_tx_of c h)
    → Claims (second_stage_kind_of k h.direction h.htlc token) checked 1 place (Fixed (htlc_tx_of c h)) → Claims kind checked (path_taken_by kind) place (bare_shell shell)
claims_fixed c k h checked place token kind shell e s i =
    subst (λ x. Claims kind checked (path_taken_by kind) place (bare_shell x)) (sym s)
    (subst (λ x. Claims kind checked (path_taken_by kind) place x) (sym (htlc_tx_bare c h))
    (subst (λ x. Claims x checked (path_taken_by x) place (Fixed (htlc_tx_of c h))) (sym e)
    (subst (λ n. Claims (second_stage_kind_of k h.direction h.htlc token) checked n place (Fixed (htlc_tx_of c h))) (sym (second_path k h.direction h.htlc token)) i)))

pub way_fixed : (c : Contents) (k : CommitmentKeys) (h : HtlcOutput) (checked : CheckedScript) (place : Place) (token : List ℕ) (kind : ClaimKind) (shell : Shell)
    → kind ≡ second_stage_kind_of k h.direction h.htlc token → shell ≡ Fixed (htlc_tx_of c h)
    → HasWay checked 1 place (Fixed (htlc_tx_of c h)) → HasWay checked (path_taken_by kind) place (bare_shell shell)
way_fixed c k h checked place token kind shell e s w =
    subst (λ x. HasWay checked (path_taken_by kind) place (bare_shell x)) (sym s)
    (subst (λ x. HasWay checked (path_taken_by kind) place x) (sym (htlc_tx_bare c h))
    (subst (λ x. HasWay checked (path_taken_by x) place (Fixed (htlc_tx_of c h))) (sym e)
    (subst (λ n. HasWay checked n place (Fixed (htlc_tx_of c h))) (sym (second_path k h.direction h.htlc token)) w)))

pub as_second : (c : Contents) (k : CommitmentKeys) (h : HtlcOutput) (checked : CheckedScript) (place : Place) (token : List ℕ) (kind : ClaimKind) (shell : Shell) (claim : ClaimParts) → bytes_of k ≡ c.keys
    → token ≡ token_of c.keys.remote_htlc (htlc_digest c h) → kind ≡ second_stage_kind_of k h.direction h.htlc token → shell ≡ Fixed (htlc_tx_of c h)
    → checked ≡ htlc_form (bytes_of k) h.direction h.htlc
    → IsClaimOn (record { place = place; form = checked; path = path_taken_by kind; slots = fillings_of kind; shell = bare_shell shell }) claim
    → IsClaimOn (second_stage_on c h place) claim
as_second c k h checked place token kind shell claim e t n s f i =
    let b : bare_shell shell ≡ Fixed (htlc_tx_of c h) = ap bare_shell s ∙ htlc_tx_bare c h in
    subst (λ o. IsClaimOn o claim)
    (ap (λ x. record { place = place; form = checked; path = path_taken_by kind; slots = fillings_of kind; shell = x }) b
    ∙ same_parts c h.direction h.htlc place (Fixed (htlc_tx_of c h))
    (λ y. item_with_both_keys h.direction h.htlc ∷ Signature y.local_htlc ∷ Bytes (token_of c.keys.remote_htlc (htlc_digest c h)) ∷ Bytes [] ∷ []) checked (path_taken_by kind) 1 (fillings_of kind) (bytes_of k) e f
    (ap path_taken_by n ∙ second_path k h.direction h.htlc token)
    (ap fillings_of n ∙ second_slots k h.direction h.htlc token ∙ ap (λ y. item_with_both_keys h.direction h.htlc ∷ Signature k.local_htlc.bytes ∷ Bytes y ∷ Bytes [] ∷ []) t))
    i
