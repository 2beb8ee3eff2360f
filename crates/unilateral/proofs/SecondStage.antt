-- The claims on one's own commitment are accepted: to_local after the delay, and its HTLCs by their HTLC transactions.
use Rattle.std.proofs.Common.{◌≡◌, ℕ, ◌<◌, ◌^◌, Bool, true, List, [], ◌∷◌, Some, None, refl, sym, ap, subst, ◌∙◌, arith}
use Rattle.std.specs.Prelude.{slice_get, nat_le, nat_lt, ◌==◌, unwrap_or}
use Rattle.std.specs.Str.{bytes_eq}
use Rattle.std.proofs.lemmas.Bool.{and_from, eq-eqb, lt-ltb, le-leb, false≢true}
use Rattle.std.proofs.lemmas.Slice.Eq.{bytes_eq-Decides}
use Rattle.digest.specs.Hash.{hash160}
use Rattle.digest.specs.Ripemd160.{ripemd160}
use Rattle.script.specs.declared.limits.TheConstants.{LOCKTIME_THRESHOLD}
use Rattle.script.specs.Spelling.{spelling}
use Rattle.script.specs.Token.{token_of}
use Rattle.sighash.specs.Signing.{sighash}
use Rattle.keys.specs.declared.compressed.Key.{Key}
use Rattle.tx.specs.Fields.{Transaction, total_value}
use Rattle.paths.specs.declared.state.Path.{Path}
use Rattle.paths.specs.Listing.{CheckedScript}
use Rattle.claim.specs.declared.parts.Place.{Place}
use Rattle.claim.specs.declared.parts.Shell.{Shell}
use Rattle.claim.specs.declared.parts.Shell.TheVariants.{Open, Fixed}
use Rattle.claim.specs.Claims.{ClaimParts}
use Rattle.claim.specs.Judgement.{is_only_input, is_shell, height_of, age_of, bare_shell}
use Rattle.forms.specs.declared.parameters.Expiry.{Expiry}
use Rattle.forms.specs.declared.kinds.ClaimKind.{ClaimKind}
use Rattle.forms.specs.declared.kinds.ClaimKind.TheVariants.{Delayed}
use Rattle.forms.specs.Claims.{Claims, of_delayed, of_htlc_timeout, of_htlc_success, path_taken_by}
use Rattle.forms.specs.Fillings.{Filling, Signature, Bytes, fillings_of}
use Rattle.forms.specs.Forms.{to_local_form}
use Rattle.anchor_forms.specs.declared.channel_types.ChannelType.{ChannelType}
use Rattle.anchor_forms.specs.declared.channel_types.ChannelType.TheVariants.{StaticRemoteKey, Anchors}
use Rattle.commit.specs.declared.fees.Direction.{Direction}
use Rattle.commit.specs.declared.fees.Direction.TheVariants.{Offered, Received}
use Rattle.commit.specs.declared.derived.CommitmentKeys.{CommitmentKeys}
use Rattle.commit.specs.Keys.{KeyBytes, bytes_of}
use Rattle.commit.specs.Signing.{input_of}
use Rattle.penalty.specs.Claimable.{Claimable, claimable_with}
use Rattle.penalty.specs.Outputs.{HasWay}
use Rattle.penalty.specs.Sets.{IsClaimOn}
use Rattle.revoked.specs.declared.outputs.RevokedHtlc.{RevokedHtlc}
use Rattle.revoked.specs.Programs.{form_by, form_of_htlc}
use Rattle.unilateral.specs.Claims.{has_fixed_htlc_txs, delayed_on, item_with_both_keys, digest_of_htlc, second_stage_on}
use Rattle.unilateral.specs.HtlcTransactions.{lock_time_of, htlc_tx_on, digest_on}
use Rattle.unilateral.specs.Kinds.{second_stage_kind_of, is_second_stage}
use Rattle.unilateral.proofs.Opening.{differs}

-- to_local
pub claims_delayed : (revocation : List ℕ) (delay_blocks : ℕ) (delayed : Key) (checked : CheckedScript) (place : Place) → delay_blocks < 2 ^ 16 → checked ≡ to_local_form revocation delay_blocks delayed.bytes
    → Claims (Delayed delayed) checked 1 place Open
claims_delayed revocation delay_blocks delayed checked place l e = subst (λ x. Claims (Delayed delayed) x 1 place Open) (sym e) (of_delayed revocation delay_blocks delayed place l)

pub as_delayed : (k : CommitmentKeys) (delay_blocks : ℕ) (checked : CheckedScript) (place : Place) (claim : ClaimParts) → checked ≡ to_local_form k.revocation.bytes delay_blocks k.delayed.bytes
    → IsClaimOn (claimable_with place checked 1 (fillings_of (Delayed k.delayed)) Open) claim → IsClaimOn (delayed_on (bytes_of k) delay_blocks place) claim
as_delayed k delay_blocks checked place claim e i =
    subst (λ o. IsClaimOn o claim) (ap (λ (x : CheckedScript). claimable_with place x 1 (fillings_of (Delayed k.delayed)) Open) e) i

-- an HTLC transaction stands round the claim on its HTLC's output
pub has_input : (k : KeyBytes) (delay_blocks feerate_per_kw : ℕ) (direction : Direction) (expiry_height : ℕ) (place : Place) (t : Transaction) → t ≡ htlc_tx_on k delay_blocks feerate_per_kw direction expiry_height place
    → t.inputs ≡ input_of place.outpoint 0 ∷ []
unfolding htlc_tx_on
has_input k delay_blocks feerate_per_kw direction expiry_height place t e = ap (λ (x : Transaction). x.inputs) e

bare : (k : KeyBytes) (delay_blocks feerate_per_kw : ℕ) (direction : Direction) (expiry_height : ℕ) (place : Place)
    → bare_shell (Fixed (htlc_tx_on k delay_blocks feerate_per_kw direction expiry_height place)) ≡ Fixed (htlc_tx_on k delay_blocks feerate_per_kw direction expiry_height place)
unfolding htlc_tx_on
bare k delay_blocks feerate_per_kw direction expiry_height place = refl

signed : (k : KeyBytes) (delay_blocks feerate_per_kw : ℕ) (direction : Direction) (expiry_height : ℕ) (place : Place) (script : List ℕ)
    → sighash (htlc_tx_on k delay_blocks feerate_per_kw direction expiry_height place) 0 script place.value
    ≡ Some (digest_on (htlc_tx_on k delay_blocks feerate_per_kw direction expiry_height place) place script)
unfolding htlc_tx_on digest_on
signed k delay_blocks feerate_per_kw direction expiry_height place script = refl

low_lock : (direction : Direction) (n : ℕ) → n < LOCKTIME_THRESHOLD → nat_lt (lock_time_of direction n) LOCKTIME_THRESHOLD ≡ true
low_lock Offered n l = lt-ltb n LOCKTIME_THRESHOLD l
low_lock Received n l = refl

stands : (k : KeyBytes) (delay_blocks feerate_per_kw : ℕ) (direction : Direction) (n : ℕ) (place : Place) (p : Path) → p.lock ≡ None → p.age ≡ None → n < LOCKTIME_THRESHOLD
    → is_shell p place (Fixed (htlc_tx_on k delay_blocks feerate_per_kw direction n place)) ≡ true
unfolding htlc_tx_on
stands k delay_blocks feerate_per_kw direction n place p l a low =
    let t : Transaction = htlc_tx_on k delay_blocks feerate_per_kw direction n place in
    let height : height_of p ≡ 0 = ap (λ o. unwrap_or o 0) l in
    let age : age_of p ≡ 0 = ap (λ o. unwrap_or o 0) a in
    let one : (t.version == 2) ≡ true = refl in
    let only : is_only_input t.inputs place.outpoint 0 ≡ true =
    and_from _ _ (and_from _ _ ((bytes_eq-Decides place.outpoint.txid place.outpoint.txid).1 refl) (eq-eqb place.outpoint.index place.outpoint.index refl)) refl in
    let two : is_only_input t.inputs place.outpoint (age_of p) ≡ true = ap (is_only_input t.inputs place.outpoint) age ∙ only in
    let three : nat_lt t.lock_time LOCKTIME_THRESHOLD ≡ true = low_lock direction n low in
    let four : nat_le (height_of p) t.lock_time ≡ true = ap (λ m. nat_le m t.lock_time) height ∙ le-leb 0 t.lock_time (omega arith) in
    let five : nat_le (total_value t.outputs) place.value ≡ true = le-leb _ place.value (omega arith) in
    and_from _ _ (and_from _ _ (and_from _ _ (and_from _ _ one two) three) four) five

way_of : (k : KeyBytes) (delay_blocks feerate_per_kw : ℕ) (direction : Direction) (n : ℕ) (place : Place) (form : CheckedScript) (p : Path) → slice_get form.paths 1 ≡ Some p → p.lock ≡ None → p.age ≡ None → n < LOCKTIME_THRESHOLD
    → HasWay form 1 place (Fixed (htlc_tx_on k delay_blocks feerate_per_kw direction n place))
way_of k delay_blocks feerate_per_kw direction n place form p e l a low = (p, e, stands k delay_blocks feerate_per_kw direction n place p l a low)

way : (k b : KeyBytes) (delay_blocks feerate_per_kw : ℕ) (direction side : Direction) (hash : List ℕ) (m n : ℕ) (place : Place) → n < LOCKTIME_THRESHOLD
    → HasWay (form_by StaticRemoteKey b side hash m) 1 place (Fixed (htlc_tx_on k delay_blocks feerate_per_kw direction n place))
way k b delay_blocks feerate_per_kw direction Offered hash m n place low = way_of k delay_blocks feerate_per_kw direction n place (form_by StaticRemoteKey b Offered hash m) _ refl refl refl low
way k b delay_blocks feerate_per_kw direction Received hash m n place low = way_of k delay_blocks feerate_per_kw direction n place (form_by StaticRemoteKey b Received hash m) _ refl refl refl low

-- the kind that claims it
second_path : (k : CommitmentKeys) (direction : Direction) (hash token : List ℕ) → path_taken_by (second_stage_kind_of k direction hash token) ≡ 1
second_path k Offered hash token = refl
second_path k Received hash token = refl

second_slots : (k : CommitmentKeys) (direction : Direction) (hash token : List ℕ)
    → fillings_of (second_stage_kind_of k direction hash token) ≡ item_with_both_keys direction hash ∷ Signature k.local_htlc.bytes ∷ Bytes token ∷ Bytes [] ∷ []
second_slots k Offered hash token = refl
second_slots k Received hash token = refl

claims : (k : CommitmentKeys) (direction : Direction) (hash : List ℕ) (m : ℕ) (place : Place) (t : Transaction) (digest : List ℕ) → is_second_stage (bytes_of k) direction hash ≡ true
    → sighash t 0 (spelling (form_by StaticRemoteKey (bytes_of k) direction hash m).ops) place.value ≡ Some digest
    → Claims (second_stage_kind_of k direction hash (token_of k.remote_htlc.bytes digest)) (form_by StaticRemoteKey (bytes_of k) direction hash m) 1 place (Fixed t)
claims k Offered hash m place t digest o d = of_htlc_timeout (hash160 k.revocation.bytes) k.remote_htlc k.local_htlc (ripemd160 hash) place t digest (differs (hash160 k.revocation.bytes) (hash160 []) o) d
claims k Received hash m place t digest o d = of_htlc_success (hash160 k.revocation.bytes) k.remote_htlc k.local_htlc hash m place t digest (differs (hash160 k.revocation.bytes) (ripemd160 hash) o) d

-- what was built: the script, the transaction, the token, and the kind with it
pub record IsBuilt (t : ChannelType) (k : CommitmentKeys) (delay_blocks feerate_per_kw : ℕ) (h : RevokedHtlc) (expiry : Expiry) (place : Place) (checked : CheckedScript) (x : Transaction) (kind : ClaimKind) : Type 0 where
  pub form : checked ≡ form_of_htlc t (bytes_of k) h
  pub tx : x ≡ htlc_tx_on (bytes_of k) delay_blocks feerate_per_kw h.direction expiry.height place
  pub kind_is : kind ≡ second_stage_kind_of k h.direction h.hash (token_of k.remote_htlc.bytes (digest_of_htlc t (bytes_of k) delay_blocks feerate_per_kw h expiry.height place))

claims_at : (t : ChannelType) (k : CommitmentKeys) (delay_blocks feerate_per_kw : ℕ) (h : RevokedHtlc) (expiry : Expiry) (place : Place) → has_fixed_htlc_txs t ≡ true → is_second_stage (bytes_of k) h.direction h.hash ≡ true
    → Claims (second_stage_kind_of k h.direction h.hash (token_of k.remote_htlc.bytes (digest_of_htlc t (bytes_of k) delay_blocks feerate_per_kw h expiry.height place))) (form_of_htlc t (bytes_of k) h) 1 place
    (Fixed (htlc_tx_on (bytes_of k) delay_blocks feerate_per_kw h.direction expiry.height place))
claims_at StaticRemoteKey k delay_blocks feerate_per_kw h expiry place f o =
    claims k h.direction h.hash h.expiry.height place (htlc_tx_on (bytes_of k) delay_blocks feerate_per_kw h.direction expiry.height place) _ o
    (signed (bytes_of k) delay_blocks feerate_per_kw h.direction expiry.height place (spelling (form_of_htlc StaticRemoteKey (bytes_of k) h).ops))
claims_at Anchors k delay_blocks feerate_per_kw h expiry place f o = absurd (false≢true f)

way_at : (t : ChannelType) (k : CommitmentKeys) (delay_blocks feerate_per_kw : ℕ) (h : RevokedHtlc) (expiry : Expiry) (place : Place) → has_fixed_htlc_txs t ≡ true
    → HasWay (form_of_htlc t (bytes_of k) h) 1 place (Fixed (htlc_tx_on (bytes_of k) delay_blocks feerate_per_kw h.direction expiry.height place))
way_at StaticRemoteKey k delay_blocks feerate_per_kw h expiry place f = way (bytes_of k) (bytes_of k) delay_blocks feerate_per_kw h.direction h.direction h.hash h.expiry.height expiry.height place expiry.low
way_at Anchors k delay_blocks feerate_per_kw h expiry place f = absurd (false≢true f)

bare_of : (k : KeyBytes) (delay_blocks feerate_per_kw : ℕ) (direction : Direction) (n : ℕ) (place : Place) (x : Transaction) → x ≡ htlc_tx_on k delay_blocks feerate_per_kw direction n place
    → bare_shell (Fixed x) ≡ Fixed (htlc_tx_on k delay_blocks feerate_per_kw direction n place)
bare_of k delay_blocks feerate_per_kw direction n place x e = ap (λ y. bare_shell (Fixed y)) e ∙ bare k delay_blocks feerate_per_kw direction n place

pub claims_second : (t : ChannelType) (k : CommitmentKeys) (delay_blocks feerate_per_kw : ℕ) (h : RevokedHtlc) (expiry : Expiry) (place : Place) (checked : CheckedScript) (x : Transaction) (kind : ClaimKind)
    → IsBuilt t k delay_blocks feerate_per_kw h expiry place checked x kind → has_fixed_htlc_txs t ≡ true → is_second_stage (bytes_of k) h.direction h.hash ≡ true
    → Claims kind checked (path_taken_by kind) place (bare_shell (Fixed x))
claims_second t k delay_blocks feerate_per_kw h expiry place checked x kind b f o =
    let token = token_of k.remote_htlc.bytes (digest_of_htlc t (bytes_of k) delay_blocks feerate_per_kw h expiry.height place) in
    subst (λ s. Claims kind checked (path_taken_by kind) place s) (sym (bare_of (bytes_of k) delay_blocks feerate_per_kw h.direction expiry.height place x b.tx))
    (subst (λ y. Claims kind y (path_taken_by kind) place (Fixed (htlc_tx_on (bytes_of k) delay_blocks feerate_per_kw h.direction expiry.height place))) (sym b.form)
    (subst (λ y. Claims y (form_of_htlc t (bytes_of k) h) (path_taken_by y) place (Fixed (htlc_tx_on (bytes_of k) delay_blocks feerate_per_kw h.direction expiry.height place))) (sym b.kind_is)
    (subst (λ n. Claims (second_stage_kind_of k h.direction h.hash token) (form_of_htlc t (bytes_of k) h) n place (Fixed (htlc_tx_on (bytes_of k) delay_blocks feerate_per_kw h.direction expiry.height place)))
    (sym (second_path k h.direction h.hash token)) (claims_at t k delay_blocks feerate_per_kw h expiry place f o))))

pub second_way : (t : ChannelType) (k : CommitmentKeys) (delay_blocks feerate_per_kw : ℕ) (h : RevokedHtlc) (expiry : Expiry) (place : Place) (checked : CheckedScript) (x : Transaction) (kind : ClaimKind)
    → IsBuilt t k delay_blocks feerate_per_kw h expiry place checked x kind → has_fixed_htlc_txs t ≡ true → HasWay checked (path_taken_by kind) place (bare_shell (Fixed x))
second_way t k delay_blocks feerate_per_kw h expiry place checked x kind b f =
    let token = token_of k.remote_htlc.bytes (digest_of_htlc t (bytes_of k) delay_blocks feerate_per_kw h expiry.height place) in
    subst (λ s. HasWay checked (path_taken_by kind) place s) (sym (bare_of (bytes_of k) delay_blocks feerate_per_kw h.direction expiry.height place x b.tx))
    (subst (λ y. HasWay y (path_taken_by kind) place (Fixed (htlc_tx_on (bytes_of k) delay_blocks feerate_per_kw h.direction expiry.height place))) (sym b.form)
    (subst (λ n. HasWay (form_of_htlc t (bytes_of k) h) n place (Fixed (htlc_tx_on (bytes_of k) delay_blocks feerate_per_kw h.direction expiry.height place)))
    (sym (ap path_taken_by b.kind_is ∙ second_path k h.direction h.hash token)) (way_at t k delay_blocks feerate_per_kw h expiry place f)))

same_claim : (place : Place) (form : CheckedScript) (path : ℕ) (slots : List Filling) (shell : Shell) (checked : CheckedScript) (n : ℕ) (fs : List Filling) (s : Shell) → checked ≡ form → n ≡ path → fs ≡ slots → s ≡ shell
    → ◌≡◌ {A = Claimable} (claimable_with place checked n fs s) (claimable_with place form path slots shell)
same_claim place form path slots shell checked n fs s e f g h = rw (e, f, g, h) refl

pub as_second : (t : ChannelType) (k : CommitmentKeys) (delay_blocks feerate_per_kw : ℕ) (h : RevokedHtlc) (expiry : Expiry) (place : Place) (checked : CheckedScript) (x : Transaction) (kind : ClaimKind) (claim : ClaimParts)
    → IsBuilt t k delay_blocks feerate_per_kw h expiry place checked x kind
    → IsClaimOn (claimable_with place checked (path_taken_by kind) (fillings_of kind) (bare_shell (Fixed x))) claim
    → IsClaimOn (second_stage_on t (bytes_of k) delay_blocks feerate_per_kw h place expiry) claim
as_second t k delay_blocks feerate_per_kw h expiry place checked x kind claim b i =
    let token = token_of k.remote_htlc.bytes (digest_of_htlc t (bytes_of k) delay_blocks feerate_per_kw h expiry.height place) in
    subst (λ o. IsClaimOn o claim)
    (same_claim place (form_of_htlc t (bytes_of k) h) 1 (item_with_both_keys h.direction h.hash ∷ Signature k.local_htlc.bytes ∷ Bytes token ∷ Bytes [] ∷ [])
    (Fixed (htlc_tx_on (bytes_of k) delay_blocks feerate_per_kw h.direction expiry.height place)) checked (path_taken_by kind) (fillings_of kind) (bare_shell (Fixed x))
    b.form (ap path_taken_by b.kind_is ∙ second_path k h.direction h.hash token) (ap fillings_of b.kind_is ∙ second_slots k h.direction h.hash token)
    (bare_of (bytes_of k) delay_blocks feerate_per_kw h.direction expiry.height place x b.tx))
    i

-- the kind that was built, from its token
pub kind_with : (t : ChannelType) (k : CommitmentKeys) (delay_blocks feerate_per_kw : ℕ) (h : RevokedHtlc) (expiry : Expiry) (place : Place) (checked : CheckedScript) (x : Transaction) (kind : ClaimKind) (digest script token : List ℕ)
    → checked ≡ form_of_htlc t (bytes_of k) h → x ≡ htlc_tx_on (bytes_of k) delay_blocks feerate_per_kw h.direction expiry.height place
    → script ≡ spelling checked.ops → digest ≡ digest_on x place script → token ≡ token_of k.remote_htlc.bytes digest → kind ≡ second_stage_kind_of k h.direction h.hash token
    → IsBuilt t k delay_blocks feerate_per_kw h expiry place checked x kind
kind_with t k delay_blocks feerate_per_kw h expiry place checked x kind digest script token e f s d u n = record {
  form = e;
  tx = f;
  kind_is = n ∙ ap (second_stage_kind_of k h.direction h.hash) (u ∙ ap (token_of k.remote_htlc.bytes) (d ∙ ap (λ y. digest_on y place script) f
      ∙ ap (digest_on (htlc_tx_on (bytes_of k) delay_blocks feerate_per_kw h.direction expiry.height place) place) (s ∙ ap (λ (y : CheckedScript). spelling y.ops) e)));
}
