-- An HTLC transaction stands round the claim on its HTLC's output.
use Rattle.std.proofs.Common.{◌≡◌, ℕ, ◌<◌, true, List, Some, None, refl, sym, ap, subst, ◌∙◌, arith}
use Rattle.std.specs.Prelude.{slice_get, nat_le, nat_lt, ◌==◌, unwrap_or}
use Rattle.std.proofs.lemmas.Bool.{and_from, eq-eqb, lt-ltb, le-leb}
use Rattle.std.proofs.lemmas.Slice.Eq.{bytes_eq-Decides}
use Rattle.script.specs.declared.limits.TheConstants.{LOCKTIME_THRESHOLD}
use Rattle.sighash.specs.Signing.{sighash}
use Rattle.tx.specs.Fields.{Transaction, total_value}
use Rattle.terms.specs.declared.htlcs.Htlc.{Htlc}
use Rattle.paths.specs.declared.state.Path.{Path}
use Rattle.paths.specs.Listing.{CheckedScript}
use Rattle.claim.specs.declared.parts.Place.{Place}
use Rattle.claim.specs.declared.parts.Shell.TheVariants.{Fixed}
use Rattle.claim.specs.Judgement.{is_only_input, is_shell, height_of, age_of, bare_shell}
use Rattle.commit.specs.declared.fees.Direction.{Direction}
use Rattle.commit.specs.declared.fees.Direction.TheVariants.{Offered, Received}
use Rattle.commit.specs.declared.outputs.HtlcOutput.{HtlcOutput}
use Rattle.commit.specs.Fees.{satoshis_of}
use Rattle.commit.specs.Keys.{KeyBytes}
use Rattle.commit.specs.Outputs.{htlc_script}
use Rattle.commit.specs.Commitments.{Contents, id_of, lock_time_of, htlc_tx_of}
use Rattle.commit.specs.Signing.{htlc_digest}
use Rattle.penalty.specs.Claimable.{htlc_form}
use Rattle.penalty.specs.Outputs.{HasWay}
use Rattle.resolve.specs.Kinds.{IsHtlcPlace}

low_lock : (direction : Direction) (h : Htlc) → h.expiry_height < LOCKTIME_THRESHOLD → nat_lt (lock_time_of direction h) LOCKTIME_THRESHOLD ≡ true
low_lock Offered h l = lt-ltb h.expiry_height LOCKTIME_THRESHOLD l
low_lock Received h l = refl

only_input : (c : Contents) (h : HtlcOutput) (place : Place) → IsHtlcPlace c h place → is_only_input (htlc_tx_of c h).inputs place.outpoint 0 ≡ true
unfolding htlc_tx_of
only_input c h place p =
    and_from _ _ (and_from _ _ ((bytes_eq-Decides (id_of c) place.outpoint.txid).1 (sym p.id)) (eq-eqb h.index place.outpoint.index (sym p.index))) refl

within_value : (c : Contents) (h : HtlcOutput) (place : Place) → IsHtlcPlace c h place → nat_le (total_value (htlc_tx_of c h).outputs) place.value ≡ true
unfolding htlc_tx_of
within_value c h place p =
    le-leb _ place.value (let e = p.value in omega (arith, e))

lock_is : (c : Contents) (h : HtlcOutput) → (htlc_tx_of c h).lock_time ≡ lock_time_of h.direction h.htlc
unfolding htlc_tx_of
lock_is c h = refl

version_is : (c : Contents) (h : HtlcOutput) → ((htlc_tx_of c h).version == 2) ≡ true
unfolding htlc_tx_of
version_is c h = refl

no_height : (n : ℕ) → nat_le 0 n ≡ true
no_height n = le-leb 0 n (omega arith)

-- round a path without locks
stands_round : (c : Contents) (h : HtlcOutput) (place : Place) (p : Path) → p.lock ≡ None → p.age ≡ None → h.htlc.expiry_height < LOCKTIME_THRESHOLD → IsHtlcPlace c h place
    → is_shell p place (Fixed (htlc_tx_of c h)) ≡ true
stands_round c h place p l a low w =
    let height : height_of p ≡ 0 = ap (λ o. unwrap_or o 0) l in
    let age : age_of p ≡ 0 = ap (λ o. unwrap_or o 0) a in
    let t : Transaction = htlc_tx_of c h in
    let one : (t.version == 2) ≡ true = version_is c h in
    let two : is_only_input t.inputs place.outpoint (age_of p) ≡ true = ap (is_only_input t.inputs place.outpoint) age ∙ only_input c h place w in
    let three : nat_lt t.lock_time LOCKTIME_THRESHOLD ≡ true = ap (λ n. nat_lt n LOCKTIME_THRESHOLD) (lock_is c h) ∙ low_lock h.direction h.htlc low in
    let four : nat_le (height_of p) t.lock_time ≡ true = ap (λ n. nat_le n t.lock_time) height ∙ no_height t.lock_time in
    and_from _ _ (and_from _ _ (and_from _ _ (and_from _ _ one two) three) four) (within_value c h place w)

way_of : (c : Contents) (h : HtlcOutput) (place : Place) (form : CheckedScript) (p : Path) → slice_get form.paths 1 ≡ Some p → p.lock ≡ None → p.age ≡ None → h.htlc.expiry_height < LOCKTIME_THRESHOLD
    → IsHtlcPlace c h place → HasWay form 1 place (Fixed (htlc_tx_of c h))
way_of c h place form p e l a low w = (p, e, stands_round c h place p l a low w)

way_at : (k : KeyBytes) (direction : Direction) (htlc : Htlc) (c : Contents) (h : HtlcOutput) (place : Place) → h.htlc.expiry_height < LOCKTIME_THRESHOLD → IsHtlcPlace c h place
    → HasWay (htlc_form k direction htlc) 1 place (Fixed (htlc_tx_of c h))
way_at k Offered htlc c h place low w = way_of c h place (htlc_form k Offered htlc) _ refl refl refl low w
way_at k Received htlc c h place low w = way_of c h place (htlc_form k Received htlc) _ refl refl refl low w

pub second_stage_way : (k : KeyBytes) (c : Contents) (h : HtlcOutput) (checked : CheckedScript) (place : Place) → checked ≡ htlc_form k h.direction h.htlc → h.htlc.expiry_height < LOCKTIME_THRESHOLD
    → IsHtlcPlace c h place → HasWay checked 1 place (Fixed (htlc_tx_of c h))
second_stage_way k c h checked place e low w = subst (λ x. HasWay x 1 place (Fixed (htlc_tx_of c h))) (sym e) (way_at k h.direction h.htlc c h place low w)

-- the digest that its signatures are over
pub htlc_tx_digest : (c : Contents) (h : HtlcOutput) (script : List ℕ) (value : ℕ) → script ≡ htlc_script c.keys h.direction h.htlc → value ≡ satoshis_of h.htlc.amount_msat
    → sighash (htlc_tx_of c h) 0 script value ≡ Some (htlc_digest c h)
unfolding htlc_tx_of htlc_digest
htlc_tx_digest c h script value e f = rw (e, f) refl

-- its witness is empty
pub htlc_tx_bare : (c : Contents) (h : HtlcOutput) → bare_shell (Fixed (htlc_tx_of c h)) ≡ Fixed (htlc_tx_of c h)
unfolding htlc_tx_of
htlc_tx_bare c h = refl
