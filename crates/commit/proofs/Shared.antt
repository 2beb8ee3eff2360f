-- A view that shares out the capacity has a commitment.
use Rattle.std.proofs.Common.{◌≡◌, ℕ, ◌+◌, ◌≤◌, Bool, true, false, not, cond, ltb, List, [], ◌∷◌, ◌++◌, map, length, Option, Some, None, refl, arith, length-append}
use Rattle.std.specs.List.{All, list_any, filter}
use Rattle.std.proofs.lemmas.Bool.{le-ltb}
use Rattle.std.proofs.lemmas.List.{length-map}
use Rattle.std.proofs.lemmas.List.Elements.{All-nil, All-cons}
use Rattle.std.proofs.lemmas.List.Folds.{list_any_none}
use Rattle.std.proofs.lemmas.List.Sums.{sum_by-cons}
use Rattle.std.proofs.lemmas.List.Sorted.{All-permutation, length_permutation}
use Rattle.tx.specs.declared.limits.TheConstants.{MAX_VALUE, MAX_OUTPUTS}
use Rattle.terms.specs.declared.htlcs.Htlc.{Htlc}
use Rattle.terms.specs.declared.sides.Side.{Side}
use Rattle.terms.specs.declared.sides.Side.TheVariants.{A, B}
use Rattle.terms.specs.declared.agreement.Terms.{Terms}
use Rattle.terms.specs.declared.views.View.{View}
use Rattle.terms.specs.Agreement.{party}
use Rattle.commit.specs.declared.fees.Direction.TheVariants.{Offered, Received}
use Rattle.commit.specs.declared.amounts.Amounts.{Amounts}
use Rattle.commit.specs.declared.outputs.CommitmentOutput.{CommitmentOutput as Output}
use Rattle.commit.specs.declared.errors.BuildError.TheVariants.{TooManyOutputs, ValueTooLarge}
use Rattle.commit.specs.Fees.{is_trimmed_by}
use Rattle.commit.specs.Amounts.{amounts_of}
use Rattle.commit.specs.Sums.{paid_out_sat, fee_paid_sat}
use Rattle.commit.specs.Keys.{KeyBytes, keys_of}
use Rattle.commit.specs.Outputs.{to_local_output, to_remote_output, htlc_output, where_paid, outputs_of}
use Rattle.commit.specs.Order.{in_order}
use Rattle.commit.specs.Commitments.{commitment_of}
use Rattle.commit.specs.Building.{refusal_of, SharedViewsHaveCommitments}
use Rattle.commit.proofs.Ordered.{there_is_one}
use Rattle.commit.proofs.Funds.{nothing_is_created}
use Rattle.commit.proofs.Values.{values, of_all}

-- no value is above their sum
each_below : (xs : List Output) (top : ℕ) → values xs ≤ top → All (λ o. o.value ≤ top) xs
each_below [] top l = All-nil (λ (o : Output). o.value ≤ top)
each_below (x ∷ xs) top l =
    let s = sum_by-cons (λ (o : Output). o.value) x xs in
    All-cons (λ (o : Output). o.value ≤ top) x xs (omega (arith, s)) (each_below xs top (omega (arith, s)))

not_above : (v : ℕ) → v ≤ MAX_VALUE → ltb MAX_VALUE v ≡ false
not_above v l = le-ltb MAX_VALUE v l

none_above : (xs : List Output) → All (λ o. o.value ≤ MAX_VALUE) xs → list_any (λ o. ltb MAX_VALUE o.value) xs ≡ false
none_above xs a = list_any_none (λ (o : Output). ltb MAX_VALUE o.value) xs (λ i d l. not_above _ (a i d l))

-- the number of HTLCs that are kept
kept_fewer : (p : Htlc → Bool) (hs : List Htlc) → length (filter p hs) ≤ length hs
kept_fewer p [] = omega arith
kept_fewer p (h ∷ hs) = by (p h) (kept_fewer p hs)
  where
    by : (b : Bool) → length (filter p hs) ≤ length hs → length (cond b (h ∷ filter p hs) (filter p hs)) ≤ length (h ∷ hs)
    by true l = omega arith
    by false l = omega arith

at_most_one : (f : ℕ → Output) (v : Option ℕ) → length (where_paid f v) ≤ 1
at_most_one f None = omega arith
at_most_one f (Some v) = omega arith

few : (delay_blocks : ℕ) (k : KeyBytes) (a : Amounts) → length (outputs_of delay_blocks k a) ≤ length a.offered + length a.received + 2
unfolding outputs_of
few delay_blocks k a =
    let x = length-append ((map (htlc_output k Offered) a.offered ++ map (htlc_output k Received) a.received) ++ where_paid (to_local_output delay_blocks k) a.to_local) (where_paid (to_remote_output k) a.to_remote) in
    let y = length-append (map (htlc_output k Offered) a.offered ++ map (htlc_output k Received) a.received) (where_paid (to_local_output delay_blocks k) a.to_local) in
    let z = length-append (map (htlc_output k Offered) a.offered) (map (htlc_output k Received) a.received) in
    let o = length-map a.offered (htlc_output k Offered) in
    let r = length-map a.received (htlc_output k Received) in
    let l = at_most_one (to_local_output delay_blocks k) a.to_local in
    let m = at_most_one (to_remote_output k) a.to_remote in
    counted _ _ _ _ _ _ _ _ _ x y z o r l m
  where
    counted : (w v u p q s t p' q' : ℕ) → w ≡ v + t → v ≡ u + s → u ≡ p + q → p ≡ p' → q ≡ q' → s ≤ 1 → t ≤ 1 → w ≤ p' + q' + 2
    counted w v u p q s t p' q' a b c d e f g = omega arith

both : (terms : Terms) (view : View) (owner : Side)
    → length (amounts_of terms view owner).offered + length (amounts_of terms view owner).received ≤ length view.a.offered + length view.b.offered
both terms view A =
    let a = kept_fewer (λ h. not (is_trimmed_by (party A terms).dust_sat view.feerate_per_kw Offered h)) view.a.offered in
    let b = kept_fewer (λ h. not (is_trimmed_by (party A terms).dust_sat view.feerate_per_kw Received h)) view.b.offered in
    omega (arith, a, b)
both terms view B =
    let a = kept_fewer (λ h. not (is_trimmed_by (party B terms).dust_sat view.feerate_per_kw Offered h)) view.b.offered in
    let b = kept_fewer (λ h. not (is_trimmed_by (party B terms).dust_sat view.feerate_per_kw Received h)) view.a.offered in
    omega (arith, a, b)

passed : (m l : Bool) → m ≡ false → l ≡ false → cond m (Some TooManyOutputs) (cond l (Some ValueTooLarge) None) ≡ None
passed m l e f = rw (e, f) refl

not_refused : (os : List Output) → length os ≤ MAX_OUTPUTS → All (λ o. o.value ≤ MAX_VALUE) os → refusal_of os ≡ None
unfolding refusal_of
not_refused os l a = passed _ _ (le-ltb MAX_OUTPUTS (length os) l) (none_above os a)

pub shared : SharedViewsHaveCommitments
unfolding commitment_of
shared terms view owner n point whole count =
    let a = amounts_of terms view owner in
    let k = keys_of terms owner point in
    let os = outputs_of (party owner terms).delay_blocks k a in
    let perm = (there_is_one os).0.same in
    let p : values os ≡ paid_out_sat a = of_all (party owner terms).delay_blocks k a in
    let c : paid_out_sat a + fee_paid_sat terms view owner ≤ terms.capacity_sat = nothing_is_created terms view owner whole in
    let m = terms.limited in
    let v : values os ≤ MAX_VALUE = omega (arith, p, c, m) in
    let f : length os ≤ length a.offered + length a.received + 2 = few (party owner terms).delay_blocks k a in
    let b : length a.offered + length a.received ≤ length view.a.offered + length view.b.offered = both terms view owner in
    let same : length (in_order os) ≡ length os = length_permutation os (in_order os) perm in
    let l : length (in_order os) ≤ MAX_OUTPUTS = omega (arith, f, b, same, count) in
    not_refused (in_order os) l (All-permutation (λ o. o.value ≤ MAX_VALUE) os (in_order os) perm (each_below os MAX_VALUE v))
