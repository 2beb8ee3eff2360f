-- The claims of a side on the outputs on which it counts are worth these outputs, with the fees of its HTLC transactions that stand.
use Rattle.std.proofs.Common.{◌≡◌, ℕ, ◌+◌, ◌-◌, ◌*◌, ◌≤◌, Bool, true, false, not, List, [], ◌∷◌, ◌++◌, map, Option, Some, None, refl, sym, ap, ◌∙◌, arith}
use Rattle.std.specs.Prelude.{if◌then◌else◌}
use Rattle.std.specs.List.{All, AllByRecursion, sum_by, cons_option}
use Rattle.std.proofs.lemmas.Bool.{ltb-false, false≢true}
use Rattle.std.proofs.lemmas.List.Elements.{All-nil, All-cons, All-append, All-map, All-weaker, filter_passes, recursion_from_All}
use Rattle.std.proofs.lemmas.List.Sums.{sum_by-cons}
use Rattle.std.proofs.lemmas.List.Sorted.{All-permutation}
use Rattle.terms.specs.declared.htlcs.Htlc.{Htlc}
use Rattle.terms.specs.declared.sides.Side.{Side}
use Rattle.terms.specs.declared.agreement.Terms.{Terms}
use Rattle.terms.specs.declared.views.View.{View}
use Rattle.terms.specs.Agreement.{party}
use Rattle.terms.specs.Sides.{other}
use Rattle.terms.specs.Views.{share}
use Rattle.claim.specs.declared.parts.Place.{Place}
use Rattle.commit.specs.declared.fees.Direction.{Direction}
use Rattle.commit.specs.declared.fees.Direction.TheVariants.{Offered, Received}
use Rattle.commit.specs.declared.outputs.OutputKind.{OutputKind}
use Rattle.commit.specs.declared.outputs.OutputKind.TheVariants.{ToLocal, ToRemote, ToHtlc}
use Rattle.commit.specs.declared.outputs.CommitmentOutput.{CommitmentOutput}
use Rattle.commit.specs.declared.outputs.HtlcOutput.{HtlcOutput}
use Rattle.commit.specs.Fees.{satoshis_of, fee_sat_of, htlc_weight, is_trimmed_by}
use Rattle.commit.specs.Amounts.{untrimmed, amounts_of}
use Rattle.commit.specs.Keys.{KeyBytes, keys_of}
use Rattle.commit.specs.Outputs.{htlc_output, to_local_output, to_remote_output, where_paid, outputs_of}
use Rattle.commit.specs.Order.{ThereIsOneOrder}
use Rattle.commit.specs.Commitments.{Contents, commitment_of, tx_output, transaction_of, htlc_at, htlcs_from}
use Rattle.penalty.specs.Claimable.{Claimable, place_in, payment_on, claims_by}
use Rattle.penalty.specs.Worth.{value_of}
use Rattle.resolve.specs.Due.{delayed_on, second_stage_on, delayed_second_stage, direct_on}
use Rattle.worth_laws.specs.Shares.{owner_by, counts_on, counted_sat, deducted_msat, deductions, SharesAreWorth}
use Rattle.worth_laws.specs.Counted.{counted_on, counted, fee_counted, fees_counted, CountedAreWorth}
use Rattle.worth_laws.proofs.Shares.{worth_on, worth_in, filtered}

-- ---- an HTLC's output has the HTLC's satoshis, which cover the fee of its HTLC transaction

abbrev pub IsCovered : ℕ → ℕ → OutputKind → Type 0
IsCovered feerate_per_kw value ToLocal = Unit {0}
IsCovered feerate_per_kw value ToRemote = Unit {0}
IsCovered feerate_per_kw value (ToHtlc direction h) = (value ≡ satoshis_of h.amount_msat) × (fee_sat_of (htlc_weight direction) feerate_per_kw ≤ satoshis_of h.amount_msat)

abbrev pub Covers : ℕ → CommitmentOutput → Type 0
Covers feerate_per_kw o = IsCovered feerate_per_kw o.value o.kind

is_false : (b : Bool) → not b ≡ true → b ≡ false
is_false true e = absurd (false≢true e)
is_false false e = refl

enough : (limit_sat feerate_per_kw : ℕ) (direction : Direction) (h : Htlc) → not (is_trimmed_by limit_sat feerate_per_kw direction h) ≡ true → fee_sat_of (htlc_weight direction) feerate_per_kw ≤ satoshis_of h.amount_msat
enough limit_sat feerate_per_kw direction h e =
    above _ _ (ltb-false (satoshis_of h.amount_msat) (limit_sat + fee_sat_of (htlc_weight direction) feerate_per_kw) (is_false (is_trimmed_by limit_sat feerate_per_kw direction h) e))
  where
    above : (value fee : ℕ) → limit_sat + fee ≤ value → fee ≤ value
    above value fee l = omega arith

htlcs_covered : (k : KeyBytes) (limit_sat feerate_per_kw : ℕ) (direction : Direction) (hs : List Htlc) → All (Covers feerate_per_kw) (map (htlc_output k direction) (untrimmed limit_sat feerate_per_kw direction hs))
htlcs_covered k limit_sat feerate_per_kw direction hs =
    let kept : Htlc → Bool = λ h. not (is_trimmed_by limit_sat feerate_per_kw direction h) in
    All-map (Covers feerate_per_kw) (htlc_output k direction) (untrimmed limit_sat feerate_per_kw direction hs)
    (All-weaker (λ h. kept h ≡ true) (λ h. Covers feerate_per_kw (htlc_output k direction h)) (λ h e. (refl, enough limit_sat feerate_per_kw direction h e)) (untrimmed limit_sat feerate_per_kw direction hs) (filter_passes kept hs))

local_covered : (feerate_per_kw delay_blocks : ℕ) (k : KeyBytes) (value : Option ℕ) → All (Covers feerate_per_kw) (where_paid (to_local_output delay_blocks k) value)
local_covered feerate_per_kw delay_blocks k None = All-nil (Covers feerate_per_kw)
local_covered feerate_per_kw delay_blocks k (Some v) = All-cons (Covers feerate_per_kw) (to_local_output delay_blocks k v) [] tt (All-nil (Covers feerate_per_kw))

remote_covered : (feerate_per_kw : ℕ) (k : KeyBytes) (value : Option ℕ) → All (Covers feerate_per_kw) (where_paid (to_remote_output k) value)
remote_covered feerate_per_kw k None = All-nil (Covers feerate_per_kw)
remote_covered feerate_per_kw k (Some v) = All-cons (Covers feerate_per_kw) (to_remote_output k v) [] tt (All-nil (Covers feerate_per_kw))

outputs_covered : (terms : Terms) (view : View) (owner : Side) (delay_blocks : ℕ) (k : KeyBytes) → All (Covers view.feerate_per_kw) (outputs_of delay_blocks k (amounts_of terms view owner))
unfolding outputs_of
outputs_covered terms view owner delay_blocks k =
    All-append (Covers view.feerate_per_kw) _ _
    (All-append (Covers view.feerate_per_kw) _ _
    (All-append (Covers view.feerate_per_kw) _ _
    (htlcs_covered k (party owner terms).dust_sat view.feerate_per_kw Offered (share owner view).offered)
    (htlcs_covered k (party owner terms).dust_sat view.feerate_per_kw Received (share (other owner) view).offered))
    (local_covered view.feerate_per_kw delay_blocks k (amounts_of terms view owner).to_local))
    (remote_covered view.feerate_per_kw k (amounts_of terms view owner).to_remote)

pub each_covered : ThereIsOneOrder → (terms : Terms) (view : View) (owner : Side) (n : ℕ) (point : List ℕ)
    → All (Covers (commitment_of terms view owner n point).feerate_per_kw) (commitment_of terms view owner n point).outputs
unfolding commitment_of
each_covered law terms view owner n point =
    All-permutation (Covers view.feerate_per_kw) _ _ (law (outputs_of (party owner terms).delay_blocks (keys_of terms owner point) (amounts_of terms view owner))).0.same
    (outputs_covered terms view owner (party owner terms).delay_blocks (keys_of terms owner point))

-- ---- one output's claim has its value, but for the fee

abbrev fees : Bool → (Htlc → Bool) → (ℕ → Bool) → ℕ → List HtlcOutput → ℕ
fees true known stands feerate_per_kw hs = sum_by (fee_counted known stands feerate_per_kw) hs
fees false known stands feerate_per_kw hs = 0

pub one : (o : Claimable) (rest : List Claimable) (others : ℕ) → value_of (o ∷ rest) + others ≡ o.place.value + (value_of rest + others)
one o rest others = let a = sum_by-cons (λ (x : Claimable). x.place.value) o rest in omega (arith, a)

none : (rest : List Claimable) (others : ℕ) → value_of rest + others ≡ 0 + (value_of rest + others)
none rest others = omega arith

-- at either stage, with the fee of the second, if it counts
pub either : (counts b : Bool) (s f : Claimable) (rest : List Claimable) (fee others : ℕ) → s.place.value ≡ f.place.value - fee → fee ≤ f.place.value
    → value_of ((if counts then (if b then s else f) ∷ [] else []) ++ rest) + ((if counts then (if b then fee else 0) else 0) + others) ≡ (if counts then f.place.value else 0) + (value_of rest + others)
either true true s f rest fee others e l = let a = sum_by-cons (λ (o : Claimable). o.place.value) s rest in omega (arith, a)
either true false s f rest fee others e l = let a = sum_by-cons (λ (o : Claimable). o.place.value) f rest in omega (arith, a)
either false b s f rest fee others e l = omega arith

one_if : (counts : Bool) (o : Claimable) (rest : List Claimable) (others : ℕ) → value_of ((if counts then o ∷ [] else []) ++ rest) + others ≡ (if counts then o.place.value else 0) + (value_of rest + others)
one_if true o rest others = one o rest others
one_if false o rest others = none rest others

on_own_htlc : (known : Htlc → Bool) (stands : ℕ → Bool) (c : Contents) (index : ℕ) (place : Place) (direction : Direction) (h : Htlc) (rest : List Claimable) (hs : List HtlcOutput) → IsCovered c.feerate_per_kw place.value (ToHtlc direction h)
    → value_of (counted_on true known stands c index place (ToHtlc direction h) ++ rest) + fees true known stands c.feerate_per_kw (record { index = index; direction = direction; htlc = h } ∷ hs)
    ≡ (if counts_on true known (ToHtlc direction h) then place.value else 0) + (value_of rest + fees true known stands c.feerate_per_kw hs)
on_own_htlc known stands c index place direction h rest hs v =
    let htlc : HtlcOutput = record { index = index; direction = direction; htlc = h } in
    let fee = fee_sat_of (htlc_weight direction) c.feerate_per_kw in
    let less : satoshis_of h.amount_msat - fee ≡ place.value - fee = ap (λ n. n - fee) (sym v.0) in
    let covers : fee ≤ place.value = omega (arith, v.0, v.1) in
    ap (λ n. value_of (counted_on true known stands c index place (ToHtlc direction h) ++ rest) + n) (sum_by-cons (fee_counted known stands c.feerate_per_kw) htlc hs)
    ∙ either (counts_on true known (ToHtlc direction h)) (stands index) (delayed_second_stage c htlc) (second_stage_on c htlc place) rest fee (fees true known stands c.feerate_per_kw hs) less covers

on_output : (own : Bool) (known : Htlc → Bool) (stands : ℕ → Bool) (c : Contents) (index : ℕ) (place : Place) (kind : OutputKind) (rest : List Claimable) (hs : List HtlcOutput) → IsCovered c.feerate_per_kw place.value kind
    → value_of (counted_on own known stands c index place kind ++ rest) + fees own known stands c.feerate_per_kw (cons_option (htlc_at index kind) hs)
    ≡ (if counts_on own known kind then place.value else 0) + (value_of rest + fees own known stands c.feerate_per_kw hs)
on_output true known stands c index place ToLocal rest hs v = one (delayed_on c place) rest _
on_output true known stands c index place ToRemote rest hs v = none rest _
on_output true known stands c index place (ToHtlc direction h) rest hs v = on_own_htlc known stands c index place direction h rest hs v
on_output false known stands c index place ToLocal rest hs v = none rest 0
on_output false known stands c index place ToRemote rest hs v = one (payment_on c place) rest 0
on_output false known stands c index place (ToHtlc direction h) rest hs v = one_if (counts_on false known (ToHtlc direction h)) (direct_on c direction h place) rest 0

worth_from : (own : Bool) (known : Htlc → Bool) (stands : ℕ → Bool) (c : Contents) (index : ℕ) (os : List CommitmentOutput) → AllByRecursion (Covers c.feerate_per_kw) os
    → value_of (claims_by (counted_on own known stands c) c index os) + fees own known stands c.feerate_per_kw (htlcs_from index os) ≡ worth_in own known os
unfolding claims_by htlcs_from
worth_from true known stands c index [] v = refl
worth_from false known stands c index [] v = refl
worth_from own known stands c index (o ∷ os) v =
    let here =
    on_output own known stands c index (place_in (transaction_of c) index (tx_output o)) o.kind (claims_by (counted_on own known stands c) c (index + 1) os) (htlcs_from (index + 1) os) v.0
    in
    let rest = worth_from own known stands c (index + 1) os v.1 in
    here ∙ ap (λ n. worth_on own known o + n) rest ∙ sym (sum_by-cons (worth_on own known) o os)

same_fees : (own : Bool) (known : Htlc → Bool) (stands : ℕ → Bool) (c : Contents) → fees_counted own known stands c ≡ fees own known stands c.feerate_per_kw (htlcs_from 0 c.outputs)
same_fees true known stands c = refl
same_fees false known stands c = refl

pub counted_worth : ThereIsOneOrder → (terms : Terms) (view : View) (owner : Side) (n : ℕ) (point : List ℕ) (own : Bool) (known : Htlc → Bool) (stands : ℕ → Bool)
    → (let c = commitment_of terms view owner n point in value_of (counted own known stands c) + fees_counted own known stands c ≡ counted_sat own known c.outputs)
counted_worth law terms view owner n point own known stands =
    let c = commitment_of terms view owner n point in
    ap (λ n. value_of (counted own known stands c) + n) (same_fees own known stands c)
    ∙ worth_from own known stands c 0 c.outputs (recursion_from_All (Covers c.feerate_per_kw) c.outputs (each_covered law terms view owner n point))
    ∙ sym (filtered own known c.outputs)

pub counted_are_worth : ThereIsOneOrder → SharesAreWorth → CountedAreWorth
counted_are_worth law shares terms view own me n point known stands =
    ap (λ satoshis. 1000 * satoshis + deducted_msat (deductions terms view own me known)) (counted_worth law terms view (owner_by own me) n point own known stands) ∙ shares terms view own me n point known
