-- What a revoked state lets the peer claim is worth the capacity.
use Rattle.std.proofs.Common.{◌≡◌, ℕ, ◌+◌, ◌-◌, ◌*◌, ◌≤◌, Bool, true, false, not, List, [], ◌∷◌, ◌++◌, map, Option, Some, None, refl, sym, ap, ◌∙◌, arith}
use Rattle.std.specs.Prelude.{if◌then◌else◌, Contains}
use Rattle.std.specs.List.{All, AllByRecursion, sum_by, cons_option}
use Rattle.std.proofs.lemmas.Bool.{ltb-false, false≢true}
use Rattle.std.proofs.lemmas.List.Elements.{All-nil, All-cons, All-append, All-map, All-weaker, filter_passes, recursion_from_All, Contains-append_right}
use Rattle.std.proofs.lemmas.List.Sums.{sum_by-cons}
use Rattle.std.proofs.lemmas.List.Sorted.{All-permutation, sum_by-IsPermutation}
use Rattle.keys.specs.Derivation.{point_of}
use Rattle.terms.specs.declared.htlcs.Htlc.{Htlc}
use Rattle.terms.specs.declared.sides.Side.{Side}
use Rattle.terms.specs.declared.agreement.Terms.{Terms}
use Rattle.terms.specs.declared.views.View.{View}
use Rattle.terms.specs.Agreement.{party}
use Rattle.terms.specs.Sides.{other}
use Rattle.terms.specs.Views.{share}
use Rattle.claim.specs.declared.parts.Place.{Place}
use Rattle.commit.specs.declared.fees.Direction.{Direction}
use Rattle.commit.specs.declared.fees.Direction.TheVariants.{Offered, Received}
use Rattle.commit.specs.declared.outputs.OutputKind.{OutputKind}
use Rattle.commit.specs.declared.outputs.OutputKind.TheVariants.{ToLocal, ToRemote, ToHtlc}
use Rattle.commit.specs.declared.outputs.CommitmentOutput.{CommitmentOutput}
use Rattle.commit.specs.declared.outputs.HtlcOutput.{HtlcOutput}
use Rattle.commit.specs.Fees.{satoshis_of, fee_sat_of, htlc_weight, is_trimmed_by}
use Rattle.commit.specs.Amounts.{untrimmed, amounts_of}
use Rattle.commit.specs.Sums.{paid_out_sat}
use Rattle.commit.specs.Keys.{KeyBytes, keys_of}
use Rattle.commit.specs.Outputs.{htlc_output, to_local_output, to_remote_output, where_paid, outputs_of}
use Rattle.commit.specs.Order.{in_order}
use Rattle.commit.specs.Commitments.{Contents, commitment_of, tx_output, transaction_of, htlc_at, htlcs_from, htlcs_of}
use Rattle.commit.proofs.Funds.{each_is_placed}
use Rattle.commit.proofs.Ordered.{there_is_one}
use Rattle.commit.proofs.Values.{values, of_all}
use Rattle.penalty.specs.declared.states.RevokedState.{RevokedState}
use Rattle.penalty.specs.Claimable.{Claimable, place_in, penalty_on, payment_on, htlc_penalty_on, second_stage_penalty, claims_on, claims_by, claims_from, commitment_in, claimable_of}
use Rattle.penalty.specs.Worth.{stage_on, staged, value_of, fee_with, fees_with, FirstStageIsWorthTheCapacity, EachStageIsWorthTheCapacity, EachStageIsClaimable}

values_are : (terms : Terms) (view : View) (owner : Side) (n : ℕ) (point : List ℕ)
    → values (commitment_of terms view owner n point).outputs ≡ paid_out_sat (amounts_of terms view owner)
unfolding commitment_of
values_are terms view owner n point =
    let os = outputs_of (party owner terms).delay_blocks (keys_of terms owner point) (amounts_of terms view owner) in
    sum_by-IsPermutation (λ (o : CommitmentOutput). o.value) os (in_order os) (there_is_one os).0.same
    ∙ of_all (party owner terms).delay_blocks (keys_of terms owner point) (amounts_of terms view owner)

-- an HTLC's output has the HTLC's satoshis, which cover the fee of its HTLC transaction
abbrev IsCovered : ℕ → ℕ → OutputKind → Type 0
IsCovered feerate_per_kw value ToLocal = Unit {0}
IsCovered feerate_per_kw value ToRemote = Unit {0}
IsCovered feerate_per_kw value (ToHtlc direction h) = (value ≡ satoshis_of h.amount_msat) × (fee_sat_of (htlc_weight direction) feerate_per_kw ≤ satoshis_of h.amount_msat)

abbrev Covers : ℕ → CommitmentOutput → Type 0
Covers feerate_per_kw o = IsCovered feerate_per_kw o.value o.kind

is_false : (b : Bool) → not b ≡ true → b ≡ false
is_false true e = absurd (false≢true e)
is_false false e = refl

enough : (dust_sat feerate_per_kw : ℕ) (direction : Direction) (h : Htlc) → not (is_trimmed_by dust_sat feerate_per_kw direction h) ≡ true → fee_sat_of (htlc_weight direction) feerate_per_kw ≤ satoshis_of h.amount_msat
enough dust_sat feerate_per_kw direction h e =
    above _ dust_sat _ (ltb-false (satoshis_of h.amount_msat) (dust_sat + fee_sat_of (htlc_weight direction) feerate_per_kw) (is_false (is_trimmed_by dust_sat feerate_per_kw direction h) e))
  where
    above : (value dust_sat fee : ℕ) → dust_sat + fee ≤ value → fee ≤ value
    above value dust_sat fee l = omega arith

htlcs_covered : (k : KeyBytes) (dust_sat feerate_per_kw : ℕ) (direction : Direction) (hs : List Htlc) → All (Covers feerate_per_kw) (map (htlc_output k direction) (untrimmed dust_sat feerate_per_kw direction hs))
htlcs_covered k dust_sat feerate_per_kw direction hs =
    let kept : Htlc → Bool = λ h. not (is_trimmed_by dust_sat feerate_per_kw direction h) in
    All-map (Covers feerate_per_kw) (htlc_output k direction) (untrimmed dust_sat feerate_per_kw direction hs)
    (All-weaker (λ h. kept h ≡ true) (λ h. Covers feerate_per_kw (htlc_output k direction h)) (λ h e. (refl, enough dust_sat feerate_per_kw direction h e)) (untrimmed dust_sat feerate_per_kw direction hs) (filter_passes kept hs))

local_covered : (feerate_per_kw delay_blocks : ℕ) (k : KeyBytes) (value : Option ℕ) → All (Covers feerate_per_kw) (where_paid (to_local_output delay_blocks k) value)
local_covered feerate_per_kw delay_blocks k None = All-nil (Covers feerate_per_kw)
local_covered feerate_per_kw delay_blocks k (Some v) = All-cons (Covers feerate_per_kw) (to_local_output delay_blocks k v) [] tt (All-nil (Covers feerate_per_kw))

remote_covered : (feerate_per_kw : ℕ) (k : KeyBytes) (value : Option ℕ) → All (Covers feerate_per_kw) (where_paid (to_remote_output k) value)
remote_covered feerate_per_kw k None = All-nil (Covers feerate_per_kw)
remote_covered feerate_per_kw k (Some v) = All-cons (Covers feerate_per_kw) (to_remote_output k v) [] tt (All-nil (Covers feerate_per_kw))

outputs_covered : (terms : Terms) (view : View) (owner : Side) (delay_blocks : ℕ) (k : KeyBytes) → All (Covers view.feerate_per_kw) (outputs_of delay_blocks k (amounts_of terms view owner))
unfolding outputs_of
outputs_covered terms view owner delay_blocks k =
    All-append (Covers view.feerate_per_kw) _ _
    (All-append (Covers view.feerate_per_kw) _ _
    (All-append (Covers view.feerate_per_kw) _ _
    (htlcs_covered k (party owner terms).dust_sat view.feerate_per_kw Offered (share owner view).offered)
    (htlcs_covered k (party owner terms).dust_sat view.feerate_per_kw Received (share (other owner) view).offered))
    (local_covered view.feerate_per_kw delay_blocks k (amounts_of terms view owner).to_local))
    (remote_covered view.feerate_per_kw k (amounts_of terms view owner).to_remote)

each_covered : (terms : Terms) (view : View) (owner : Side) (n : ℕ) (point : List ℕ)
    → All (Covers (commitment_of terms view owner n point).feerate_per_kw) (commitment_of terms view owner n point).outputs
unfolding commitment_of
each_covered terms view owner n point =
    All-permutation (Covers view.feerate_per_kw) _ _
    (there_is_one (outputs_of (party owner terms).delay_blocks (keys_of terms owner point) (amounts_of terms view owner))).0.same
    (outputs_covered terms view owner (party owner terms).delay_blocks (keys_of terms owner point))

-- an HTLC's claim at either stage, with the fee of the second
either : (b : Bool) (s f : Claimable) (rest : List Claimable) (fee others : ℕ) → s.place.value ≡ f.place.value - fee → fee ≤ f.place.value
    → value_of ((if b then s else f) ∷ rest) + ((if b then fee else 0) + others) ≡ f.place.value + (value_of rest + others)
either true s f rest fee others e l = let a = sum_by-cons (λ (o : Claimable). o.place.value) s rest in omega (arith, a)
either false s f rest fee others e l = let a = sum_by-cons (λ (o : Claimable). o.place.value) f rest in omega (arith, a)

abbrev fees : (ℕ → Bool) → ℕ → List HtlcOutput → ℕ
fees stands feerate_per_kw hs = sum_by (λ h. fee_with stands feerate_per_kw h) hs

-- one output's claim has its value, but for the fee
on_output : (stands : ℕ → Bool) (c : Contents) (index : ℕ) (place : Place) (kind : OutputKind) (rest : List Claimable) (hs : List HtlcOutput) → IsCovered c.feerate_per_kw place.value kind
    → value_of (stage_on stands c index place kind ++ rest) + fees stands c.feerate_per_kw (cons_option (htlc_at index kind) hs) ≡ place.value + (value_of rest + fees stands c.feerate_per_kw hs)
on_output stands c index place ToLocal rest hs v = let a = sum_by-cons (λ (o : Claimable). o.place.value) (penalty_on c place) rest in omega (arith, a)
on_output stands c index place ToRemote rest hs v = let a = sum_by-cons (λ (o : Claimable). o.place.value) (payment_on c place) rest in omega (arith, a)
on_output stands c index place (ToHtlc direction h) rest hs v =
    let htlc : HtlcOutput = record { index = index; direction = direction; htlc = h } in
    let fee = fee_sat_of (htlc_weight direction) c.feerate_per_kw in
    let less : satoshis_of h.amount_msat - fee ≡ place.value - fee = ap (λ n. n - fee) (sym v.0) in
    let covers : fee ≤ place.value = omega (arith, v.0, v.1) in
    ap (λ n. value_of (stage_on stands c index place (ToHtlc direction h) ++ rest) + n) (sum_by-cons (λ (x : HtlcOutput). fee_with stands c.feerate_per_kw x) htlc hs)
    ∙ either (stands index) (second_stage_penalty c htlc) (htlc_penalty_on c direction h place) rest fee (fees stands c.feerate_per_kw hs) less covers

worth_from : (stands : ℕ → Bool) (c : Contents) (index : ℕ) (os : List CommitmentOutput) → AllByRecursion (Covers c.feerate_per_kw) os
    → value_of (claims_by (stage_on stands c) c index os) + fees stands c.feerate_per_kw (htlcs_from index os) ≡ values os
unfolding claims_by htlcs_from
worth_from stands c index [] v = refl
worth_from stands c index (o ∷ os) v =
    let here = on_output stands c index (place_in (transaction_of c) index (tx_output o)) o.kind (claims_by (stage_on stands c) c (index + 1) os) (htlcs_from (index + 1) os) v.0 in
    let rest = worth_from stands c (index + 1) os v.1 in
    here ∙ ap (λ n. o.value + n) rest ∙ sym (sum_by-cons (λ (x : CommitmentOutput). x.value) o os)

staged_worth : (state : RevokedState) (stands : ℕ → Bool)
    → value_of (staged stands (commitment_in state)) + fees_with stands (commitment_in state) ≡ paid_out_sat (amounts_of state.terms state.view state.owner)
staged_worth state stands =
    worth_from stands (commitment_in state) 0 (commitment_in state).outputs
    (recursion_from_All (Covers (commitment_in state).feerate_per_kw) (commitment_in state).outputs
    (each_covered state.terms state.view state.owner state.number (point_of state.secret)))
    ∙ values_are state.terms state.view state.owner state.number (point_of state.secret)

whole : (satoshis paid fee left rest total capacity_sat : ℕ) → satoshis ≡ paid → 1000 * (paid + fee + left) + rest ≡ total → total ≡ 1000 * capacity_sat
    → 1000 * (satoshis + fee + left) + rest ≡ 1000 * capacity_sat
whole _ _ _ _ _ _ _ a b c = omega (arith, a, b, c)

pub each_stage : EachStageIsWorthTheCapacity
each_stage state stands =
    whole _ _ _ _ _ _ _ (staged_worth state stands) (each_is_placed state.terms state.view state.owner) state.whole

-- no transaction, no fee
no_fees : (feerate_per_kw : ℕ) (hs : List HtlcOutput) → fees (λ _. false) feerate_per_kw hs ≡ 0
no_fees feerate_per_kw [] = refl
no_fees feerate_per_kw (h ∷ hs) = none _ _ (sum_by-cons (λ (x : HtlcOutput). fee_with (λ _. false) feerate_per_kw x) h hs) (no_fees feerate_per_kw hs)
  where
    none : (sum rest : ℕ) → sum ≡ 0 + rest → rest ≡ 0 → sum ≡ 0
    none sum rest a b = omega arith

pub first : FirstStageIsWorthTheCapacity
first state =
    whole _ _ _ _ _ _ _
    (without _ _ _ (staged_worth state (λ _. false)) (no_fees (commitment_in state).feerate_per_kw (htlcs_of (commitment_in state))))
    (each_is_placed state.terms state.view state.owner)
    state.whole
  where
    without : (satoshis fees paid : ℕ) → satoshis + fees ≡ paid → fees ≡ 0 → satoshis ≡ paid
    without satoshis fees paid a b = omega arith

-- each is among the claims on its output
all_append : (xs ys os : List Claimable) → AllByRecursion (Contains os) xs → AllByRecursion (Contains os) ys → AllByRecursion (Contains os) (xs ++ ys)
all_append [] ys os a b = b
all_append (x ∷ xs) ys os a b = (a.0, all_append xs ys os a.1 b)

behind : (os ps xs : List Claimable) → AllByRecursion (Contains ps) xs → AllByRecursion (Contains (os ++ ps)) xs
behind os ps [] a = tt
behind os ps (x ∷ xs) a = (Contains-append_right os ps x a.0, behind os ps xs a.1)

at_first : (o : Claimable) (os : List Claimable) → Contains (o ∷ os) o
at_first o os = (0, omega arith, refl)

at_either : (b : Bool) (f s : Claimable) (os : List Claimable) → Contains (f ∷ s ∷ os) (if b then s else f)
at_either true f s os = (1, omega arith, refl)
at_either false f s os = (0, omega arith, refl)

among : (stands : ℕ → Bool) (c : Contents) (index : ℕ) (place : Place) (kind : OutputKind) (rest : List Claimable)
    → AllByRecursion (Contains (claims_on c index place kind ++ rest)) (stage_on stands c index place kind)
among stands c index place ToLocal rest = (at_first (penalty_on c place) rest, tt)
among stands c index place ToRemote rest = (at_first (payment_on c place) rest, tt)
among stands c index place (ToHtlc direction h) rest =
    (at_either (stands index) (htlc_penalty_on c direction h place) (second_stage_penalty c (record { index = index; direction = direction; htlc = h })) rest, tt)

claimable_from : (stands : ℕ → Bool) (c : Contents) (index : ℕ) (os : List CommitmentOutput) → AllByRecursion (Contains (claims_from c index os)) (claims_by (stage_on stands c) c index os)
unfolding claims_by
claimable_from stands c index [] = tt
claimable_from stands c index (o ∷ os) =
    let place = place_in (transaction_of c) index (tx_output o) in
    all_append (stage_on stands c index place o.kind) (claims_by (stage_on stands c) c (index + 1) os) _
    (among stands c index place o.kind (claims_from c (index + 1) os))
    (behind (claims_on c index place o.kind) (claims_from c (index + 1) os) (claims_by (stage_on stands c) c (index + 1) os) (claimable_from stands c (index + 1) os))

pub each_claimable : EachStageIsClaimable
unfolding claimable_of
each_claimable state stands = claimable_from stands (commitment_in state) 0 (commitment_in state).outputs
