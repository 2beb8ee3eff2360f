-- The penalties on a revoked commitment are worth all of its outputs, with the fees of the HTLC transactions that stand.
use Rattle.std.proofs.Common.{◌≡◌, ℕ, ◌+◌, ◌-◌, ◌≤◌, Bool, true, List, [], ◌∷◌, ◌++◌, refl, sym, ap, ◌∙◌, arith}
use Rattle.std.specs.List.{AllByRecursion, sum_by, cons_option}
use Rattle.std.proofs.lemmas.List.Elements.{recursion_from_All}
use Rattle.std.proofs.lemmas.List.Sums.{sum_by-cons}
use Rattle.terms.specs.declared.sides.Side.{Side}
use Rattle.terms.specs.declared.agreement.Terms.{Terms}
use Rattle.terms.specs.declared.views.View.{View}
use Rattle.claim.specs.declared.parts.Place.{Place}
use Rattle.commit.specs.declared.outputs.OutputKind.{OutputKind}
use Rattle.commit.specs.declared.outputs.OutputKind.TheVariants.{ToLocal, ToRemote, ToHtlc}
use Rattle.commit.specs.declared.outputs.CommitmentOutput.{CommitmentOutput}
use Rattle.commit.specs.declared.outputs.HtlcOutput.{HtlcOutput}
use Rattle.commit.specs.Fees.{satoshis_of, fee_sat_of, htlc_weight}
use Rattle.commit.specs.Order.{ThereIsOneOrder}
use Rattle.commit.specs.Commitments.{Contents, commitment_of, tx_output, transaction_of, htlc_at, htlcs_from}
use Rattle.penalty.specs.Claimable.{Claimable, place_in, penalty_on, payment_on, htlc_penalty_on, second_stage_penalty, claims_by}
use Rattle.penalty.specs.Worth.{stage_on, staged, value_of, fee_with, fees_with}
use Rattle.worth_laws.specs.Shares.{values_sat}
use Rattle.worth_laws.proofs.Counted.{IsCovered, Covers, each_covered, one, either}

abbrev fees : (ℕ → Bool) → ℕ → List HtlcOutput → ℕ
fees stands feerate_per_kw hs = sum_by (fee_with stands feerate_per_kw) hs

on_output : (stands : ℕ → Bool) (c : Contents) (index : ℕ) (place : Place) (kind : OutputKind) (rest : List Claimable) (hs : List HtlcOutput) → IsCovered c.feerate_per_kw place.value kind
    → value_of (stage_on stands c index place kind ++ rest) + fees stands c.feerate_per_kw (cons_option (htlc_at index kind) hs) ≡ place.value + (value_of rest + fees stands c.feerate_per_kw hs)
on_output stands c index place ToLocal rest hs v = one (penalty_on c place) rest _
on_output stands c index place ToRemote rest hs v = one (payment_on c place) rest _
on_output stands c index place (ToHtlc direction h) rest hs v =
    let htlc : HtlcOutput = record { index = index; direction = direction; htlc = h } in
    let fee = fee_sat_of (htlc_weight direction) c.feerate_per_kw in
    let less : satoshis_of h.amount_msat - fee ≡ place.value - fee = ap (λ n. n - fee) (sym v.0) in
    let covers : fee ≤ place.value = omega (arith, v.0, v.1) in
    ap (λ n. value_of (stage_on stands c index place (ToHtlc direction h) ++ rest) + n) (sum_by-cons (fee_with stands c.feerate_per_kw) htlc hs)
    ∙ either true (stands index) (second_stage_penalty c htlc) (htlc_penalty_on c direction h place) rest fee (fees stands c.feerate_per_kw hs) less covers

worth_from : (stands : ℕ → Bool) (c : Contents) (index : ℕ) (os : List CommitmentOutput) → AllByRecursion (Covers c.feerate_per_kw) os
    → value_of (claims_by (stage_on stands c) c index os) + fees stands c.feerate_per_kw (htlcs_from index os) ≡ values_sat os
unfolding claims_by htlcs_from
worth_from stands c index [] v = refl
worth_from stands c index (o ∷ os) v =
    let here = on_output stands c index (place_in (transaction_of c) index (tx_output o)) o.kind (claims_by (stage_on stands c) c (index + 1) os) (htlcs_from (index + 1) os) v.0 in
    here ∙ ap (λ n. o.value + n) (worth_from stands c (index + 1) os v.1) ∙ sym (sum_by-cons (λ (x : CommitmentOutput). x.value) o os)

pub staged_worth : ThereIsOneOrder → (terms : Terms) (view : View) (owner : Side) (n : ℕ) (point : List ℕ) (stands : ℕ → Bool)
    → (let c = commitment_of terms view owner n point in value_of (staged stands c) + fees_with stands c ≡ values_sat c.outputs)
staged_worth law terms view owner n point stands =
    let c = commitment_of terms view owner n point in
    worth_from stands c 0 c.outputs (recursion_from_All (Covers c.feerate_per_kw) c.outputs (each_covered law terms view owner n point))
