-- The claims on a commitment, once each HTLC transaction stands, are worth what its amounts say.
use Rattle.std.proofs.Common.{◌≡◌, ℕ, ◌+◌, ◌-◌, Bool, true, false, cond, List, [], ◌∷◌, ◌++◌, map, Option, Some, None, unwrap_or, refl, ap, ◌∙◌, arith}
use Rattle.std.specs.Prelude.{if◌then◌else◌}
use Rattle.std.specs.List.{filter, sum_by}
use Rattle.std.proofs.lemmas.List.Sums.{sum_by-append, sum_by-cons}
use Rattle.std.proofs.lemmas.List.Sorted.{sum_by-IsPermutation}
use Rattle.terms.specs.declared.htlcs.Htlc.{Htlc}
use Rattle.terms.specs.declared.sides.Side.{Side}
use Rattle.terms.specs.declared.agreement.Terms.{Terms}
use Rattle.terms.specs.declared.views.View.{View}
use Rattle.terms.specs.Agreement.{party}
use Rattle.claim.specs.declared.parts.Place.{Place}
use Rattle.commit.specs.declared.fees.Direction.{Direction}
use Rattle.commit.specs.declared.fees.Direction.TheVariants.{Offered, Received}
use Rattle.commit.specs.declared.outputs.OutputKind.{OutputKind}
use Rattle.commit.specs.declared.outputs.OutputKind.TheVariants.{ToLocal, ToRemote, ToHtlc}
use Rattle.commit.specs.declared.outputs.CommitmentOutput.{CommitmentOutput}
use Rattle.commit.specs.declared.amounts.Amounts.{Amounts}
use Rattle.commit.specs.Fees.{satoshis_of, fee_sat_of, htlc_weight}
use Rattle.commit.specs.Amounts.{amounts_of}
use Rattle.commit.specs.Keys.{KeyBytes, keys_of}
use Rattle.commit.specs.Outputs.{htlc_output, to_local_output, to_remote_output, where_paid, outputs_of}
use Rattle.commit.specs.Order.{in_order, ThereIsOneOrder}
use Rattle.commit.specs.Commitments.{Contents, commitment_of, tx_output, transaction_of}
use Rattle.penalty.specs.Claimable.{Claimable, penalty_on, payment_on, second_stage_penalty, place_in, claims_by}
use Rattle.penalty.specs.Worth.{stage_on, staged, value_of}
use Rattle.resolve.specs.Due.{delayed_on, delayed_second_stage}
use Rattle.worth_laws.specs.Shares.{counts_on}
use Rattle.worth_laws.specs.Counted.{counted_on, counted}
use Rattle.worth_laws.specs.Left.{left_sat_of, owners_left_sat, all_left_sat, LeftIsPlaced}

-- ---- sums over outputs

-- where each output's claims are worth what a function says of it
from_claims : (on : ℕ → Place → OutputKind → List Claimable) (f : CommitmentOutput → ℕ) (c : Contents)
    → ((index : ℕ) (o : CommitmentOutput) → value_of (on index (place_in (transaction_of c) index (tx_output o)) o.kind) ≡ f o) → (index : ℕ) (os : List CommitmentOutput) → value_of (claims_by on c index os) ≡ sum_by f os
unfolding claims_by
from_claims on f c each index [] = refl
from_claims on f c each index (o ∷ os) =
    joined _ _ _ _ _ _ (sum_by-append (λ (x : Claimable). x.place.value) (on index (place_in (transaction_of c) index (tx_output o)) o.kind) (claims_by on c (index + 1) os)) (sum_by-cons f o os) (each index o)
    (from_claims on f c each (index + 1) os)
  where
    joined : (s t x y u v : ℕ) → s ≡ x + u → t ≡ y + v → x ≡ y → u ≡ v → s ≡ t
    joined s t x y u v a b e g = omega (arith, a, b, e, g)

mapped : (f : CommitmentOutput → ℕ) (k : KeyBytes) (direction : Direction) (g : Htlc → ℕ) → ((h : Htlc) → f (htlc_output k direction h) ≡ g h) → (hs : List Htlc) → sum_by f (map (htlc_output k direction) hs) ≡ sum_by g hs
mapped f k direction g e [] = refl
mapped f k direction g e (h ∷ hs) = joined _ _ _ _ _ _ (sum_by-cons f (htlc_output k direction h) (map (htlc_output k direction) hs)) (sum_by-cons g h hs) (e h) (mapped f k direction g e hs)
  where
    joined : (s t x y u v : ℕ) → s ≡ x + u → t ≡ y + v → x ≡ y → u ≡ v → s ≡ t
    joined s t x y u v a b c d = omega (arith, a, b, c, d)

filtered : (g : Htlc → ℕ) (known : Htlc → Bool) (hs : List Htlc) → sum_by (λ h. if known h then g h else 0) hs ≡ sum_by g (filter known hs)
filtered g known [] = refl
filtered g known (h ∷ hs) = sum_by-cons (λ (x : Htlc). if known x then g x else 0) h hs ∙ kept (known h) (filter known hs) _ (filtered g known hs)
  where
    kept : (b : Bool) (rest : List Htlc) (sum : ℕ) → sum ≡ sum_by g rest → (if b then g h else 0) + sum ≡ sum_by g (cond b (h ∷ rest) rest)
    kept true rest sum e = let a = sum_by-cons g h rest in omega (arith, a, e)
    kept false rest sum e = omega (arith, e)

parts : (f : CommitmentOutput → ℕ) (ws xs ys zs : List CommitmentOutput) → sum_by f (((ws ++ xs) ++ ys) ++ zs) ≡ sum_by f ws + sum_by f xs + (sum_by f ys + sum_by f zs)
parts f ws xs ys zs = four _ _ _ _ _ _ _ (sum_by-append f ((ws ++ xs) ++ ys) zs) (sum_by-append f (ws ++ xs) ys) (sum_by-append f ws xs)
  where
    four : (w v u p q s t : ℕ) → w ≡ v + t → v ≡ u + s → u ≡ p + q → w ≡ p + q + (s + t)
    four _ _ _ _ _ _ _ a b c = omega (arith, a, b, c)

one_value : (o : Claimable) → value_of (o ∷ []) ≡ o.place.value
one_value o = let a = sum_by-cons (λ (x : Claimable). x.place.value) o [] in omega (arith, a)

if_value : (b : Bool) (o : Claimable) → value_of (if b then o ∷ [] else []) ≡ (if b then o.place.value else 0)
if_value true o = one_value o
if_value false o = refl

-- ---- of each output by its kind

abbrev left_of : ℕ → Direction → Htlc → ℕ
left_of feerate_per_kw direction h = satoshis_of h.amount_msat - fee_sat_of (htlc_weight direction) feerate_per_kw

abbrev own_kind : ℕ → (Htlc → Bool) → ℕ → OutputKind → ℕ
own_kind feerate_per_kw known value ToLocal = value
own_kind feerate_per_kw known value ToRemote = 0
own_kind feerate_per_kw known value (ToHtlc direction h) = if counts_on true known (ToHtlc direction h) then left_of feerate_per_kw direction h else 0

abbrev any_kind : ℕ → ℕ → OutputKind → ℕ
any_kind feerate_per_kw value ToLocal = value
any_kind feerate_per_kw value ToRemote = value
any_kind feerate_per_kw value (ToHtlc direction h) = left_of feerate_per_kw direction h

own_claims : (known : Htlc → Bool) (c : Contents) (index : ℕ) (place : Place) (kind : OutputKind) → value_of (counted_on true known (λ _. true) c index place kind) ≡ own_kind c.feerate_per_kw known place.value kind
own_claims known c index place ToLocal = one_value (delayed_on c place)
own_claims known c index place ToRemote = refl
own_claims known c index place (ToHtlc direction h) = if_value (counts_on true known (ToHtlc direction h)) (delayed_second_stage c (record { index = index; direction = direction; htlc = h }))

any_claims : (c : Contents) (index : ℕ) (place : Place) (kind : OutputKind) → value_of (stage_on (λ _. true) c index place kind) ≡ any_kind c.feerate_per_kw place.value kind
any_claims c index place ToLocal = one_value (penalty_on c place)
any_claims c index place ToRemote = one_value (payment_on c place)
any_claims c index place (ToHtlc direction h) = one_value (second_stage_penalty c (record { index = index; direction = direction; htlc = h }))

-- ---- of all outputs

module _ (feerate_per_kw : ℕ) (delay_blocks : ℕ) (k : KeyBytes) (a : Amounts) where
  module _ (known : Htlc → Bool) where
    abbrev own_on : CommitmentOutput → ℕ
    own_on o = own_kind feerate_per_kw known o.value o.kind

    local_own : (v : Option ℕ) → sum_by own_on (where_paid (to_local_output delay_blocks k) v) ≡ unwrap_or v 0
    local_own None = refl
    local_own (Some v) = omega arith

    remote_own : (v : Option ℕ) → sum_by own_on (where_paid (to_remote_output k) v) ≡ 0
    remote_own None = refl
    remote_own (Some v) = refl

    own_amounts : sum_by own_on (outputs_of delay_blocks k a) ≡ owners_left_sat known feerate_per_kw a
    unfolding outputs_of
    own_amounts =
        summed _ _ _ _ _ _ _ _ (parts own_on (map (htlc_output k Offered) a.offered) (map (htlc_output k Received) a.received) (where_paid (to_local_output delay_blocks k) a.to_local) (where_paid (to_remote_output k) a.to_remote))
        (mapped own_on k Offered (left_of feerate_per_kw Offered) (λ h. refl) a.offered)
        (mapped own_on k Received (λ h. if known h then left_of feerate_per_kw Received h else 0) (λ h. refl) a.received ∙ filtered (left_of feerate_per_kw Received) known a.received) (local_own a.to_local) (remote_own a.to_remote)
      where
        summed : (all first second local remote mine theirs main : ℕ) → all ≡ first + second + (local + remote) → first ≡ mine → second ≡ theirs → local ≡ main → remote ≡ 0 → all ≡ main + mine + theirs
        summed _ _ _ _ _ _ _ _ d e f g h = omega (arith, d, e, f, g, h)

  abbrev any_on : CommitmentOutput → ℕ
  any_on o = any_kind feerate_per_kw o.value o.kind

  local_any : (v : Option ℕ) → sum_by any_on (where_paid (to_local_output delay_blocks k) v) ≡ unwrap_or v 0
  local_any None = refl
  local_any (Some v) = omega arith

  remote_any : (v : Option ℕ) → sum_by any_on (where_paid (to_remote_output k) v) ≡ unwrap_or v 0
  remote_any None = refl
  remote_any (Some v) = omega arith

  any_amounts : sum_by any_on (outputs_of delay_blocks k a) ≡ all_left_sat feerate_per_kw a
  unfolding outputs_of
  any_amounts =
      summed _ _ _ _ _ _ _ _ _ (parts any_on (map (htlc_output k Offered) a.offered) (map (htlc_output k Received) a.received) (where_paid (to_local_output delay_blocks k) a.to_local) (where_paid (to_remote_output k) a.to_remote))
      (mapped any_on k Offered (left_of feerate_per_kw Offered) (λ h. refl) a.offered) (mapped any_on k Received (left_of feerate_per_kw Received) (λ h. refl) a.received) (local_any a.to_local) (remote_any a.to_remote)
    where
      summed : (all first second local remote mine theirs main other : ℕ) → all ≡ first + second + (local + remote) → first ≡ mine → second ≡ theirs → local ≡ main → remote ≡ other → all ≡ main + other + mine + theirs
      summed _ _ _ _ _ _ _ _ _ d e f g h = omega (arith, d, e, f, g, h)

-- ---- in any order

own_left : ThereIsOneOrder → (terms : Terms) (view : View) (owner : Side) (n : ℕ) (point : List ℕ) (known : Htlc → Bool)
    → value_of (counted true known (λ _. true) (commitment_of terms view owner n point)) ≡ owners_left_sat known view.feerate_per_kw (amounts_of terms view owner)
unfolding commitment_of
own_left law terms view owner n point known =
    let c = commitment_of terms view owner n point in
    let k = keys_of terms owner point in
    let os = outputs_of (party owner terms).delay_blocks k (amounts_of terms view owner) in
    from_claims (counted_on true known (λ _. true) c) (λ o. own_kind view.feerate_per_kw known o.value o.kind) c (λ index o. own_claims known c index (place_in (transaction_of c) index (tx_output o)) o.kind) 0 (in_order os)
    ∙ sum_by-IsPermutation (λ (o : CommitmentOutput). own_kind view.feerate_per_kw known o.value o.kind) os (in_order os) (law os).0.same
    ∙ own_amounts view.feerate_per_kw (party owner terms).delay_blocks k (amounts_of terms view owner) known

all_left : ThereIsOneOrder → (terms : Terms) (view : View) (owner : Side) (n : ℕ) (point : List ℕ) → value_of (staged (λ _. true) (commitment_of terms view owner n point)) ≡ all_left_sat view.feerate_per_kw (amounts_of terms view owner)
unfolding commitment_of
all_left law terms view owner n point =
    let c = commitment_of terms view owner n point in
    let k = keys_of terms owner point in
    let os = outputs_of (party owner terms).delay_blocks k (amounts_of terms view owner) in
    from_claims (stage_on (λ _. true) c) (λ o. any_kind view.feerate_per_kw o.value o.kind) c (λ index o. any_claims c index (place_in (transaction_of c) index (tx_output o)) o.kind) 0 (in_order os)
    ∙ sum_by-IsPermutation (λ (o : CommitmentOutput). any_kind view.feerate_per_kw o.value o.kind) os (in_order os) (law os).0.same
    ∙ any_amounts view.feerate_per_kw (party owner terms).delay_blocks k (amounts_of terms view owner)

pub left_is_placed : ThereIsOneOrder → LeftIsPlaced
left_is_placed law = record { own = own_left law; all = all_left law }
