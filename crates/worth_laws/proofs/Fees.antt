-- The fees of HTLC transactions, of which some stand, are at most those of all, and these have a bound.
use Rattle.std.proofs.Common.{◌≡◌, ℕ, ◌+◌, ◌≤◌, Bool, true, false, List, [], ◌∷◌, arith}
use Rattle.std.specs.Prelude.{if◌then◌else◌, sum_by}
use Rattle.std.specs.List.{All}
use Rattle.std.proofs.lemmas.List.Elements.{All-nil, All-cons}
use Rattle.std.proofs.lemmas.List.Sums.{sum_by-cons, sum_by-le}
use Rattle.terms.specs.declared.htlcs.Htlc.{Htlc}
use Rattle.commit.specs.declared.fees.Direction.TheVariants.{Received}
use Rattle.commit.specs.declared.outputs.OutputKind.TheVariants.{ToHtlc}
use Rattle.commit.specs.declared.outputs.HtlcOutput.{HtlcOutput}
use Rattle.commit.specs.Fees.{fee_sat_of, htlc_weight}
use Rattle.commit.specs.Commitments.{Contents, htlcs_of}
use Rattle.penalty.specs.Worth.{fee_with, fees_with}
use Rattle.worth_laws.specs.Shares.{counts_on}
use Rattle.worth_laws.specs.Counted.{fee_counted, fees_counted, FeesAreBounded}
use Rattle.worth_laws.proofs.Bounds.{more_fee, lighter}

-- ---- each is at most another

at_most_each : (f g : HtlcOutput → ℕ) → ((h : HtlcOutput) → f h ≤ g h) → (hs : List HtlcOutput) → sum_by f hs ≤ sum_by g hs
at_most_each f g l [] = omega arith
at_most_each f g l (h ∷ hs) = joined _ _ _ _ _ _ (sum_by-cons f h hs) (sum_by-cons g h hs) (l h) (at_most_each f g l hs)
  where
    joined : (s t x y u v : ℕ) → s ≡ x + u → t ≡ y + v → x ≤ y → u ≤ v → s ≤ t
    joined s t x y u v e f l m = omega (arith, e, f, l, m)

if_less : (b : Bool) (fee : ℕ) → (if b then fee else 0) ≤ fee
if_less true fee = omega arith
if_less false fee = omega arith

both_if : (b : Bool) (fee most : ℕ) → fee ≤ most → (if b then fee else 0) ≤ (if b then most else 0)
both_if true fee most l = l
both_if false fee most l = omega arith

-- ---- of all that stand, or of those on which the side counts

pub fewer_fees_with : (stands : ℕ → Bool) (c : Contents) → fees_with stands c ≤ fees_with (λ _. true) c
fewer_fees_with stands c =
    at_most_each (fee_with stands c.feerate_per_kw) (fee_with (λ _. true) c.feerate_per_kw) (λ h. if_less (stands h.index) (fee_sat_of (htlc_weight h.direction) c.feerate_per_kw)) (htlcs_of c)

pub fewer_fees_counted : (known : Htlc → Bool) (stands : ℕ → Bool) (c : Contents) → fees_counted true known stands c ≤ fees_counted true known (λ _. true) c
fewer_fees_counted known stands c =
    at_most_each (fee_counted known stands c.feerate_per_kw) (fee_counted known (λ _. true) c.feerate_per_kw)
    (λ h. both_if (counts_on true known (ToHtlc h.direction h.htlc)) (fee_with stands c.feerate_per_kw h) (fee_with (λ _. true) c.feerate_per_kw h) (if_less (stands h.index) (fee_sat_of (htlc_weight h.direction) c.feerate_per_kw)))
    (htlcs_of c)

-- ---- the bound

module _ (stands : ℕ → Bool) (feerate_per_kw : ℕ) where
  abbrev most : ℕ
  most = fee_sat_of (htlc_weight Received) feerate_per_kw

  at_most_success : (h : HtlcOutput) → fee_with stands feerate_per_kw h ≤ most
  at_most_success h = through _ _ _ (if_less (stands h.index) (fee_sat_of (htlc_weight h.direction) feerate_per_kw)) (more_fee (htlc_weight h.direction) feerate_per_kw (htlc_weight Received) feerate_per_kw (lighter h.direction) (omega arith))
    where
      through : (a b c : ℕ) → a ≤ b → b ≤ c → a ≤ c
      through a b c l m = omega arith

  each_at_most : (hs : List HtlcOutput) → All (λ h. fee_with stands feerate_per_kw h ≤ most) hs
  each_at_most [] = All-nil (λ h. fee_with stands feerate_per_kw h ≤ most)
  each_at_most (h ∷ hs) = All-cons (λ x. fee_with stands feerate_per_kw x ≤ most) h hs (at_most_success h) (each_at_most hs)

pub fees_are_bounded : FeesAreBounded
fees_are_bounded known stands c = (
  at_most_each (fee_counted known stands c.feerate_per_kw) (fee_with stands c.feerate_per_kw) (λ h. if_less (counts_on true known (ToHtlc h.direction h.htlc)) (fee_with stands c.feerate_per_kw h)) (htlcs_of c),
  sum_by-le (fee_with stands c.feerate_per_kw) (fee_sat_of (htlc_weight Received) c.feerate_per_kw) (htlcs_of c) (each_at_most stands c.feerate_per_kw (htlcs_of c)),
)
