-- What is planned for what is asked: the unsigned spend that pays what the fee leaves, or why there is none.
use Rattle.std.specs.Prelude.{◌≡◌, ℕ, ◌-◌, not, nat_lt, nat_le, if◌then◌else◌, List, [], ◌∷◌, Option, Some, None, option_map, Result, Ok, Err}
use Rattle.tx.specs.declared.limits.TheConstants.{MAX_VALUE}
use Rattle.tx.specs.Parts.{Output}
use Rattle.filling.specs.declared.spends.UnsignedSpend.{UnsignedSpend}
use Rattle.filling.specs.Refusals.{total_claimed}
use Rattle.filling.specs.Spends.{unsigned_spend_of, missing_of, first_spend_refusal, IsUnsignedSpend}
use Rattle.spend.specs.declared.errors.PlanError.{PlanError}
use Rattle.spend.specs.declared.errors.PlanError.TheVariants.{NoMemory, ValueTooLarge, NothingLeft, Dust, BadDestination, TooHighFeerate, TooLowFeerate}
use Rattle.spend.specs.declared.asking.Asked.{Asked}
use Rattle.spend.specs.declared.plans.Plan.{Plan}
use Rattle.spend.specs.Refusals.{plan_error}
use Rattle.spend.specs.Weights.{greatest_weight, fee_at}
use Rattle.spend.specs.Dust.{dust_threshold}
use Rattle.spend.specs.Destinations.{is_destination}

-- one output
abbrev pub paying : ℕ → List ℕ → List Output
paying value_sat script = record { value = value_sat; script = script } ∷ []

-- why no spend pays this value
abbrev pub spend_refusal : Asked → ℕ → Option PlanError
spend_refusal a value_sat = option_map plan_error (first_spend_refusal a.claims (paying value_sat a.destination) a.preimages)

-- the weight that the spend has at most, whatever it pays, and its fee
abbrev pub asked_weight : Asked → ℕ
asked_weight a = greatest_weight (unsigned_spend_of a.claims (paying 0 a.destination) a.preimages) (missing_of a.claims (paying 0 a.destination))

abbrev pub asked_fee : Asked → ℕ
asked_fee a = fee_at a.feerate_per_kw (asked_weight a)

-- why what a fee leaves of a total can't be paid where less than the threshold is dust
abbrev pub left_refusal : ℕ → ℕ → ℕ → Option PlanError
left_refusal total fee threshold =
    if nat_lt MAX_VALUE total then Some ValueTooLarge
    else if nat_le total fee then Some NothingLeft
    else if nat_lt (total - fee) threshold then Some Dust
    else None

abbrev pub first_of : Option PlanError → Option PlanError → Option PlanError
first_of (Some e) later = Some e
first_of None later = later

-- why the destination or the feerate is refused
abbrev pub given_refusal : Asked → Option PlanError
given_refusal a =
    if not (is_destination a.destination) then Some BadDestination
    else if nat_lt a.most_feerate_per_kw a.feerate_per_kw then Some TooHighFeerate
    else if nat_lt a.feerate_per_kw a.least_feerate_per_kw then Some TooLowFeerate
    else None

-- why what a fee leaves can't be paid
abbrev pub payment_refusal : Asked → ℕ → Option PlanError
payment_refusal a fee = first_of (left_refusal (total_claimed a.claims) fee (dust_threshold a.destination)) (given_refusal a)

-- the first refusal that holds: that of a spend that pays nothing yet, and then that of what is paid
abbrev pub plan_refusal : Asked → Option PlanError
plan_refusal a = first_of (spend_refusal a 0) (payment_refusal a (asked_fee a))

-- the spend is that of the claims, and pays what the fee leaves. The fee is that of the weight that this very transaction has at most
pub record IsPlan (a : Asked) (p : Plan) : Type 0 where
  pub passed : plan_refusal a ≡ None
  pub weight : p.weight ≡ greatest_weight p.spend.tx p.spend.signatures
  pub fee : p.fee_sat ≡ fee_at a.feerate_per_kw p.weight
  pub spends : IsUnsignedSpend a.claims (paying (total_claimed a.claims - p.fee_sat) a.destination) a.preimages p.spend.tx p.spend.signatures

-- ---- results

-- P has to hold, unless the refusal is out of memory
abbrev pub UnlessMemory : PlanError → Type 0 → Type 0
UnlessMemory NoMemory P = Unit {0}
UnlessMemory e P = P

-- the spend that pays a value, or why there is none
abbrev pub Spends : Result UnsignedSpend PlanError → Asked → ℕ → Type 0
Spends (Ok s) a value_sat = IsUnsignedSpend a.claims (paying value_sat a.destination) a.preimages s.tx s.signatures
Spends (Err e) a value_sat = UnlessMemory e (spend_refusal a value_sat ≡ Some e)

-- the weight, if a spend that pays nothing is not refused
abbrev pub Weighs : Result ℕ PlanError → Asked → Type 0
Weighs (Ok w) a = (spend_refusal a 0 ≡ None) × (w ≡ asked_weight a)
Weighs (Err e) a = UnlessMemory e (spend_refusal a 0 ≡ Some e)

-- what a fee leaves of a total, or why it can't be paid
abbrev pub Leaves : Result ℕ PlanError → ℕ → ℕ → ℕ → Type 0
Leaves (Ok n) total fee threshold = (left_refusal total fee threshold ≡ None) × (n ≡ total - fee)
Leaves (Err e) total fee threshold = left_refusal total fee threshold ≡ Some e

-- what a fee leaves of what is asked, or why it can't be paid
abbrev pub Pays : Result ℕ PlanError → Asked → ℕ → Type 0
Pays (Ok n) a fee = (payment_refusal a fee ≡ None) × (n ≡ total_claimed a.claims - fee)
Pays (Err e) a fee = payment_refusal a fee ≡ Some e

-- the plan, or the first refusal that holds
abbrev pub Plans : Result Plan PlanError → Asked → Type 0
Plans (Ok p) a = IsPlan a p
Plans (Err e) a = UnlessMemory e (plan_refusal a ≡ Some e)
