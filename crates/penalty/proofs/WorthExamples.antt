-- What the claims of revoked commitments are worth, by amounts that were computed by hand: a channel of 100,000 satoshis.
use Rattle.std.proofs.Common.{◌≡◌, ℕ, Bool, false, map, List, [], ◌∷◌, refl, lit≤, lit<}
use Rattle.std.specs.Prelude.{◌+◌, ◌==◌, nat_lt}
use Rattle.tx.specs.declared.input.OutPoint.{OutPoint}
use Rattle.terms.specs.declared.htlcs.Htlc.{Htlc}
use Rattle.terms.specs.declared.sides.Side.{Side}
use Rattle.terms.specs.declared.sides.Side.TheVariants.{A, B}
use Rattle.terms.specs.declared.agreement.BaseKeys.{BaseKeys}
use Rattle.terms.specs.declared.agreement.Party.{Party}
use Rattle.terms.specs.declared.agreement.Terms.{Terms}
use Rattle.terms.specs.declared.views.View.{View}
use Rattle.commit.specs.Sums.{fee_paid_sat, left_out_sat, rounded_off_msat}
use Rattle.commit.specs.Outputs.{outputs_of}
use Rattle.commit.specs.Order.{output_cmp, in_order}
use Rattle.commit.specs.Commitments.{commitment_of, htlcs_from}
use Rattle.penalty.specs.declared.states.RevokedState.{RevokedState}
use Rattle.penalty.specs.Claimable.{claims_by, commitment_in}
use Rattle.penalty.specs.Worth.{staged, first_stage, value_of, fees_with, IsCapacityWith}

-- The dust limits are 546 for A and 1,000 for B. The feerate at the start is 5,000, but no commitment here uses it: their views say 1,000.
module _ (funding : OutPoint) (bases : BaseKeys) (hash secret : List ℕ) where
  abbrev side : ℕ → ℕ → Party
  side dust_sat start_msat = record { dust_sat = dust_sat; delay_blocks = 144; minimum_msat = 0; start_msat = start_msat; bases = bases }

  abbrev opened_by : Side → Terms
  opened_by opener = record { funding = funding; capacity_sat = 100000; opener = opener; feerate_per_kw = 5000; a = side 546 60000000; b = side 1000 40000000; limited = lit≤ tt; whole = refl; short_a = lit< tt; short_b = lit< tt }

  abbrev offers : List ℕ → List Htlc
  offers amounts = map (λ amount_msat. record { id = 0; amount_msat = amount_msat; hash = hash; expiry_height = 600 }) amounts

  abbrev view : ℕ → List ℕ → ℕ → List ℕ → View
  view a from_a b from_b = record { a = record { balance_msat = a; offered = offers from_a }; b = record { balance_msat = b; offered = offers from_b }; feerate_per_kw = 1000 }

  -- the satoshis of each claim, and the fees of the HTLC transactions on the chain. Then the fee that the opener pays, what is left out, and the
  -- millisatoshis that are rounded off
  abbrev figures : (ℕ → Bool) → RevokedState → List ℕ × ℕ × ℕ × ℕ × ℕ
  figures stands s = (
    map (λ o. o.place.value) (staged stands (commitment_in s)),
    fees_with stands (commitment_in s),
    fee_paid_sat s.terms s.view s.owner,
    left_out_sat s.terms s.view s.owner,
    rounded_off_msat s.view,
  )

  abbrev none : ℕ → Bool
  none index = false

  -- with the opener A or B, and for each opener the owner A or B
  abbrev of_each : (Side → Side → RevokedState) → List RevokedState
  of_each state = state A A ∷ state A B ∷ state B A ∷ state B B ∷ []

  -- the opener A has less than the fee of 724; the opener B has it, and A's 500 are dust of either owner
  abbrev poor : Side → Side → RevokedState
  poor opener owner = record { terms = opened_by opener; view = view 500000 [] 99500000 []; owner = owner; number = 7; secret = secret; few = lit≤ tt; heights = refl; whole = refl }

  poor_figures : map (figures none) (of_each poor)
      ≡ (99500 ∷ [], 0, 500, 0, 0) ∷ (99500 ∷ [], 0, 500, 0, 0) ∷ (98776 ∷ [], 0, 724, 500, 0) ∷ (98776 ∷ [], 0, 724, 500, 0) ∷ []
  unfolding claims_by htlcs_from commitment_of outputs_of in_order output_cmp
  poor_figures = refl

  poor_capacity : (IsCapacityWith (poor A A) 99500) × (IsCapacityWith (poor A B) 99500) × (IsCapacityWith (poor B A) 98776) × (IsCapacityWith (poor B B) 98776)
  poor_capacity = (refl, refl, refl, refl)

  -- an HTLC of 300 satoshis is dust; half a satoshi of it and half a one of B's balance are rounded off
  abbrev dusty : Side → Side → RevokedState
  dusty opener owner = record {
    terms = opened_by opener;
    view = view 60000000 (300500 ∷ []) 39699500 [];
    owner = owner;
    number = 7;
    secret = secret;
    few = lit≤ tt;
    heights = refl;
    whole = refl;
  }

  dusty_figures : map (figures none) (of_each dusty)
      ≡ (39699 ∷ 59276 ∷ [], 0, 724, 300, 1000)
      ∷ (39699 ∷ 59276 ∷ [], 0, 724, 300, 1000)
      ∷ (38975 ∷ 60000 ∷ [], 0, 724, 300, 1000)
      ∷ (38975 ∷ 60000 ∷ [], 0, 724, 300, 1000)
      ∷ []
  unfolding claims_by htlcs_from commitment_of outputs_of in_order output_cmp
  dusty_figures = refl

  dusty_capacity : (IsCapacityWith (dusty A A) 98975) × (IsCapacityWith (dusty A B) 98975) × (IsCapacityWith (dusty B A) 98975) × (IsCapacityWith (dusty B B) 98975)
  dusty_capacity = (refl, refl, refl, refl)

  -- an HTLC that A offered, and then its transaction, which costs 663 as A's HTLC-timeout and 703 as B's HTLC-success
  abbrev offered : Side → Side → RevokedState
  offered opener owner = record {
    terms = opened_by opener;
    view = view 60000000 (10000000 ∷ []) 30000000 [];
    owner = owner;
    number = 7;
    secret = secret;
    few = lit≤ tt;
    heights = refl;
    whole = refl;
  }

  offered_figures : (map (figures none) (of_each offered)
      ≡ (10000 ∷ 30000 ∷ 59104 ∷ [], 0, 896, 0, 0)
      ∷ (10000 ∷ 30000 ∷ 59104 ∷ [], 0, 896, 0, 0)
      ∷ (10000 ∷ 29104 ∷ 60000 ∷ [], 0, 896, 0, 0)
      ∷ (10000 ∷ 29104 ∷ 60000 ∷ [], 0, 896, 0, 0)
      ∷ [])
      × (map (figures (λ index. index == 0)) (of_each offered)
      ≡ (9337 ∷ 30000 ∷ 59104 ∷ [], 663, 896, 0, 0)
      ∷ (9297 ∷ 30000 ∷ 59104 ∷ [], 703, 896, 0, 0)
      ∷ (9337 ∷ 29104 ∷ 60000 ∷ [], 663, 896, 0, 0)
      ∷ (9297 ∷ 29104 ∷ 60000 ∷ [], 703, 896, 0, 0)
      ∷ [])
  unfolding claims_by htlcs_from commitment_of outputs_of in_order output_cmp
  offered_figures = (refl, refl)

  -- 10,000 + 30,000 + 59,104, and 9,337 + 663 in place of 10,000
  offered_capacity : (IsCapacityWith (offered A A) 99104) × (IsCapacityWith (offered A A) (9337 + 30000 + 59104 + 663)) × (IsCapacityWith (offered A B) (9297 + 30000 + 59104 + 703))
  offered_capacity = (refl, refl, refl)

  -- an HTLC of 1,300 satoshis is worth an output on A's commitment, which has 546 + 663, and not on B's, which has 1,000 + 703
  abbrev limit : Side → Side → RevokedState
  limit opener owner = record {
    terms = opened_by opener;
    view = view 60000000 (1300000 ∷ []) 38700000 [];
    owner = owner;
    number = 7;
    secret = secret;
    few = lit≤ tt;
    heights = refl;
    whole = refl;
  }

  limit_figures : map (figures none) (of_each limit)
      ≡ (1300 ∷ 38700 ∷ 59104 ∷ [], 0, 896, 0, 0)
      ∷ (38700 ∷ 59276 ∷ [], 0, 724, 1300, 0)
      ∷ (1300 ∷ 37804 ∷ 60000 ∷ [], 0, 896, 0, 0)
      ∷ (37976 ∷ 60000 ∷ [], 0, 724, 1300, 0)
      ∷ []
  unfolding claims_by htlcs_from commitment_of outputs_of in_order output_cmp
  limit_figures = refl

  limit_capacity : (IsCapacityWith (limit A A) 99104) × (IsCapacityWith (limit A B) 97976) × (IsCapacityWith (limit B A) 99104) × (IsCapacityWith (limit B B) 97976)
  limit_capacity = (refl, refl, refl, refl)

  -- B's 900 satoshis are dust on its own commitment, to_local there, and not on A's, to_remote there; less the fee they are dust on both
  abbrev little : Side → Side → RevokedState
  little opener owner = record { terms = opened_by opener; view = view 99100000 [] 900000 []; owner = owner; number = 7; secret = secret; few = lit≤ tt; heights = refl; whole = refl }

  little_figures : map (figures none) (of_each little)
      ≡ (900 ∷ 98376 ∷ [], 0, 724, 0, 0) ∷ (98376 ∷ [], 0, 724, 900, 0) ∷ (99100 ∷ [], 0, 724, 176, 0) ∷ (99100 ∷ [], 0, 724, 176, 0) ∷ []
  unfolding claims_by htlcs_from commitment_of outputs_of in_order output_cmp
  little_figures = refl

  little_capacity : (IsCapacityWith (little A A) 99276) × (IsCapacityWith (little A B) 98376) × (IsCapacityWith (little B A) 99100) × (IsCapacityWith (little B B) 99100)
  little_capacity = (refl, refl, refl, refl)

  -- an HTLC of each direction: neither transaction is on the chain, the first output's is, the second's is, both are
  abbrev mixed : Side → Side → RevokedState
  mixed opener owner = record {
    terms = opened_by opener;
    view = view 50000250 (10000500 ∷ []) 28000250 (11999000 ∷ []);
    owner = owner;
    number = 7;
    secret = secret;
    few = lit≤ tt;
    heights = refl;
    whole = refl;
  }

  abbrev at_each_stage : RevokedState → List (List ℕ × ℕ × ℕ × ℕ × ℕ)
  at_each_stage s = map (λ (stands : ℕ → Bool). figures stands s) (none ∷ (λ index. index == 0) ∷ (λ index. index == 1) ∷ (λ index. nat_lt index 4) ∷ [])

  mixed_figures : (at_each_stage (mixed A A)
      ≡ (10000 ∷ 11999 ∷ 28000 ∷ 48932 ∷ [], 0, 1068, 0, 1000)
      ∷ (9337 ∷ 11999 ∷ 28000 ∷ 48932 ∷ [], 663, 1068, 0, 1000)
      ∷ (10000 ∷ 11296 ∷ 28000 ∷ 48932 ∷ [], 703, 1068, 0, 1000)
      ∷ (9337 ∷ 11296 ∷ 28000 ∷ 48932 ∷ [], 1366, 1068, 0, 1000)
      ∷ [])
      × (at_each_stage (mixed B B)
      ≡ (10000 ∷ 11999 ∷ 26932 ∷ 50000 ∷ [], 0, 1068, 0, 1000)
      ∷ (9297 ∷ 11999 ∷ 26932 ∷ 50000 ∷ [], 703, 1068, 0, 1000)
      ∷ (10000 ∷ 11336 ∷ 26932 ∷ 50000 ∷ [], 663, 1068, 0, 1000)
      ∷ (9297 ∷ 11336 ∷ 26932 ∷ 50000 ∷ [], 1366, 1068, 0, 1000)
      ∷ [])
  unfolding claims_by htlcs_from commitment_of outputs_of in_order output_cmp
  mixed_figures = (refl, refl)

  -- the sums, which the definitions take
  sums : (map (λ s. value_of (first_stage (commitment_in s))) (poor A A ∷ dusty A A ∷ offered A A ∷ mixed B B ∷ []) ≡ 99500 ∷ 98975 ∷ 99104 ∷ 98931 ∷ [])
      × (value_of (staged (λ index. index == 0) (commitment_in (offered A A))) ≡ 98441)
  unfolding claims_by commitment_of outputs_of in_order output_cmp
  sums = (refl, refl)
