-- Which views a commitment can pay, on both sides of each limit.
use Rattle.std.proofs.Common.{◌≡◌, ℕ, replicate, List, [], Some, None, refl, lit≤, lit<}
use Rattle.tx.specs.declared.input.OutPoint.{OutPoint}
use Rattle.terms.specs.declared.htlcs.Htlc.{Htlc}
use Rattle.terms.specs.declared.sides.Side.TheVariants.{A}
use Rattle.terms.specs.declared.agreement.BaseKeys.{BaseKeys}
use Rattle.terms.specs.declared.agreement.Party.{Party}
use Rattle.terms.specs.declared.agreement.Terms.{Terms}
use Rattle.terms.specs.declared.views.View.{View}
use Rattle.penalty.specs.declared.errors.StateError.TheVariants.{TooManyHtlcs, ExpiryTooLarge, WrongTotal}
use Rattle.penalty.specs.Paying.{refusal_of}

module _ (funding : OutPoint) (bases : BaseKeys) where
  abbrev side : ℕ → Party
  side start_msat = record { dust_sat = 546; delay_blocks = 144; minimum_msat = 0; start_msat = start_msat; bases = bases }

  abbrev terms : Terms
  terms = record { funding = funding; capacity_sat = 10; opener = A; feerate_per_kw = 1000; a = side 10000; b = side 0; limited = lit≤ tt; whole = refl; short_a = lit< tt; short_b = lit< tt }

  abbrev htlcs : ℕ → ℕ → ℕ → List Htlc
  htlcs count amount_msat expiry_height = replicate count (record { id = 0; amount_msat = amount_msat; hash = []; expiry_height = expiry_height })

  abbrev view : ℕ → List Htlc → ℕ → List Htlc → View
  view a from_a b from_b = record { a = record { balance_msat = a; offered = from_a }; b = record { balance_msat = b; offered = from_b }; feerate_per_kw = 1000 }

  -- balances and HTLCs of both sides count
  totals : (refusal_of terms (view 4000 (htlcs 1 1000 5) 3000 (htlcs 2 1000 5)) ≡ None)
      × (refusal_of terms (view 3999 (htlcs 1 1000 5) 3000 (htlcs 2 1000 5)) ≡ Some WrongTotal)
      × (refusal_of terms (view 4000 (htlcs 1 1000 5) 3001 (htlcs 2 1000 5)) ≡ Some WrongTotal)
      × (refusal_of terms (view 4000 (htlcs 1 999 5) 3000 (htlcs 2 1000 5)) ≡ Some WrongTotal)
      × (refusal_of terms (view 4000 (htlcs 1 1000 5) 3000 (htlcs 3 1000 5)) ≡ Some WrongTotal)
  totals = (refl, refl, refl, refl, refl)

  -- heights are below 500,000,000, on either side; and the expiry is checked before the total
  heights : (refusal_of terms (view 9000 (htlcs 1 1000 499999999) 0 []) ≡ None)
      × (refusal_of terms (view 9000 (htlcs 1 1000 500000000) 0 []) ≡ Some ExpiryTooLarge)
      × (refusal_of terms (view 9000 [] 0 (htlcs 1 1000 500000000)) ≡ Some ExpiryTooLarge)
      × (refusal_of terms (view 0 [] 0 (htlcs 1 1000 500000000)) ≡ Some ExpiryTooLarge)
  heights = (refl, refl, refl, refl)

  -- at most 3,998 HTLCs of both sides together, which is checked first
  counts : (refusal_of terms (view 10000 (htlcs 1999 0 5) 0 (htlcs 1999 0 5)) ≡ None)
      × (refusal_of terms (view 10000 (htlcs 1999 0 5) 0 (htlcs 2000 0 5)) ≡ Some TooManyHtlcs)
      × (refusal_of terms (view 10000 (htlcs 3999 0 500000000) 0 []) ≡ Some TooManyHtlcs)
  counts = (refl, refl, refl)
