-- A commitment with an HTLC: its transactions keep the limits and carry its number, and its outputs are its own.
use Rattle.std.proofs.Common.{◌≡◌, ℕ, ◌<◌, ◌^◌, map, List, [], ◌∷◌, Some, replicate, refl, inl, inr, arith, lit≤, lit<}
use Rattle.std.specs.Prelude.{◌⊎◌, slice_get}
use Rattle.tx.specs.declared.input.OutPoint.{OutPoint}
use Rattle.tx.specs.Fields.{KeepsLimits}
use Rattle.keys.specs.declared.compressed.Key.{Key}
use Rattle.terms.specs.declared.htlcs.Htlc.{Htlc}
use Rattle.terms.specs.declared.sides.Side.TheVariants.{A}
use Rattle.terms.specs.declared.agreement.BaseKeys.{BaseKeys}
use Rattle.terms.specs.declared.agreement.Party.{Party}
use Rattle.terms.specs.declared.agreement.Terms.{Terms}
use Rattle.terms.specs.declared.views.View.{View}
use Rattle.terms.specs.Numbers.{mask_of}
use Rattle.commit.specs.declared.fees.Direction.TheVariants.{Offered}
use Rattle.commit.specs.declared.outputs.HtlcOutput.{HtlcOutput}
use Rattle.commit.specs.Keys.{keys_of}
use Rattle.commit.specs.Order.{output_cmp, in_order}
use Rattle.commit.specs.Outputs.{outputs_of, htlc_output}
use Rattle.commit.specs.Commitments.{Contents, commitment_of, transaction_of, id_of, htlcs_from, htlcs_of, htlc_tx_of}
use Rattle.channel.specs.declared.commitments.CommitmentState.{CommitmentState}
use Rattle.channel.specs.Tokens.{contents_of}
use Rattle.safety.proofs.Slots.{contains_first}
use Rattle.safety.specs.Recorded.{IsPayable, of_commitment, of_htlc}
use Rattle.safety.specs.Places.{IsOutPointOf, of_output}
use Rattle.safety.specs.Strings.{IsHashedForCommitment, StringsCollide}
use Rattle.safety.specs.Outputs.{IsOneOutput}
use Rattle.safety.proofs.Recorded.{recorded_limits, same_number}
use Rattle.safety.proofs.Outputs.{one_output}

module _ (of_a of_b : BaseKeys) (point : Key) (hash : List ℕ) where
  abbrev side : ℕ → ℕ → BaseKeys → Party
  side start_msat delay_blocks bases = record { dust_sat = 546; delay_blocks = delay_blocks; minimum_msat = 0; start_msat = start_msat; bases = bases }

  abbrev funding : OutPoint
  funding = record { txid = replicate 32 0xab; index = 1 }

  -- 100,000 satoshis, of which A has 80,000 at the start; A opened the channel
  abbrev terms : Terms
  terms = record {
    funding = funding;
    capacity_sat = 100000;
    opener = A;
    feerate_per_kw = 1000;
    a = side 80000000 144 of_a;
    b = side 20000000 72 of_b;
    limited = lit≤ tt;
    whole = refl;
    short_a = lit< tt;
    short_b = lit< tt;
  }

  abbrev htlc : Htlc
  htlc = record { id = 0; amount_msat = 10000000; hash = hash; expiry_height = 5 }

  abbrev view : View
  view = record { a = record { balance_msat = 70000000; offered = htlc ∷ [] }; b = record { balance_msat = 20000000; offered = [] }; feerate_per_kw = 1000 }

  -- A's commitment of a number: A offers an HTLC of 10,000 satoshis
  abbrev held : ℕ → CommitmentState
  held number = record { view = view; owner = A; number = number; point = point }

  payable : (number : ℕ) → number < 2 ^ 48 → IsPayable terms (held number)
  payable number l = record { funding = record { txid = refl; index = omega arith }; view = record { few = lit≤ tt; heights = refl; whole = refl }; number = l }

  abbrev own : ℕ → Contents
  own number = contents_of terms (held number)

  -- the HTLC, B's balance, and A's with the fee of 896 off
  values : (number : ℕ) → map (λ o. o.value) (transaction_of (own number)).outputs ≡ 10000 ∷ 20000 ∷ 69104 ∷ []
  unfolding transaction_of commitment_of outputs_of in_order output_cmp keys_of
  values number = refl

  abbrev offer : HtlcOutput
  offer = record { index = 0; direction = Offered; htlc = htlc }

  htlcs : (number : ℕ) → htlcs_of (own number) ≡ offer ∷ []
  unfolding htlcs_from commitment_of outputs_of in_order output_cmp keys_of
  htlcs number = refl

  commitment_keeps : KeepsLimits (transaction_of (own 7))
  commitment_keeps = recorded_limits terms (held 7) (payable 7 (omega arith)) (transaction_of (own 7)) (of_commitment refl)

  timeout_keeps : KeepsLimits (htlc_tx_of (own 7) offer)
  unfolding htlcs_from commitment_of outputs_of in_order output_cmp keys_of
  timeout_keeps = recorded_limits terms (held 7) (payable 7 (omega arith)) (htlc_tx_of (own 7) offer) (of_htlc offer (contains_first offer []) refl)

  -- number 42 under the mask of BOLT 3's appendix C
  lock_time : mask_of terms ≡ 0x2bb038521914 → (transaction_of (own 42)).lock_time ≡ 0x2052193e
  unfolding transaction_of commitment_of
  lock_time e = rw e refl

  -- another number makes another transaction, of the same outputs
  numbers : transaction_of (own 42) ≡ transaction_of (own 43) → ⊥
  numbers e = let n : 42 ≡ 43 = same_number terms (held 42) (held 43) (omega arith) (omega arith) e in omega (arith, n)

  -- the HTLC's output, at index 0
  first_there : (number : ℕ) → slice_get (own number).outputs 0 ≡ Some (htlc_output (keys_of terms A point.bytes) Offered htlc)
  unfolding commitment_of outputs_of in_order output_cmp
  first_there number = refl

  abbrev first_of : (number : ℕ) (o : OutPoint) → o ≡ record { txid = id_of (own number); index = 0 } → IsOutPointOf (own number) o
  first_of number o e = of_output 0 (htlc_output (keys_of terms A point.bytes) Offered htlc) (first_there number) e

  -- it is the same output as itself
  abbrev first_point : ℕ → OutPoint
  first_point number = record { txid = id_of (own number); index = 0 }

  itself : IsOneOutput (own 42) (own 42) (first_point 42) (first_of 42 (first_point 42) refl) (first_of 42 (first_point 42) refl)
  itself = (refl, refl)

  -- one outpoint for it in commitments 42 and 43 would show a collision
  apart : (o : OutPoint) → o ≡ record { txid = id_of (own 42); index = 0 } → o ≡ record { txid = id_of (own 43); index = 0 }
      → StringsCollide (IsHashedForCommitment terms (held 42)) (IsHashedForCommitment terms (held 43))
  apart o e f = by (one_output terms terms (held 42) (held 43) (payable 42 (omega arith)) (payable 43 (omega arith)) o (first_of 42 o e) (first_of 43 o f))
    where
      by : IsOneOutput (own 42) (own 43) o (first_of 42 o e) (first_of 43 o f) ⊎ StringsCollide (IsHashedForCommitment terms (held 42)) (IsHashedForCommitment terms (held 43))
          → StringsCollide (IsHashedForCommitment terms (held 42)) (IsHashedForCommitment terms (held 43))
      by (inl s) = absurd (numbers s.0)
      by (inr z) = z
