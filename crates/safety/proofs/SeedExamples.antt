-- Two sides with one set of base keys, whose commitments are one transaction; and two with seeds of their own.
use Rattle.std.proofs.Common.{◌≡◌, ℕ, [], Some, refl, lit≤, lit<}
use Rattle.std.specs.Prelude.{slice_get}
use Rattle.tx.specs.declared.input.OutPoint.{OutPoint}
use Rattle.keys.specs.declared.compressed.Key.{Key}
use Rattle.terms.specs.declared.sides.Side.{Side}
use Rattle.terms.specs.declared.sides.Side.TheVariants.{A, B}
use Rattle.terms.specs.declared.agreement.BaseKeys.{BaseKeys}
use Rattle.terms.specs.declared.agreement.Terms.{Terms}
use Rattle.terms.specs.declared.views.View.{View}
use Rattle.commit.specs.Keys.{keys_of}
use Rattle.commit.specs.Order.{output_cmp, in_order}
use Rattle.commit.specs.Outputs.{outputs_of, to_remote_output}
use Rattle.commit.specs.Commitments.{commitment_of, transaction_of}
use Rattle.penalty.specs.Paying.{CanPay}
use Rattle.channel.specs.declared.commitments.CommitmentState.{CommitmentState}
use Rattle.channel.specs.Tokens.{contents_of}
use Rattle.safety.specs.Seeds.{AreOfTwoSeeds, SidesCollide}
use Rattle.safety.proofs.Seeds.{sides_differ}
use Rattle.safety.proofs.Samples.{bases_of, first_seed, second_seed, seeds_differ, side_with}

module _ (funding : OutPoint) (point : Key) where
  -- 100,000 satoshis. A opened the channel
  abbrev terms : BaseKeys → BaseKeys → Terms
  terms of_a of_b = record {
    funding = funding;
    capacity_sat = 100000;
    opener = A;
    feerate_per_kw = 1000;
    a = side_with 50000000 of_a;
    b = side_with 50000000 of_b;
    limited = lit≤ tt;
    whole = refl;
    short_a = lit< tt;
    short_b = lit< tt;
  }

  abbrev view : ℕ → ℕ → View
  view a b = record { a = record { balance_msat = a; offered = [] }; b = record { balance_msat = b; offered = [] }; feerate_per_kw = 1000 }

  abbrev held : Side → ℕ → ℕ → CommitmentState
  held owner a b = record { view = view a b; owner = owner; number = 3; point = point }

  pays : (of_a of_b : BaseKeys) → CanPay (terms of_a of_b) (view 50362000 49638000)
  pays of_a of_b = record { few = lit≤ tt; heights = refl; whole = refl }

  -- With the same base keys and the same point, both sides' commitments are one transaction where the same is left to each: 49,638 satoshis, after A's fee of 724. So the seeds have to differ
  one_transaction : (bases : BaseKeys) → transaction_of (contents_of (terms bases bases) (held A 50362000 49638000)) ≡ transaction_of (contents_of (terms bases bases) (held B 50362000 49638000))
  unfolding commitment_of keys_of
  one_transaction bases = refl

  -- 1,000 satoshis, of which each side has 500. Both are dust, and so the commitments have no output. They are one transaction, whatever the base keys
  abbrev small : BaseKeys → BaseKeys → Terms
  small of_a of_b = record {
    funding = funding;
    capacity_sat = 1000;
    opener = A;
    feerate_per_kw = 1000;
    a = side_with 500000 of_a;
    b = side_with 500000 of_b;
    limited = lit≤ tt;
    whole = refl;
    short_a = lit< tt;
    short_b = lit< tt;
  }

  without_outputs : (of_a of_b : BaseKeys) → transaction_of (contents_of (small of_a of_b) (held A 500000 500000)) ≡ transaction_of (contents_of (small of_a of_b) (held B 500000 500000))
  unfolding transaction_of commitment_of outputs_of in_order
  without_outputs of_a of_b = refl

  -- with base keys of two seeds
  abbrev agreed : Terms
  agreed = terms (bases_of first_seed) (bases_of second_seed)

  two_seeds : AreOfTwoSeeds agreed (held A 60000000 40000000) first_seed second_seed
  two_seeds = record { owners = record { payment = refl; htlc = refl; revocation = refl }; peers = record { payment = refl; htlc = refl; revocation = refl }; apart = seeds_differ }

  -- A's commitment pays B's 40,000 satoshis, and A's with the fee off
  first_output : slice_get (contents_of agreed (held A 60000000 40000000)).outputs 0 ≡ Some (to_remote_output (keys_of agreed A point.bytes) 40000)
  unfolding commitment_of outputs_of in_order output_cmp
  first_output = refl

  -- so one transaction for both would show a collision
  they_differ : transaction_of (contents_of agreed (held A 60000000 40000000)) ≡ transaction_of (contents_of agreed (held B 60000000 40000000))
      → SidesCollide agreed (held A 60000000 40000000) (held B 60000000 40000000) first_seed second_seed
  they_differ e =
      sides_differ agreed (held A 60000000 40000000) (held B 60000000 40000000) (record { few = lit≤ tt; heights = refl; whole = refl }) (record { few = lit≤ tt; heights = refl; whole = refl })
      refl first_seed second_seed two_seeds 0
      (to_remote_output (keys_of agreed A point.bytes) 40000) first_output e
