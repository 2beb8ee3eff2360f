-- A channel whose side A recorded a commitment with to_local alone: how A takes it, once it is revoked.
use Rattle.std.proofs.Common.{◌≡◌, ◌≢◌, ℕ, zero, suc, List, [], ◌∷◌, ◌++◌, Some, None, sym, ap, ◌∙◌, subst, ⊎_elim, refl, arith, lit≤, lit<}
use Rattle.std.specs.Prelude.{IsTrue, codes, slice_get}
use Rattle.std.specs.List.{Contains}
use Rattle.std.proofs.lemmas.Option.{same_Some, slice_get_past}
use Rattle.sha2.proofs.Facts256.{length-sha256}
use Rattle.script.specs.Token.{is_key}
use Rattle.tx.specs.declared.input.TxIn.{TxIn}
use Rattle.tx.specs.Fields.{Transaction}
use Rattle.tx.specs.Spelling.{number}
use Rattle.keys.specs.declared.compressed.Key.{Key}
use Rattle.keys.specs.Derivation.{derived_key, revocation_key}
use Rattle.chain.specs.Blocks.{Coin, grant_outpoint}
use Rattle.claim.specs.declared.parts.Place.{Place}
use Rattle.claim.specs.declared.parts.Shell.TheVariants.{Open}
use Rattle.claim.specs.declared.parts.Slot.TheVariants.{Sig, Exact}
use Rattle.claim.specs.Claims.{ClaimParts, FitsClaim}
use Rattle.filling.specs.Filled.{AllFit}
use Rattle.terms.specs.declared.sides.Side.{Side}
use Rattle.terms.specs.declared.sides.Side.TheVariants.{A, B}
use Rattle.terms.specs.declared.agreement.BaseKeys.{BaseKeys}
use Rattle.terms.specs.declared.agreement.Terms.{Terms}
use Rattle.terms.specs.declared.views.View.{View}
use Rattle.terms.specs.Agreement.{party}
use Rattle.terms.specs.Sides.{other}
use Rattle.forms.specs.Forms.{to_local_form}
use Rattle.commit.specs.Keys.{keys_of}
use Rattle.commit.specs.Order.{output_cmp, in_order}
use Rattle.commit.specs.Outputs.{outputs_of, to_local_output}
use Rattle.commit.specs.Commitments.{Contents, commitment_of}
use Rattle.penalty.specs.Claimable.{Claimable, penalty_on, claims_by, claims_from}
use Rattle.penalty.specs.Sets.{claimed_by}
use Rattle.resolve.specs.Due.{owners_due}
use Rattle.channel.specs.declared.commitments.CommitmentState.{CommitmentState}
use Rattle.channel.specs.Numbered.{IsNumbered}
use Rattle.channel.specs.Tokens.{contents_of}
use Rattle.safety.specs.Owning.{AreOfSeed}
use Rattle.safety.proofs.Slots.{contains_first, contains_cases}
use Rattle.safety.proofs.Lists.{none_some, contains_none}
use Rattle.safety.specs.Recorded.{IsPayable}
use Rattle.safety.specs.Places.{place_at}
use Rattle.safety.specs.Standing.{PassesTest}
use Rattle.safety.specs.Ways.{by_owner}
use Rattle.safety.specs.Takers.{OwnersWay}
use Rattle.safety.specs.Taken.{ChannelRecord, IsIn, IsOwn, IsSound, ChannelRecords, AreSound, IsDueTo, of_own, IsFilledBy, Fillings, AreFilled, from_filling, IsTaker}
use Rattle.safety.proofs.Takers.{owners_take}
use Rattle.safety.proofs.Taken.{numbered_are_own, grants_are_out_points, taken}
use Rattle.safety.proofs.Samples.{bases_of, first_seed, second_seed, seeds_differ, seeds_differ_too, side_with}

-- what is hashed for the id of grant 1
grant : (0x67 ∷ 0x72 ∷ 0x61 ∷ 0x6e ∷ 0x74 ∷ []) ++ number 8 1 ≡ 0x67 ∷ 0x72 ∷ 0x61 ∷ 0x6e ∷ 0x74 ∷ 1 ∷ 0 ∷ 0 ∷ 0 ∷ 0 ∷ 0 ∷ 0 ∷ 0 ∷ []
unfolding number
grant = refl

key_form : (base point : List ℕ) → IsTrue (is_key (derived_key base point))
unfolding is_key derived_key
key_form base point = let h = length-sha256 (codes "derive" ++ base ++ point) in cc

module _ (point : Key) where
  abbrev of_a : BaseKeys
  of_a = bases_of first_seed

  abbrev of_b : BaseKeys
  of_b = bases_of second_seed

  -- 100,000 satoshis, all of which A has; A opened the channel
  abbrev terms : Terms
  terms = record {
    funding = grant_outpoint 0;
    capacity_sat = 100000;
    opener = A;
    feerate_per_kw = 1000;
    a = side_with 100000000 of_a;
    b = side_with 0 of_b;
    limited = lit≤ tt;
    whole = refl;
    short_a = lit< tt;
    short_b = lit< tt;
  }

  abbrev view : View
  view = record { a = record { balance_msat = 100000000; offered = [] }; b = record { balance_msat = 0; offered = [] }; feerate_per_kw = 1000 }

  abbrev held : CommitmentState
  held = record { view = view; owner = A; number = 0; point = point }

  payable : IsPayable terms held
  payable = record { funding = grants_are_out_points 0; view = record { few = lit≤ tt; heights = refl; whole = refl }; number = omega arith }

  abbrev own : Contents
  own = contents_of terms held

  -- to_local has what is left after the fee of 724
  abbrev place : Place
  place = place_at own 0 (to_local_output 144 (keys_of terms A point.bytes) 99276)

  -- by the revocation key, and by the delayed key
  abbrev revoked : Claimable
  revoked = penalty_on own place

  abbrev delayed : Key
  delayed = record { bytes = derived_key of_a.delayed.bytes point.bytes; form = key_form of_a.delayed.bytes point.bytes }

  abbrev claim : ClaimParts
  claim = record {
    ways = to_local_form (revocation_key of_b.revocation.bytes point.bytes) 144 (derived_key of_a.delayed.bytes point.bytes);
    index = 1;
    slots = Exact (record { item = []; short = lit≤ tt }) ∷ Sig delayed ∷ [];
    place = place;
    shell = Open;
  }

  is_revoked : Contains (claims_from own 0 own.outputs) revoked
  unfolding claims_by commitment_of outputs_of in_order output_cmp
  is_revoked = contains_first revoked []

  due : Contains (owners_due [] own) (claimed_by claim)
  unfolding owners_due claims_by commitment_of keys_of outputs_of in_order output_cmp
  due = contains_first (claimed_by claim) []

  -- an input that fits it and passes
  takes : (height : ℕ) (t : Transaction) (input : TxIn) (coin : Coin) → FitsClaim claim t input → PassesTest height t input coin → OwnersWay terms held held revoked coin.height height t
  takes height t input coin f passes = owners_take terms held held payable payable (λ e. refl) revoked is_revoked [] claim due refl height t input coin f passes

  -- A takes to_local by it, from height 244 on where the coin's block has height 100
  late : OwnersWay terms held held revoked 100 244 (record { version = 2; inputs = []; outputs = []; lock_time = 0 })
  unfolding commitment_of keys_of
  late = by_owner (record { form = refl; late = omega arith })

  -- ---- the channel alone

  -- A's commitment, and none of B's
  abbrev own_of : Side → List CommitmentState
  own_of A = held ∷ []
  own_of B = []

  abbrev seed_of : Side → List ℕ
  seed_of A = first_seed
  seed_of B = second_seed

  abbrev recorded : ChannelRecord
  recorded = record { terms = terms; seed = seed_of; own = own_of }

  abbrev channels : ChannelRecords
  channels zero = Some recorded
  channels (suc c) = None

  held_there : IsIn recorded A held
  held_there = record { at = 0; there = refl }

  -- it is by number, and its view shares out the capacity
  numbered : IsNumbered terms A 0 held
  numbered = record { owner = refl; number = refl; shares = record { few_of_a = lit≤ tt; few_of_b = lit≤ tt; heights_of_a = refl; heights_of_b = refl; whole = refl } }

  each : (side : Side) (n : ℕ) (k : CommitmentState) → slice_get (own_of side) n ≡ Some k → IsOwn recorded side n k
  each A zero k e = subst (λ (m : CommitmentState). IsOwn recorded A 0 m) (same_Some held k e) (numbered_are_own recorded A 0 held (grants_are_out_points 0) (omega arith) numbered)
  each A (suc n) k e = absurd (none_some k (sym (slice_get_past (held ∷ []) (suc n) (omega arith)) ∙ e))
  each B n k e = absurd (none_some k (sym (slice_get_past [] n (omega arith)) ∙ e))

  seeds : (side : Side) → AreOfSeed (seed_of side) (party side terms).bases
  seeds A = record { payment = refl; htlc = refl; revocation = refl }
  seeds B = record { payment = refl; htlc = refl; revocation = refl }

  apart : (side : Side) → seed_of side ≢ seed_of (other side)
  apart A = seeds_differ
  apart B = seeds_differ_too

  is_sound : IsSound recorded
  is_sound = record { each = each; seeds = seeds; apart = apart }

  each_sound : (c : ℕ) (r : ChannelRecord) → channels c ≡ Some r → IsSound r
  each_sound zero r e = subst IsSound (same_Some recorded r e) is_sound
  each_sound (suc c) r e = absurd (none_some r e)

  granted : (c : ℕ) (r : ChannelRecord) → channels c ≡ Some r → r.terms.funding ≡ grant_outpoint c
  granted zero r e = ap (λ (x : ChannelRecord). x.terms.funding) (sym (same_Some recorded r e))
  granted (suc c) r e = absurd (none_some r e)

  alone : (c d : ℕ) (r q : ChannelRecord) → channels c ≡ Some r → channels d ≡ Some q → c ≢ d → r.terms.funding ≢ q.terms.funding
  alone zero zero r q e f n = absurd (n refl)
  alone zero (suc d) r q e f n = absurd (none_some q f)
  alone (suc c) d r q e f n = absurd (none_some r e)

  are_sound : AreSound channels
  are_sound = record { each = each_sound; granted = granted; apart = alone }

  is_due : (x : ClaimParts) → Contains (claim ∷ []) x → IsDueTo channels A x
  is_due x i =
      ⊎_elim {C = IsDueTo channels A x} (λ (e : claim ≡ x). subst (λ (y : ClaimParts). IsDueTo channels A y) e (of_own 0 recorded refl held held_there [] due))
      (λ (j : Contains [] x). absurd (contains_none x j))
      (contains_cases claim [] x i)

  -- a filling of A's, by this claim
  abbrev fillings_of : Transaction → Fillings
  fillings_of t A = t ∷ []
  fillings_of t B = []

  are_filled : (t : Transaction) → AllFit t (claim ∷ []) t.inputs → AreFilled channels (fillings_of t)
  are_filled t fits A u i =
      ⊎_elim {C = IsFilledBy channels A u} (λ (e : t ≡ u). subst (λ (v : Transaction). IsFilledBy channels A v) e (record { claims = claim ∷ []; fits = fits; due = is_due }))
      (λ (j : Contains [] u). absurd (contains_none u j)) (contains_cases t [] u i)
  are_filled t fits B u i = absurd (contains_none u i)

  -- it takes the output in one of the ways
  filled : (height : ℕ) (t : Transaction) (input : TxIn) (coin : Coin) → AllFit t (claim ∷ []) t.inputs → Contains t.inputs input → input.outpoint ≡ place.outpoint → PassesTest height t input coin
      → IsTaker channels (fillings_of t) recorded A held revoked coin.height height t
  filled height t input coin fits within names passes =
      taken channels are_sound (fillings_of t) (are_filled t fits) 0 recorded refl A held held_there revoked is_revoked height t input coin (from_filling A (contains_first t [])) within names passes
