-- What revoked commitments let the peer claim (BOLT 5, "Revoked Transaction Close Handling"), by amounts that were computed by hand.
use Rattle.std.proofs.Common.{◌≡◌, ℕ, map, List, [], ◌∷◌, refl, lit≤, lit<}
use Rattle.tx.specs.declared.input.OutPoint.{OutPoint}
use Rattle.tx.specs.Spelling.{transaction_id}
use Rattle.keys.specs.Derivation.{point_of, revocation_key}
use Rattle.terms.specs.declared.htlcs.Htlc.{Htlc}
use Rattle.terms.specs.declared.sides.Side.TheVariants.{A}
use Rattle.terms.specs.declared.agreement.BaseKeys.{BaseKeys}
use Rattle.terms.specs.declared.agreement.Party.{Party}
use Rattle.terms.specs.declared.agreement.Terms.{Terms}
use Rattle.terms.specs.declared.views.View.{View}
use Rattle.forms.specs.Fillings.{Filling, Signature, Bytes}
use Rattle.terms.specs.declared.numbers.Obscured.{Obscured}
use Rattle.commit.specs.declared.fees.Direction.TheVariants.{Offered}
use Rattle.commit.specs.Keys.{KeyBytes, keys_of}
use Rattle.sighash.specs.Programs.{script_hash_program}
use Rattle.commit.specs.Outputs.{outputs_of, to_local_script, htlc_output, to_remote_output, to_local_output}
use Rattle.commit.specs.Order.{output_cmp, in_order}
use Rattle.commit.specs.Commitments.{Contents, commitment_of, transaction_of, htlc_tx_of}
use Rattle.penalty.specs.declared.states.RevokedState.{RevokedState}
use Rattle.penalty.specs.Claimable.{Claimable, claims_by, claims_from, claimable_of}

-- the index and the value of an output that is claimed, and how it is claimed
abbrev spot : Claimable → ℕ × ℕ
spot o = (o.place.outpoint.index, o.place.value)

abbrev filling : Claimable → ℕ × List Filling
filling o = (o.path, o.slots)

-- Two HTLCs of one hash and one value, which A offered, in the order of their expiries: a commitment of 58,932 to A and 20,000 to B.
module _ (funding : OutPoint) (hidden : Obscured) (k : KeyBytes) (hash : List ℕ) where
  abbrev twin : ℕ → ℕ → Htlc
  twin id expiry_height = record { id = id; amount_msat = 10000000; hash = hash; expiry_height = expiry_height }

  abbrev twins : Contents
  twins = record {
    funding = funding;
    hidden = hidden;
    keys = k;
    delay_blocks = 144;
    feerate_per_kw = 1000;
    outputs = htlc_output k Offered (twin 1 500) ∷ htlc_output k Offered (twin 0 600) ∷ to_remote_output k 20000 ∷ to_local_output 144 k 58932 ∷ [];
  }

  twin_claims : map spot (claims_from twins 0 twins.outputs) ≡ (0, 10000) ∷ (0, 9337) ∷ (1, 10000) ∷ (0, 9337) ∷ (2, 20000) ∷ (3, 58932) ∷ []
  unfolding claims_by
  twin_claims = refl

  abbrev commitment_id : List ℕ
  commitment_id = transaction_id (transaction_of twins)

  -- the HTLC-timeout transaction of the output at an index
  abbrev timeout_id : ℕ → ℕ → List ℕ
  timeout_id index lock_time = transaction_id (record {
    version = 2;
    inputs = record { outpoint = record { txid = commitment_id; index = index }; sequence = 0; witness = [] } ∷ [];
    outputs = record { value = 9337; script = script_hash_program (to_local_script 144 k) } ∷ [];
    lock_time = lock_time;
  })

  twin_ids : map (λ o. o.place.outpoint.txid) (claims_from twins 0 twins.outputs) ≡ commitment_id ∷ timeout_id 0 500 ∷ commitment_id ∷ timeout_id 1 600 ∷ commitment_id ∷ commitment_id ∷ []
  unfolding claims_by htlc_tx_of
  twin_ids = refl

module _ (funding : OutPoint) (of_a of_b : BaseKeys) (hash secret : List ℕ) where
  abbrev side : ℕ → ℕ → BaseKeys → Party
  side start_msat delay_blocks bases = record { dust_sat = 546; delay_blocks = delay_blocks; minimum_msat = 0; start_msat = start_msat; bases = bases }

  -- 100,000 satoshis, of which A has 80,000 at the start; A opened the channel
  abbrev terms : Terms
  terms = record { funding = funding; capacity_sat = 100000; opener = A; feerate_per_kw = 1000; a = side 80000000 144 of_a; b = side 20000000 72 of_b; limited = lit≤ tt; whole = refl; short_a = lit< tt; short_b = lit< tt }

  abbrev htlc : ℕ → ℕ → ℕ → Htlc
  htlc id amount_msat expiry_height = record { id = id; amount_msat = amount_msat; hash = hash; expiry_height = expiry_height }

  abbrev view : ℕ → List Htlc → ℕ → List Htlc → View
  view a from_a b from_b = record { a = record { balance_msat = a; offered = from_a }; b = record { balance_msat = b; offered = from_b }; feerate_per_kw = 1000 }

  -- the outputs that are claimed: the index and the value of each
  abbrev summary : RevokedState → List (ℕ × ℕ)
  summary state = map spot (claimable_of state)

  -- neither HTLCs nor a balance below the dust limit: to_remote, and to_local with the fee of 724 off
  abbrev plain : RevokedState
  plain = record { terms = terms; view = view 80000000 [] 20000000 []; owner = A; number = 7; secret = secret; few = lit≤ tt; heights = refl; whole = refl }

  plain_claims : summary plain ≡ (0, 20000) ∷ (1, 79276) ∷ []
  unfolding claimable_of claims_by commitment_of outputs_of in_order output_cmp keys_of
  plain_claims = refl

  -- by the revocation key with 01 on to_local, and by the peer's payment key on to_remote
  plain_slots : map filling (claimable_of plain)
      ≡ (0, Bytes of_b.payment.bytes ∷ Signature of_b.payment.bytes ∷ [])
      ∷ (0, Bytes (1 ∷ []) ∷ Signature (revocation_key of_b.revocation.bytes (point_of secret)) ∷ [])
      ∷ []
  unfolding claimable_of claims_by commitment_of outputs_of in_order output_cmp keys_of
  plain_slots = refl

  -- an HTLC of each direction, and one of each that is trimmed: 546 and the fee of 663 or 703
  abbrev mixed : RevokedState
  mixed = record {
    terms = terms;
    view = view 60000000 (htlc 0 10000000 600 ∷ htlc 1 1208999 601 ∷ []) 16542001 (htlc 0 11000000 700 ∷ htlc 1 1249000 701 ∷ []);
    owner = A;
    number = 7;
    secret = secret;
    few = lit≤ tt;
    heights = refl;
    whole = refl;
  }

  mixed_claims : summary mixed ≡ (0, 1249) ∷ (0, 546) ∷ (1, 10000) ∷ (0, 9337) ∷ (2, 11000) ∷ (0, 10297) ∷ (3, 16542) ∷ (4, 58760) ∷ []
  unfolding claimable_of claims_by commitment_of outputs_of in_order output_cmp keys_of
  mixed_claims = refl

  -- A's commitment 1 of the second scenario: an HTLC that A offered, and the fee of 896 off to_local
  abbrev one_offer : RevokedState
  one_offer = record { terms = terms; view = view 70000000 (htlc 0 10000000 5 ∷ []) 20000000 []; owner = A; number = 1; secret = secret; few = lit≤ tt; heights = refl; whole = refl }

  one_offer_claims : summary one_offer ≡ (0, 10000) ∷ (0, 9337) ∷ (1, 20000) ∷ (2, 69104) ∷ []
  unfolding claimable_of claims_by commitment_of outputs_of in_order output_cmp keys_of
  one_offer_claims = refl
