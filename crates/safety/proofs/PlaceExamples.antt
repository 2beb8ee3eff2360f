-- What is due on a commitment with an HTLC each way, by its outpoints.
use Rattle.std.proofs.Common.{◌≡◌, ℕ, true, false, map, List, [], ◌∷◌, refl, ◌==◌, Some, None}
use Rattle.std.specs.Prelude.{slice_get}
use Rattle.std.specs.List.{Contains}
use Rattle.tx.specs.declared.input.OutPoint.{OutPoint}
use Rattle.tx.specs.Spelling.{transaction_id}
use Rattle.terms.specs.declared.htlcs.Htlc.{Htlc}
use Rattle.terms.specs.declared.numbers.Obscured.{Obscured}
use Rattle.commit.specs.declared.fees.Direction.TheVariants.{Offered, Received}
use Rattle.commit.specs.declared.outputs.HtlcOutput.{HtlcOutput}
use Rattle.commit.specs.Keys.{KeyBytes}
use Rattle.commit.specs.Outputs.{htlc_output, to_remote_output, to_local_output}
use Rattle.commit.specs.Commitments.{Contents, id_of, htlcs_from, htlc_tx_of}
use Rattle.penalty.specs.Claimable.{Claimable, claims_by, claims_from, commitment_in, claimable_of}
use Rattle.resolve.specs.declared.verdicts.Verdict.TheVariants.{TheirsNext, Revoked, Unknown}
use Rattle.resolve.specs.declared.known.RevokedCommitment.{RevokedCommitment}
use Rattle.resolve.specs.declared.known.Known.{Known}
use Rattle.resolve.specs.Preimages.{is_known}
use Rattle.resolve.specs.Due.{can_time_out, delayed_on, delayed_second_stage, owners_due, peers_due, due_of}
use Rattle.safety.proofs.Slots.{contains_first}
use Rattle.safety.specs.Places.{place_at, IsHtlcAt, IsOwnersClaim, delayed, delayed_second, IsKnownDue, on_revoked}

-- the owner offered an HTLC of 10,000 satoshis and received one of 11,000; 20,000 to the peer, and 58,000 to itself
module _ (funding : OutPoint) (hidden : Obscured) (k : KeyBytes) (hash : List ℕ) (preimages : List (List ℕ)) where
  abbrev htlc : ℕ → ℕ → Htlc
  htlc amount_msat expiry_height = record { id = 0; amount_msat = amount_msat; hash = hash; expiry_height = expiry_height }

  abbrev both : Contents
  both = record {
    funding = funding;
    hidden = hidden;
    keys = k;
    delay_blocks = 144;
    feerate_per_kw = 1000;
    outputs = htlc_output k Offered (htlc 10000000 500) ∷ htlc_output k Received (htlc 11000000 600) ∷ to_remote_output k 20000 ∷ to_local_output 144 k 58000 ∷ [];
  }

  abbrev offer : HtlcOutput
  offer = record { index = 0; direction = Offered; htlc = htlc 10000000 500 }

  abbrev accept : HtlcOutput
  accept = record { index = 1; direction = Received; htlc = htlc 11000000 600 }

  abbrev at : ℕ → OutPoint
  at index = record { txid = id_of both; index = index }

  abbrev after : HtlcOutput → OutPoint
  after h = record { txid = transaction_id (htlc_tx_of both h); index = 0 }

  -- without the preimage: the offered HTLC, the output of its HTLC transaction, and to_local
  of_owner : can_time_out k ≡ true → is_known preimages hash ≡ false → map (λ o. o.place.outpoint) (owners_due preimages both) ≡ at 0 ∷ after offer ∷ at 3 ∷ []
  unfolding owners_due claims_by
  of_owner e f = rw (e, f) refl

  -- the received HTLC once it expired, and to_remote
  of_peer : can_time_out k ≡ true → is_known preimages hash ≡ false → map (λ o. o.place.outpoint) (peers_due preimages both) ≡ at 1 ∷ at 2 ∷ []
  unfolding peers_due claims_by
  of_peer e f = rw (e, f) refl

  once_revoked : map (λ o. o.place.outpoint) (claims_from both 0 both.outputs) ≡ at 0 ∷ after offer ∷ at 1 ∷ after accept ∷ at 2 ∷ at 3 ∷ []
  unfolding claims_by
  once_revoked = refl

  -- which ones those of the owner are
  on_to_local : IsOwnersClaim both (delayed_on both (place_at both 3 (to_local_output 144 k 58000)))
  on_to_local = delayed 3 (to_local_output 144 k 58000) (record { there = refl; kind = refl }) refl

  offered_there : IsHtlcAt both offer (htlc_output k Offered (htlc 10000000 500))
  unfolding htlcs_from
  offered_there = record { at = record { there = refl; kind = refl }; among = contains_first offer (accept ∷ []) }

  on_second_stage : IsOwnersClaim both (delayed_second_stage both offer)
  on_second_stage = delayed_second offer (htlc_output k Offered (htlc 10000000 500)) offered_there refl

-- nothing is due where no commitment is known, and a revoked one has to have the number
module _ (known : Known) (r : RevokedCommitment) where
  without_next : known.next ≡ None → due_of known TheirsNext ≡ []
  unfolding due_of
  without_next e = rw e refl

  by_number : known.revoked ≡ r ∷ [] → (r.state.number == 0) ≡ true → map (due_of known) (Revoked 0 ∷ Revoked 1 ∷ Unknown ∷ []) ≡ claimable_of r.state ∷ [] ∷ [] ∷ []
  unfolding due_of
  by_number e f = rw (e, f) refl

  -- such a claim is on that commitment
  on_zero : slice_get known.revoked 0 ≡ Some r → r.state.number ≡ 0 → (o : Claimable) → Contains (claims_from (commitment_in r.state) 0 (commitment_in r.state).outputs) o → IsKnownDue known o
  on_zero e n o i = on_revoked 0 r e n i
