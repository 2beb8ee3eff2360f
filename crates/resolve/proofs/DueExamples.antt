-- What is due on commitments with an HTLC each way, by amounts and paths that were worked out by hand from BOLT 3 and BOLT 5.
use Rattle.std.proofs.Common.{◌≡◌, ◌==◌, ℕ, true, false, map, List, [], ◌∷◌, Some, None, refl, replicate}
use Rattle.std.specs.Str.{bytes_eq}
use Rattle.sha2.specs.Sha256.{sha256}
use Rattle.tx.specs.declared.input.OutPoint.{OutPoint}
use Rattle.terms.specs.declared.htlcs.Htlc.{Htlc}
use Rattle.terms.specs.declared.numbers.Obscured.{Obscured}
use Rattle.claim.specs.declared.parts.Shell.{Shell}
use Rattle.claim.specs.declared.parts.Shell.TheVariants.{Open, Fixed}
use Rattle.forms.specs.Fillings.{Signature, PreimageOf, Bytes}
use Rattle.commit.specs.declared.fees.Direction.TheVariants.{Offered, Received}
use Rattle.commit.specs.Keys.{KeyBytes}
use Rattle.commit.specs.Outputs.{htlc_output, to_remote_output, to_local_output}
use Rattle.commit.specs.Commitments.{Contents, htlc_tx_of}
use Rattle.penalty.specs.Claimable.{Claimable, claims_by, claimable_of}
use Rattle.resolve.specs.declared.known.RevokedCommitment.{RevokedCommitment}
use Rattle.resolve.specs.declared.known.Known.{Known}
use Rattle.resolve.specs.declared.verdicts.Verdict.TheVariants.{Revoked}
use Rattle.resolve.specs.Due.{can_time_out, can_pay, owners_due, peers_due, penalties_if, due_of}
use Rattle.resolve.specs.Preimages.{is_known, first_of, shown_by, if_32, is_deep}

-- the lock time of the transaction round a claim, where it is fixed
abbrev fixed_at : Shell → ℕ
fixed_at Open = 0
fixed_at (Fixed t) = t.lock_time

-- the index and the value of an output that is claimed, the path, and that lock time
abbrev spot : Claimable → ℕ × ℕ × ℕ × ℕ
spot o = (o.place.outpoint.index, o.place.value, o.path, fixed_at o.shell)

-- the owner offered an HTLC of 10,000 satoshis and received one of 11,000; 20,000 to the peer, and 58,000 to itself
module _ (funding : OutPoint) (hidden : Obscured) (k : KeyBytes) (hash : List ℕ) (preimages : List (List ℕ)) where
  abbrev htlc : ℕ → ℕ → Htlc
  htlc amount_msat expiry_height = record { id = 0; amount_msat = amount_msat; hash = hash; expiry_height = expiry_height }

  abbrev both : Contents
  both = record {
    funding = funding;
    hidden = hidden;
    keys = k;
    delay_blocks = 144;
    feerate_per_kw = 1000;
    outputs = htlc_output k Offered (htlc 10000000 500) ∷ htlc_output k Received (htlc 11000000 600) ∷ to_remote_output k 20000 ∷ to_local_output 144 k 58000 ∷ [];
  }

  -- of one's own: the HTLC-timeout transaction, whose output is 663 less, the HTLC-success transaction, 703 less, and to_local
  owners_with : can_time_out k ≡ true → is_known preimages hash ≡ true → can_pay k (htlc 11000000 600) ≡ true
      → map spot (owners_due preimages both) ≡ (0, 10000, 1, 500) ∷ (0, 9337, 1, 0) ∷ (1, 11000, 1, 0) ∷ (0, 10297, 1, 0) ∷ (3, 58000, 1, 0) ∷ []
  unfolding owners_due claims_by htlc_tx_of
  owners_with e f g = rw (e, f, g) refl

  -- no HTLC-success without the preimage
  owners_without : can_time_out k ≡ true → is_known preimages hash ≡ false → map spot (owners_due preimages both) ≡ (0, 10000, 1, 500) ∷ (0, 9337, 1, 0) ∷ (3, 58000, 1, 0) ∷ []
  unfolding owners_due claims_by htlc_tx_of
  owners_without e f = rw (e, f) refl

  -- neither of the two claims that are refused
  owners_refused : can_time_out k ≡ false → is_known preimages hash ≡ true → can_pay k (htlc 11000000 600) ≡ false → map spot (owners_due preimages both) ≡ (3, 58000, 1, 0) ∷ []
  unfolding owners_due claims_by htlc_tx_of
  owners_refused e f g = rw (e, f, g) refl

  -- of the peer's: the direct preimage, the direct timeout, and to_remote
  peers_with : is_known preimages hash ≡ true → can_pay k (htlc 10000000 500) ≡ true → can_time_out k ≡ true
      → map spot (peers_due preimages both) ≡ (0, 10000, 2, 0) ∷ (1, 11000, 2, 0) ∷ (2, 20000, 0, 0) ∷ []
  unfolding peers_due claims_by
  peers_with e f g = rw (e, f, g) refl

  peers_slots : is_known preimages hash ≡ true → can_pay k (htlc 10000000 500) ≡ true → can_time_out k ≡ true
      → map (λ o. o.slots) (peers_due preimages both)
      ≡ (PreimageOf hash ∷ Signature k.remote_htlc ∷ []) ∷ (Bytes [] ∷ Signature k.remote_htlc ∷ []) ∷ (Bytes k.remote ∷ Signature k.remote ∷ []) ∷ []
  unfolding peers_due claims_by
  peers_slots e f g = rw (e, f, g) refl

  -- no direct preimage without the preimage
  peers_without : is_known preimages hash ≡ false → can_time_out k ≡ true → map spot (peers_due preimages both) ≡ (1, 11000, 2, 0) ∷ (2, 20000, 0, 0) ∷ []
  unfolding peers_due claims_by
  peers_without e g = rw (e, g) refl

-- any preimage that is known counts, in whatever order
module _ (x y hash : List ℕ) where
  either : bytes_eq (sha256 x) hash ≡ true → bytes_eq (sha256 y) hash ≡ false
      → map (λ known. is_known known hash) ((x ∷ y ∷ []) ∷ (y ∷ x ∷ []) ∷ (x ∷ []) ∷ (y ∷ y ∷ []) ∷ [] ∷ []) ≡ true ∷ true ∷ true ∷ false ∷ false ∷ []
  either e f = rw (e, f) refl

-- the first one counts where several have the hash
module _ (x y z hash : List ℕ) where
  first : bytes_eq (sha256 x) hash ≡ true → bytes_eq (sha256 y) hash ≡ false → bytes_eq (sha256 z) hash ≡ true
      → map (λ known. first_of known hash) ((y ∷ x ∷ z ∷ []) ∷ (z ∷ y ∷ x ∷ []) ∷ (y ∷ y ∷ []) ∷ [] ∷ []) ≡ Some x ∷ Some z ∷ None ∷ None ∷ []
  first e f g = rw (e, f, g) refl

-- the penalties of a revoked commitment are due by its number alone, whether they are kept or not
module _ (known : Known) (kept bare : RevokedCommitment) where
  whether_kept : kept.is_kept ≡ true → bare.is_kept ≡ false
      → map penalties_if (None ∷ Some kept ∷ Some bare ∷ []) ≡ [] ∷ claimable_of kept.state ∷ claimable_of bare.state ∷ []
  whether_kept e f = refl

  by_number : known.revoked ≡ kept ∷ bare ∷ [] → kept.is_kept ≡ true → bare.is_kept ≡ false → (kept.state.number == 0) ≡ true → (bare.state.number == 1) ≡ true
      → map (due_of known) (Revoked 0 ∷ Revoked 1 ∷ Revoked 2 ∷ []) ≡ claimable_of kept.state ∷ claimable_of bare.state ∷ [] ∷ []
  unfolding due_of
  by_number e k b f g = rw (e, f, g) refl

-- the second to last item, of three or five
shown : (shown_by ((1 ∷ []) ∷ (2 ∷ []) ∷ (3 ∷ []) ∷ []) ≡ Some (2 ∷ []))
    × (shown_by ([] ∷ (1 ∷ []) ∷ (2 ∷ []) ∷ (3 ∷ []) ∷ (4 ∷ []) ∷ []) ≡ Some (3 ∷ []))
    × (shown_by ((1 ∷ []) ∷ (2 ∷ []) ∷ []) ≡ None)
    × (shown_by ((1 ∷ []) ∷ (2 ∷ []) ∷ (3 ∷ []) ∷ (4 ∷ []) ∷ []) ≡ None)
    × (shown_by ((1 ∷ []) ∷ (2 ∷ []) ∷ (3 ∷ []) ∷ (4 ∷ []) ∷ (5 ∷ []) ∷ (6 ∷ []) ∷ []) ≡ None)
    × (shown_by [] ≡ None)
shown = (refl, refl, refl, refl, refl, refl)

-- of 32 bytes
lengths : (if_32 (Some (replicate 31 7)) ≡ None) × (if_32 (Some (replicate 32 7)) ≡ Some (replicate 32 7)) × (if_32 (Some (replicate 33 7)) ≡ None)
lengths = (refl, refl, refl)

-- 100 blocks deep
deep : (is_deep 5 103 ≡ false) × (is_deep 5 104 ≡ true) × (is_deep 0 98 ≡ false) × (is_deep 0 99 ≡ true)
deep = (refl, refl, refl, refl)
