-- The claims of worked commitments, and which revocation keys let a claim be refused.
use Rattle.std.proofs.Common.{◌≡◌, ℕ, Bool, true, false, not, map, List, [], ◌∷◌, replicate, refl, sym, ap, ◌∙◌, subst}
use Rattle.std.specs.Prelude.{◌==◌, ◌||◌}
use Rattle.std.specs.Str.{bytes_eq}
use Rattle.std.proofs.lemmas.Bool.{true≢false}
use Rattle.std.proofs.lemmas.Slice.Eq.{bytes_eq-Decides}
use Rattle.sha2.specs.Sha256.{sha256, digest_bytes, hash_after, compress, rounds, schedule, first_words}
use Rattle.digest.specs.Hash.{hash160}
use Rattle.digest.specs.Ripemd160.{left_words, right_words, left_rotations, right_rotations, left_constants, right_constants, block_words, left_line, right_line, blocks, ripemd160, compress as ripemd_compress, hash_after as ripemd_hash_after, digest_bytes as ripemd_bytes}
use Rattle.tx.specs.declared.input.OutPoint.{OutPoint}
use Rattle.terms.specs.declared.htlcs.Htlc.{Htlc}
use Rattle.terms.specs.declared.numbers.Obscured.{Obscured}
use Rattle.terms.specs.declared.sides.Side.{Side}
use Rattle.terms.specs.declared.sides.Side.TheVariants.{A, B}
use Rattle.terms.specs.declared.agreement.BaseKeys.{BaseKeys}
use Rattle.commit.specs.Outputs.{outputs_of}
use Rattle.commit.specs.Order.{in_order, output_cmp}
use Rattle.commit.specs.Commitments.{Contents, commitment_of, htlcs_from}
use Rattle.penalty.specs.Claimable.{claims_by}
use Rattle.resolve.specs.Due.{can_time_out}
use Rattle.worth_laws.specs.Shares.{owner_by, none_known}
use Rattle.worth_laws.specs.Counted.{counted, fees_counted, HasNoTwin}
use Rattle.worth_laws.proofs.Samples.{opened_by, mixed, all_known, large_known}

-- ---- B opened the channel, and the feerate is 1,000. A's commitment has 1,300 and 10,000 that A offered, 11,999 that B offered, 36,399 less the fee to B and 40,000 to A
module _ (funding : OutPoint) (bases : BaseKeys) (point : List ℕ) where
  abbrev of_a : (own : Bool) → Side → (Htlc → Bool) → (ℕ → Bool) → List ℕ × ℕ
  of_a own me known stands =
      let c = commitment_of (opened_by funding bases B 546 1000) mixed (owner_by own me) 1 point in
      (map (λ o. o.place.value) (counted own known stands c), fees_counted own known stands c)

  -- A's own: no HTLC transaction stands; then HTLC-timeout of the second output, which costs 663; HTLC-success of the third, 703; and all three
  own_claims : map (of_a true A large_known) ((λ _. false) ∷ (λ index. index == 1) ∷ (λ index. index == 2) ∷ (λ _. true) ∷ [])
      ≡ (1300 ∷ 10000 ∷ 11999 ∷ 40000 ∷ [], 0) ∷ (1300 ∷ 9337 ∷ 11999 ∷ 40000 ∷ [], 663) ∷ (1300 ∷ 10000 ∷ 11296 ∷ 40000 ∷ [], 703) ∷ (637 ∷ 9337 ∷ 11296 ∷ 40000 ∷ [], 2029) ∷ []
  unfolding claims_by htlcs_from commitment_of outputs_of in_order output_cmp
  own_claims = refl

  -- without the preimage neither the HTLC that B offered counts, nor the fee of its transaction, though it stands
  own_without : map (of_a true A none_known) ((λ _. false) ∷ (λ index. index == 2) ∷ (λ _. true) ∷ []) ≡ (1300 ∷ 10000 ∷ 40000 ∷ [], 0) ∷ (1300 ∷ 10000 ∷ 40000 ∷ [], 0) ∷ (637 ∷ 9337 ∷ 40000 ∷ [], 1326) ∷ []
  unfolding claims_by htlcs_from commitment_of outputs_of in_order output_cmp
  own_without = refl

  -- B's, of the same commitment: A's HTLC transactions cost B nothing
  peers_claims : map (λ known. of_a false B known (λ _. true)) (none_known ∷ large_known ∷ all_known ∷ []) ≡ (11999 ∷ 35159 ∷ [], 0) ∷ (10000 ∷ 11999 ∷ 35159 ∷ [], 0) ∷ (1300 ∷ 10000 ∷ 11999 ∷ 35159 ∷ [], 0) ∷ []
  unfolding claims_by htlcs_from commitment_of outputs_of in_order output_cmp
  peers_claims = refl

-- ---- a claim that is refused

either_alone : (b : Bool) → (b || false) ≡ true → b ≡ true
either_alone true e = e
either_alone false e = e

abbrev key : List ℕ
key = 2 ∷ replicate 32 0xa1

module _ (funding : OutPoint) (hidden : Obscured) (other : List ℕ) where
  abbrev with_key : List ℕ → Contents
  with_key revocation = record {
    funding = funding;
    hidden = hidden;
    keys = record { revocation = revocation; delayed = other; local_htlc = other; remote_htlc = other; remote = other };
    delay_blocks = 144;
    feerate_per_kw = 1000;
    outputs = [];
  }

  times_out : can_time_out (with_key key).keys ≡ true
  unfolding sha256 digest_bytes hash_after compress rounds schedule first_words ripemd160 left_words right_words left_rotations right_rotations left_constants right_constants block_words left_line right_line blocks ripemd_compress ripemd_hash_after ripemd_bytes
  times_out = refl

  pays : not (bytes_eq (hash160 key) (ripemd160 (sha256 (replicate 32 7)))) ≡ true
  unfolding sha256 digest_bytes hash_after compress rounds schedule first_words ripemd160 left_words right_words left_rotations right_rotations left_constants right_constants block_words left_line right_line blocks ripemd_compress ripemd_hash_after ripemd_bytes
  pays = refl

  -- yes: HasNoTwin
  no_twin : HasNoTwin (replicate 32 7 ∷ []) (with_key key)
  no_twin = record {
    timeout = times_out;
    pays =
        λ h e.
        subst (λ hash. not (bytes_eq (hash160 key) (ripemd160 hash)) ≡ true) ((bytes_eq-Decides (sha256 (replicate 32 7)) h.hash).0 (either_alone (bytes_eq (sha256 (replicate 32 7)) h.hash) e)) pays;
  }

  -- the key itself as a preimage; and an empty key
  same : (bytes : List ℕ) → bytes_eq bytes bytes ≡ true
  same bytes = (bytes_eq-Decides bytes bytes).1 refl

  -- no: HasNoTwin
  twins : (HasNoTwin (key ∷ []) (with_key key) → ⊥) × (HasNoTwin [] (with_key []) → ⊥)
  twins = (
    λ t. let e : not (bytes_eq (hash160 key) (hash160 key)) ≡ true = t.pays (record { id = 0; amount_msat = 1000; hash = sha256 key; expiry_height = 500 }) (ap (λ b. b || false) (same (sha256 key))) in
        true≢false (sym e ∙ ap not (same (hash160 key))),
    λ t. true≢false (sym t.timeout ∙ ap not (same (hash160 []))),
  )
