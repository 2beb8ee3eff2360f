-- What is signed, each field as BOLT 3 has it, by amounts that were worked out by hand.
use Rattle.std.proofs.Common.{◌≡◌, ℕ, true, false, List, [], ◌∷◌, map, Option, Some, None, refl}
use Rattle.std.specs.Str.{bytes_eq}
use Rattle.sha2.specs.Sha256.{sha256}
use Rattle.script.specs.Token.{token_of}
use Rattle.tx.specs.declared.input.OutPoint.{OutPoint}
use Rattle.tx.specs.Fields.{Transaction}
use Rattle.terms.specs.declared.htlcs.Htlc.{Htlc}
use Rattle.terms.specs.declared.numbers.Obscured.{Obscured}
use Rattle.terms.specs.declared.agreement.Terms.{Terms}
use Rattle.terms.specs.Scripts.{is_lesser}
use Rattle.commit.specs.declared.fees.Direction.{Direction}
use Rattle.commit.specs.declared.fees.Direction.TheVariants.{Offered, Received}
use Rattle.commit.specs.declared.outputs.CommitmentOutput.{CommitmentOutput}
use Rattle.commit.specs.Keys.{KeyBytes}
use Rattle.sighash.specs.Programs.{script_hash_program, key_hash_program}
use Rattle.commit.specs.Outputs.{to_local_script, htlc_script, to_remote_output, to_local_output, htlc_output}
use Rattle.commit.specs.Commitments.{Contents, id_of, transaction_of, htlcs_from, htlc_tx_of}
use Rattle.commit.specs.Signing.{funding_script, commitment_digest, htlc_digest}
use Rattle.publish.specs.Published.{signed_transaction, signed_htlc_of}
use Rattle.publish.specs.Signed.{IsSignedWhere}

-- Commitment 0 of A pays both sides. Commitment 1, its newest, has an HTLC each way too, of 10,000 and 11,000 satoshis.
module _ (terms : Terms) (funding : OutPoint) (hidden : Obscured) (keys : KeyBytes) (hash : List ℕ) where
  abbrev htlc : ℕ → ℕ → Htlc
  htlc amount_msat expiry_height = record { id = 0; amount_msat = amount_msat; hash = hash; expiry_height = expiry_height }

  abbrev contents : List CommitmentOutput → Contents
  contents outputs = record { funding = funding; hidden = hidden; keys = keys; delay_blocks = 144; feerate_per_kw = 1000; outputs = outputs }

  abbrev plain : Contents
  plain = contents (to_remote_output keys 20000 ∷ to_local_output 144 keys 79276 ∷ [])

  abbrev both : Contents
  both = contents (htlc_output keys Offered (htlc 10000000 500) ∷ htlc_output keys Received (htlc 11000000 600) ∷ to_remote_output keys 20000 ∷ to_local_output 144 keys 57932 ∷ [])

  abbrev a : List ℕ
  a = terms.a.bases.funding.bytes

  abbrev b : List ℕ
  b = terms.b.bases.funding.bytes

  -- commitment 0, with two tokens and the funding script above the empty item
  abbrev plain_with : List (List ℕ) → Transaction
  plain_with tokens = record {
    version = 2;
    inputs = record { outpoint = funding; sequence = hidden.sequence; witness = tokens } ∷ [];
    outputs = record { value = 20000; script = key_hash_program keys.remote } ∷ record { value = 79276; script = script_hash_program (to_local_script 144 keys) } ∷ [];
    lock_time = hidden.lock_time;
  }

  -- the lesser funding key's token comes first
  lesser_a : is_lesser b a ≡ false
      → signed_transaction terms plain ≡ (plain_with ([] ∷ token_of a (commitment_digest terms plain) ∷ token_of b (commitment_digest terms plain) ∷ funding_script terms ∷ []))
  unfolding transaction_of
  lesser_a e = rw e refl

  lesser_b : is_lesser b a ≡ true
      → signed_transaction terms plain ≡ (plain_with ([] ∷ token_of b (commitment_digest terms plain) ∷ token_of a (commitment_digest terms plain) ∷ funding_script terms ∷ []))
  unfolding transaction_of
  lesser_b e = rw e refl

  -- the values that each commitment pays
  commitments : map (λ c. map (λ o. o.value) (signed_transaction terms c).outputs) (plain ∷ both ∷ []) ≡ (20000 ∷ 79276 ∷ []) ∷ (10000 ∷ 11000 ∷ 20000 ∷ 57932 ∷ []) ∷ []
  unfolding transaction_of
  commitments = refl

  -- the HTLC transaction of an output, with the item above its signatures
  abbrev second_stage : ℕ → ℕ → ℕ → Direction → Htlc → List ℕ → Transaction
  second_stage index value lock_time direction h item = record {
    version = 2;
    inputs = record {
      outpoint = record { txid = id_of both; index = index };
      sequence = 0;
      witness = [] ∷ token_of keys.remote_htlc (htlc_digest both (record { index = index; direction = direction; htlc = h }))
          ∷ token_of keys.local_htlc (htlc_digest both (record { index = index; direction = direction; htlc = h })) ∷ item ∷ htlc_script keys direction h ∷ [];
    } ∷ [];
    outputs = record { value = value; script = script_hash_program (to_local_script 144 keys) } ∷ [];
    lock_time = lock_time;
  }

  -- HTLC-timeout pays 663 less, has the expiry as its lock time and needs no preimage
  timeout : (preimages : List (List ℕ)) → signed_htlc_of both 0 preimages ≡ Some (second_stage 0 9337 500 Offered (htlc 10000000 500) [])
  unfolding htlcs_from htlc_tx_of
  timeout preimages = refl

  -- HTLC-success pays 703 less, has lock time 0 and shows the first preimage that has the hash
  success : (x y : List ℕ) → bytes_eq (sha256 x) hash ≡ false → bytes_eq (sha256 y) hash ≡ true
      → signed_htlc_of both 1 (x ∷ y ∷ []) ≡ Some (second_stage 1 10297 0 Received (htlc 11000000 600) y)
  unfolding htlcs_from htlc_tx_of
  success x y e f = rw (e, f) refl

  -- none without the preimage, past the last HTLC, and of a commitment with no HTLC
  no_preimage : (x : List ℕ) → bytes_eq (sha256 x) hash ≡ false → map (signed_htlc_of both 1) ([] ∷ (x ∷ []) ∷ []) ≡ None ∷ None ∷ []
  unfolding htlcs_from
  no_preimage x e = rw e refl

  no_htlc : (preimages : List (List ℕ)) → map (λ (c, i). signed_htlc_of c i preimages) ((both, 2) ∷ (plain, 0) ∷ []) ≡ None ∷ None ∷ []
  unfolding htlcs_from
  no_htlc preimages = refl

-- an answer with the right and without it, where a transaction is wanted and where none is
module _ (t : Transaction) where
  abbrev free : Type 0
  free = Unit {0}

  given : IsSignedWhere free (Some t) (Some t)
  given u = (λ e. (tt, e), λ p. p.1)

  kept_back : IsSignedWhere free (Some t) None → ⊥
  kept_back is = let e = (is t).1 (tt, refl) in absurd (cc)

  without_right : IsSignedWhere ⊥ (Some t) None
  without_right u = (λ e. absurd (cc), λ p. absurd (p.0))

  not_without_right : IsSignedWhere ⊥ (Some t) (Some t) → ⊥
  not_without_right is = ((is t).0 refl).0

  nothing : IsSignedWhere free None None
  nothing u = (λ e. absurd (cc), λ p. let e = p.1 in absurd (cc))

  nothing_made_up : IsSignedWhere free None (Some t) → ⊥
  nothing_made_up is = let e = ((is t).0 refl).1 in absurd (cc)
