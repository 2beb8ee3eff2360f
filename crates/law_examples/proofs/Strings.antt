-- Whose base keys are hashed for a commitment: for its revocation key and its HTLC key those of its owner's peer (BOLT 3, "Key Derivation"). The owner's, where they are others, are hashed for neither.
use Rattle.std.proofs.Common.{◌≡◌, ◌≢◌, ℕ, ◌≤◌, ◌%◌, List, [], ◌∷◌, ◌++◌, length, codes, sym, ap, ◌∙◌, refl, ⊎_elim, inl, inr, arith, length-append}
use Rattle.std.specs.Prelude.{◌⊎◌}
use Rattle.tx.specs.Fields.{Transaction}
use Rattle.tx.specs.Spelling.{number, stripped_spelling}
use Rattle.keys.specs.declared.compressed.Key.{Key}
use Rattle.terms.specs.declared.agreement.BaseKeys.{BaseKeys}
use Rattle.terms.specs.declared.agreement.Terms.{Terms}
use Rattle.terms.specs.declared.htlcs.Htlc.{Htlc}
use Rattle.terms.specs.declared.sides.Side.TheVariants.{A, B}
use Rattle.terms.specs.Agreement.{party}
use Rattle.terms.specs.Sides.{other}
use Rattle.forms.proofs.Forms.{key_length}
use Rattle.commit.specs.declared.fees.Direction.{Direction}
use Rattle.commit.specs.declared.fees.Direction.TheVariants.{Offered, Received}
use Rattle.commit.specs.Outputs.{to_local_script, htlc_script}
use Rattle.commit.specs.Commitments.{transaction_of, htlc_tx_of}
use Rattle.channel.specs.declared.commitments.CommitmentState.{CommitmentState}
use Rattle.channel.specs.Tokens.{contents_of}
use Rattle.safety.specs.Recorded.{IsOfCommitment, of_commitment, of_htlc}
use Rattle.safety.specs.Strings.{IsHashedForCommitment, of_transaction, of_to_local, of_htlc_script, of_payment_key, of_revocation_key, of_htlc_key}
use Rattle.safety.specs.Breaks.{IsHashedForId, IsHashedForKey}
use Rattle.safety.proofs.Handed.{remote_good}
use Rattle.safety.proofs.Scripts.{tagged}

-- the letters of "revoke" and of "derive", a base key and a point
abbrev revoke : Key → Key → List ℕ
revoke base point = 0x72 ∷ 0x65 ∷ 0x76 ∷ 0x6f ∷ 0x6b ∷ 0x65 ∷ (base.bytes ++ point.bytes)

abbrev derive : Key → Key → List ℕ
derive base point = 0x64 ∷ 0x65 ∷ 0x72 ∷ 0x69 ∷ 0x76 ∷ 0x65 ∷ (base.bytes ++ point.bytes)

abbrev first_of : List ℕ → ℕ
first_of [] = 0
first_of (x ∷ xs) = x

key_size : (key : Key) → length key.bytes ≡ 33
key_size key = key_length key.bytes key.form

-- ---- those of the owner's peer

abbrev of_a : CommitmentState → CommitmentState
of_a k = record k { owner = A }

abbrev of_b : CommitmentState → CommitmentState
of_b k = record k { owner = B }

module _ (terms : Terms) (k : CommitmentState) where
  -- yes: IsHashedForCommitment
  b_revokes_for_a : IsHashedForCommitment terms (of_a k) (revoke terms.b.bases.revocation k.point)
  b_revokes_for_a = of_revocation_key refl

  -- yes: IsHashedForCommitment
  a_revokes_for_b : IsHashedForCommitment terms (of_b k) (revoke terms.a.bases.revocation k.point)
  a_revokes_for_b = of_revocation_key refl

  -- yes: IsHashedForCommitment
  b_derives_for_a : IsHashedForCommitment terms (of_a k) (derive terms.b.bases.htlc k.point)
  b_derives_for_a = of_htlc_key refl

  -- yes: IsHashedForCommitment
  a_derives_for_b : IsHashedForCommitment terms (of_b k) (derive terms.a.bases.htlc k.point)
  a_derives_for_b = of_htlc_key refl

-- ---- which string of these letters is hashed

module _ (terms : Terms) (k : CommitmentState) where
  abbrev peers : BaseKeys
  peers = (party (other k.owner) terms).bases

  abbrev revocation_string : List ℕ
  revocation_string = codes "revoke" ++ peers.revocation.bytes ++ k.point.bytes

  abbrev htlc_string : List ℕ
  htlc_string = codes "derive" ++ peers.htlc.bytes ++ k.point.bytes

  version_is : (t : Transaction) → IsOfCommitment (contents_of terms k) t → t.version ≡ 2
  unfolding transaction_of htlc_tx_of
  version_is t (of_commitment e) = ap (λ (u : Transaction). u.version) e
  version_is t (of_htlc h i e) = ap (λ (u : Transaction). u.version) e

  spelt_first : (t : Transaction) → first_of (stripped_spelling t) ≡ t.version % 256
  unfolding stripped_spelling number
  spelt_first t = refl

  htlc_first : (direction : Direction) (htlc : Htlc) → first_of (htlc_script (contents_of terms k).keys direction htlc) ≡ 0x76
  unfolding htlc_script
  htlc_first Offered htlc = refl
  htlc_first Received htlc = refl

  -- transactions begin with their version, scripts with OP_IF or OP_DUP, and a payment key has 33 bytes
  keyed : (bytes : List ℕ) → length bytes ≡ 72 → 0x64 ≤ first_of bytes → first_of bytes ≤ 0x72 → IsHashedForCommitment terms k bytes → (bytes ≡ revocation_string) ⊎ (bytes ≡ htlc_string)
  unfolding to_local_script
  keyed bytes size low high (of_transaction t i e) = let v = version_is t i in let f : first_of bytes ≡ t.version % 256 = ap first_of e ∙ spelt_first t in absurd (omega (arith, low, v, f))
  keyed bytes size low high (of_to_local e) = let f : first_of bytes ≡ 0x63 = ap first_of e in absurd (omega (arith, low, f))
  keyed bytes size low high (of_htlc_script h i e) = let f : first_of bytes ≡ 0x76 = ap first_of e ∙ htlc_first h.direction h.htlc in absurd (omega (arith, high, f))
  keyed bytes size low high (of_payment_key e) = let n = key_length _ (remote_good terms k) in let l = ap length e in absurd (omega (arith, size, n, l))
  keyed bytes size low high (of_revocation_key e) = inl e
  keyed bytes size low high (of_htlc_key e) = inr e

  -- no: IsHashedForId
  id_of_nothing_else : (bytes : List ℕ) → first_of bytes ≡ 0x64 → IsHashedForId terms k bytes → ⊥
  id_of_nothing_else bytes low i = let v = version_is i.0 i.1 in let f : first_of bytes ≡ i.0.version % 256 = ap first_of i.2 ∙ spelt_first i.0 in omega (arith, low, v, f)

  -- yes: IsHashedForId
  its_own_id : IsHashedForId terms k (stripped_spelling (transaction_of (contents_of terms k)))
  its_own_id = (transaction_of (contents_of terms k), of_commitment refl, refl)

  -- yes: IsHashedForKey
  its_revocation_key : IsHashedForKey terms k revocation_string
  its_revocation_key = inl refl

  -- yes: IsHashedForKey
  its_htlc_key : IsHashedForKey terms k htlc_string
  its_htlc_key = inr refl

  -- what is hashed for a key is hashed for the commitment
  as_string : (bytes : List ℕ) → IsHashedForKey terms k bytes → IsHashedForCommitment terms k bytes
  as_string bytes (inl e) = of_revocation_key e
  as_string bytes (inr e) = of_htlc_key e

  revoke_size : (base : Key) → length (revoke base k.point) ≡ 72
  revoke_size base = let m = key_size base in let n = key_size k.point in simp length-append (omega (arith, m, n))

  derive_size : (base : Key) → length (derive base k.point) ≡ 72
  derive_size base = let m = key_size base in let n = key_size k.point in simp length-append (omega (arith, m, n))

  same_size : (base key : Key) → length base.bytes ≡ length key.bytes
  same_size base key = key_size base ∙ sym (key_size key)

  revocation_is : (base : Key) → IsHashedForCommitment terms k (revoke base k.point) → base.bytes ≡ peers.revocation.bytes
  revocation_is base h =
      ⊎_elim {C = base.bytes ≡ peers.revocation.bytes}
      (λ (e : revoke base k.point ≡ revocation_string). tagged (codes "revoke") base.bytes peers.revocation.bytes k.point.bytes k.point.bytes (same_size base peers.revocation) e)
      (λ (e : revoke base k.point ≡ htlc_string). let f : 0x72 ≡ 0x64 = ap first_of e in absurd (omega (arith, f)))
      (keyed (revoke base k.point) (revoke_size base) (omega arith) (omega arith) h)

  htlc_is : (base : Key) → IsHashedForCommitment terms k (derive base k.point) → base.bytes ≡ peers.htlc.bytes
  htlc_is base h =
      ⊎_elim {C = base.bytes ≡ peers.htlc.bytes}
      (λ (e : derive base k.point ≡ revocation_string). let f : 0x64 ≡ 0x72 = ap first_of e in absurd (omega (arith, f)))
      (λ (e : derive base k.point ≡ htlc_string). tagged (codes "derive") base.bytes peers.htlc.bytes k.point.bytes k.point.bytes (same_size base peers.htlc) e)
      (keyed (derive base k.point) (derive_size base) (omega arith) (omega arith) h)

-- ---- none of the owner's

module _ (terms : Terms) (k : CommitmentState) where
  module _ (unlike : terms.a.bases.revocation.bytes ≢ terms.b.bases.revocation.bytes) where
    -- no: IsHashedForKey
    a_revokes_no_key_of_its_own : IsHashedForKey terms (of_a k) (revoke terms.a.bases.revocation k.point) → ⊥
    a_revokes_no_key_of_its_own h = unlike (revocation_is terms (of_a k) terms.a.bases.revocation (as_string terms (of_a k) (revoke terms.a.bases.revocation k.point) h))

    -- no: IsHashedForCommitment
    a_revokes_none_of_its_own : IsHashedForCommitment terms (of_a k) (revoke terms.a.bases.revocation k.point) → ⊥
    a_revokes_none_of_its_own h = unlike (revocation_is terms (of_a k) terms.a.bases.revocation h)

    -- no: IsHashedForCommitment
    b_revokes_none_of_its_own : IsHashedForCommitment terms (of_b k) (revoke terms.b.bases.revocation k.point) → ⊥
    b_revokes_none_of_its_own h = unlike (sym (revocation_is terms (of_b k) terms.b.bases.revocation h))

  module _ (unlike : terms.a.bases.htlc.bytes ≢ terms.b.bases.htlc.bytes) where
    -- no: IsHashedForCommitment
    a_derives_none_of_its_own : IsHashedForCommitment terms (of_a k) (derive terms.a.bases.htlc k.point) → ⊥
    a_derives_none_of_its_own h = unlike (htlc_is terms (of_a k) terms.a.bases.htlc h)

    -- no: IsHashedForCommitment
    b_derives_none_of_its_own : IsHashedForCommitment terms (of_b k) (derive terms.b.bases.htlc k.point) → ⊥
    b_derives_none_of_its_own h = unlike (sym (htlc_is terms (of_b k) terms.b.bases.htlc h))
