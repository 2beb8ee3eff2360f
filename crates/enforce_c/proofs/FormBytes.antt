-- The bytes that spell a form's script are those of the form, where no test refuses it.
use Rattle.std.proofs.Common.{◌≡◌, ℕ, ◌<◌, nat_lt, true, false, List, Result, Ok, Err, refl, sym, subst, ◌∙◌}
use Rattle.std.proofs.lemmas.Bool.{lt-ltb}
use Rattle.digest.specs.Hash.{hash160}
use Rattle.digest.specs.Ripemd160.{ripemd160}
use Rattle.script.specs.Token.{is_key}
use Rattle.script.specs.declared.limits.TheConstants.{LOCKTIME_THRESHOLD}
use Rattle.terms.specs.Scripts.{funding, to_local, key_hash, offered, received}
use Rattle.paths.specs.Listing.{CheckedScript}
use Rattle.forms.specs.Forms.{funding_form, to_local_form, key_hash_form, offered_form, received_form}
use Rattle.anchor_forms.specs.Scripts.{offered_with_anchors, received_with_anchors}
use Rattle.anchor_forms.specs.Forms.{offered_with_anchors_form, received_with_anchors_form}
use Rattle.enforce_c.specs.declared.forms_of_c.Form.{Form}
use Rattle.enforce_c.specs.declared.statuses.Refusal.{Refusal}
use Rattle.enforce_c.specs.declared.statuses.Refusal.TheVariants.{NoMemory, NotAKey, NotAHeight}
use Rattle.enforce_c.specs.FormScripts.{funding_of, to_local_of, key_hash_of, htlc_keyed, expiring, offered_of, received_of, offered_with_anchors_of, received_with_anchors_of, IsOf, IsSpelt, IsWritten}

spelt : (rule : Result CheckedScript Refusal) (c : CheckedScript) (r : Result (List ℕ) Refusal) → rule ≡ Ok c → IsWritten c.ops r → IsSpelt rule r
spelt rule c (Ok bytes) is written = (c, is, written)
spelt rule c (Err e) is written = subst (λ x. IsOf rule (Err x)) (sym written) tt

refused : (rule : Result CheckedScript Refusal) (e : Refusal) → rule ≡ Err e → IsSpelt rule (Err e)
refused rule NoMemory is = tt
refused rule e is = is

module _ {A : Type 0} (f : Form) where
  pub first_unkeyed : is_key f.revocation ≡ false → (r : Result A Refusal) → htlc_keyed f r ≡ Err (NotAKey 0)
  first_unkeyed k r = rw k refl

  pub second_unkeyed : is_key f.revocation ≡ true → is_key f.remote ≡ false → (r : Result A Refusal) → htlc_keyed f r ≡ Err (NotAKey 1)
  second_unkeyed k o r = rw (k, o) refl

  pub third_unkeyed : is_key f.revocation ≡ true → is_key f.remote ≡ true → is_key f.local ≡ false → (r : Result A Refusal) → htlc_keyed f r ≡ Err (NotAKey 2)
  third_unkeyed k o l r = rw (k, o, l) refl

  all_keyed : is_key f.revocation ≡ true → is_key f.remote ≡ true → is_key f.local ≡ true → (r : Result A Refusal) → htlc_keyed f r ≡ r
  all_keyed k o l r = rw (k, o, l) refl

  low : (height : ℕ) → height ≡ f.expiry_height → height < LOCKTIME_THRESHOLD → (r : Result A Refusal) → expiring f r ≡ r
  low height same below r =
      let is_height : nat_lt f.expiry_height LOCKTIME_THRESHOLD ≡ true = lt-ltb f.expiry_height LOCKTIME_THRESHOLD (subst (λ n. n < LOCKTIME_THRESHOLD) same below) in
      rw is_height refl

  late : nat_lt f.expiry_height LOCKTIME_THRESHOLD ≡ false → (r : Result A Refusal) → expiring f r ≡ Err NotAHeight
  late high r = rw high refl

module _ (f : Form) (r : Result (List ℕ) Refusal) where
  pub funding_spelt : is_key f.remote ≡ true → is_key f.local ≡ true → IsWritten (funding f.remote f.local) r → IsSpelt (funding_of f) r
  funding_spelt k o = spelt (funding_of f) (funding_form f.remote f.local) r (rw (k, o) refl)

  pub to_local_spelt : is_key f.revocation ≡ true → is_key f.local ≡ true → IsWritten (to_local f.revocation f.delay_blocks f.local) r → IsSpelt (to_local_of f) r
  to_local_spelt k o = spelt (to_local_of f) (to_local_form f.revocation f.delay_blocks f.local) r (rw (k, o) refl)

  pub key_hash_spelt : is_key f.remote ≡ true → IsWritten (key_hash (hash160 f.remote)) r → IsSpelt (key_hash_of f) r
  key_hash_spelt k = spelt (key_hash_of f) (key_hash_form (hash160 f.remote)) r (rw k refl)

  module _ (k : is_key f.revocation ≡ true) (o : is_key f.remote ≡ true) (l : is_key f.local ≡ true) where
    pub offered_spelt : IsWritten (offered (hash160 f.revocation) f.remote f.local (ripemd160 f.payment_hash)) r → IsSpelt (offered_of f) r
    offered_spelt = spelt (offered_of f) (offered_form (hash160 f.revocation) f.remote f.local (ripemd160 f.payment_hash)) r (all_keyed f k o l _)

    pub offered_with_anchors_spelt : IsWritten (offered_with_anchors (hash160 f.revocation) f.remote f.local (ripemd160 f.payment_hash)) r → IsSpelt (offered_with_anchors_of f) r
    offered_with_anchors_spelt = spelt (offered_with_anchors_of f) (offered_with_anchors_form (hash160 f.revocation) f.remote f.local (ripemd160 f.payment_hash)) r (all_keyed f k o l _)

    module _ (height : ℕ) (same : height ≡ f.expiry_height) (below : height < LOCKTIME_THRESHOLD) where
      pub received_spelt : IsWritten (received (hash160 f.revocation) f.remote f.local (ripemd160 f.payment_hash) height) r → IsSpelt (received_of f) r
      received_spelt written =
          let form = received_form (hash160 f.revocation) f.remote f.local (ripemd160 f.payment_hash) f.expiry_height in
          spelt (received_of f) form r (all_keyed f k o l _ ∙ low f height same below _) (subst (λ n. IsWritten (received (hash160 f.revocation) f.remote f.local (ripemd160 f.payment_hash) n) r) same written)

      pub received_with_anchors_spelt : IsWritten (received_with_anchors (hash160 f.revocation) f.remote f.local (ripemd160 f.payment_hash) height) r → IsSpelt (received_with_anchors_of f) r
      received_with_anchors_spelt written =
          let form = received_with_anchors_form (hash160 f.revocation) f.remote f.local (ripemd160 f.payment_hash) f.expiry_height in
          spelt (received_with_anchors_of f) form r (all_keyed f k o l _ ∙ low f height same below _)
          (subst (λ n. IsWritten (received_with_anchors (hash160 f.revocation) f.remote f.local (ripemd160 f.payment_hash) n) r) same written)

-- refused: the keys, and then the expiry
module _ (f : Form) (e : Refusal) (unkeyed : (r : Result CheckedScript Refusal) → htlc_keyed f r ≡ Err e) where
  pub offered_unkeyed : IsSpelt (offered_of f) (Err e)
  offered_unkeyed = refused (offered_of f) e (unkeyed _)

  pub offered_with_anchors_unkeyed : IsSpelt (offered_with_anchors_of f) (Err e)
  offered_with_anchors_unkeyed = refused (offered_with_anchors_of f) e (unkeyed _)

  pub received_unkeyed : IsSpelt (received_of f) (Err e)
  received_unkeyed = refused (received_of f) e (unkeyed _)

  pub received_with_anchors_unkeyed : IsSpelt (received_with_anchors_of f) (Err e)
  received_with_anchors_unkeyed = refused (received_with_anchors_of f) e (unkeyed _)

module _ (f : Form) (k : is_key f.revocation ≡ true) (o : is_key f.remote ≡ true) (l : is_key f.local ≡ true) (high : nat_lt f.expiry_height LOCKTIME_THRESHOLD ≡ false) where
  pub received_late : IsSpelt (received_of f) (Err NotAHeight)
  received_late = refused (received_of f) NotAHeight (all_keyed f k o l _ ∙ late f high _)

  pub received_with_anchors_late : IsSpelt (received_with_anchors_of f) (Err NotAHeight)
  received_with_anchors_late = refused (received_with_anchors_of f) NotAHeight (all_keyed f k o l _ ∙ late f high _)
