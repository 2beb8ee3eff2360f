-- The forms of all that commitments let be claimed are checked scripts.
use Rattle.std.proofs.Common.{◌≡◌, ℕ, ◌+◌, ◌^◌, ◌<◌, ◌≤◌, true, List, [], ◌∷◌, ◌++◌, length, arith}
use Rattle.std.specs.Prelude.{codes}
use Rattle.std.specs.List.{AllByRecursion}
use Rattle.std.proofs.lemmas.List.Elements.{All-from_recursion, recursion_from_All}
use Rattle.sha2.proofs.Facts256.{length-sha256}
use Rattle.digest.specs.Hash.{hash160}
use Rattle.digest.specs.Ripemd160.{ripemd160}
use Rattle.digest.proofs.OutsideVectors.{length-ripemd160}
use Rattle.script.specs.declared.limits.TheConstants.{LOCKTIME_THRESHOLD}
use Rattle.script.specs.Spelling.{IsOp}
use Rattle.script.specs.Token.{is_key}
use Rattle.keys.specs.Derivation.{derived_key, revocation_key}
use Rattle.terms.specs.declared.htlcs.Htlc.{Htlc}
use Rattle.terms.specs.declared.sides.Side.{Side}
use Rattle.terms.specs.declared.sides.Side.TheVariants.{A, B}
use Rattle.terms.specs.declared.agreement.Terms.{Terms}
use Rattle.terms.specs.declared.views.View.{View}
use Rattle.terms.specs.Agreement.{party}
use Rattle.claim.specs.declared.parts.Place.{Place}
use Rattle.commit.specs.declared.fees.Direction.{Direction}
use Rattle.commit.specs.declared.fees.Direction.TheVariants.{Offered, Received}
use Rattle.commit.specs.declared.outputs.OutputKind.{OutputKind}
use Rattle.commit.specs.declared.outputs.OutputKind.TheVariants.{ToLocal, ToRemote, ToHtlc}
use Rattle.commit.specs.declared.outputs.CommitmentOutput.{CommitmentOutput}
use Rattle.commit.specs.Keys.{KeyBytes, keys_of}
use Rattle.commit.specs.Commitments.{Contents, commitment_of, tx_output, transaction_of}
use Rattle.terms.specs.Scripts.{number_push, to_local, key_hash, offered, received}
use Rattle.forms.specs.Forms.{to_local_form, key_hash_form, offered_form, received_form}
use Rattle.forms.proofs.Pushes.{by_push}
use Rattle.forms.proofs.Forms.{key_length}
use Rattle.forms.proofs.Listed.{to_local-listed, key_hash-listed, offered-listed, received-listed}
use Rattle.penalty.specs.Claimable.{Claimable, place_in, htlc_form, claims_on, claims_by, claims_from}
use Rattle.penalty.specs.Outputs.{HasHeight, IsOutput}
use Rattle.penalty.specs.Paying.{CanPay}
use Rattle.penalty.proofs.Standing.{outputs_stand}
use Rattle.book.specs.Penalties.{claimable_in, IsChecked}

-- ---- opcodes

pushed : (n : ℕ) → n < 2 ^ 32 → IsOp (number_push n)
pushed n h = by_push IsOp n h (λ b short reads. omega (arith, short)) (λ some few reads. (some, few))

-- ---- each form

to_local_checked : (revocation : List ℕ) (delay_blocks : ℕ) (delayed : List ℕ) → delay_blocks < 2 ^ 16 → is_key revocation ≡ true → is_key delayed ≡ true → IsChecked (to_local_form revocation delay_blocks delayed)
to_local_checked revocation delay_blocks delayed h k l =
    let m = key_length revocation k in
    let n = key_length delayed l in
    record {
      each = All-from_recursion IsOp (to_local revocation delay_blocks delayed) (tt, (omega (arith, m), (tt, (pushed delay_blocks (omega arith), (tt, (tt, (omega (arith, n), (tt, (tt, tt)))))))));
      listed = to_local-listed revocation delay_blocks delayed h k l m n;
    }

key_hash_checked : (hash : List ℕ) → length hash ≡ 20 → IsChecked (key_hash_form hash)
key_hash_checked hash n = record {
  each = All-from_recursion IsOp (key_hash hash) (tt, (tt, (omega (arith, n), (tt, (tt, tt)))));
  listed = key_hash-listed hash n;
}

offered_checked : (hash remote local payment : List ℕ) → is_key remote ≡ true → is_key local ≡ true → length hash ≡ 20 → length payment ≡ 20 → IsChecked (offered_form hash remote local payment)
offered_checked hash remote local payment k l r p =
    let m = key_length remote k in
    let n = key_length local l in
    let one : (1 ≤ 2) × (2 ≤ 16) = (omega arith, omega arith) in
    record {
      each = All-from_recursion IsOp (offered hash remote local payment)
          (tt, (tt, (omega (arith, r), (tt, (tt, (tt, (tt, (omega (arith, m), (tt, (tt, (pushed 32 (omega arith), (tt, (tt, (tt, (one, (tt, (omega (arith, n), (one, (tt, (tt, (tt, (omega (arith, p), (tt, (tt, (tt, (tt, tt))))))))))))))))))))))))));
      listed = offered-listed hash remote local payment k l m n r p;
    }

received_checked : (hash remote local payment : List ℕ) (expiry_height : ℕ) → expiry_height < 2 ^ 32 → is_key remote ≡ true → is_key local ≡ true → length hash ≡ 20 → length payment ≡ 20
    → IsChecked (received_form hash remote local payment expiry_height)
received_checked hash remote local payment expiry_height h k l r p =
    let m = key_length remote k in
    let n = key_length local l in
    let one : (1 ≤ 2) × (2 ≤ 16) = (omega arith, omega arith) in
    record {
      each = All-from_recursion IsOp (received hash remote local payment expiry_height)
          (tt, (tt, (omega (arith, r), (tt, (tt, (tt, (tt, (omega (arith, m), (tt, (tt, (pushed 32 (omega arith), (tt, (tt, (tt, (omega (arith, p), (tt, (one, (tt, (omega (arith, n), (one, (tt, (tt, (tt, (pushed expiry_height h, (tt, (tt, (tt, (tt, (tt, tt)))))))))))))))))))))))))))));
      listed = received-listed hash remote local payment expiry_height h k l m n r p;
    }

-- ---- the keys of a commitment

record AreKeys (k : KeyBytes) : Type 0 where
  revocation : is_key k.revocation ≡ true
  delayed : is_key k.delayed ≡ true
  local_htlc : is_key k.local_htlc ≡ true
  remote_htlc : is_key k.remote_htlc ≡ true

pub derived_form : (base point : List ℕ) → is_key (derived_key base point) ≡ true
unfolding is_key derived_key
derived_form base point = let h = length-sha256 (codes "derive" ++ base ++ point) in cc

revocation_form : (base point : List ℕ) → is_key (revocation_key base point) ≡ true
unfolding is_key revocation_key
revocation_form base point = let h = length-sha256 (codes "revoke" ++ base ++ point) in cc

are_keys : (terms : Terms) (owner : Side) (point : List ℕ) → AreKeys (keys_of terms owner point)
unfolding keys_of
are_keys terms owner point = record { revocation = revocation_form _ point; delayed = derived_form _ point; local_htlc = derived_form _ point; remote_htlc = derived_form _ point }

-- ---- what a commitment lets claim

abbrev AreForms : List Claimable → Type 0
AreForms os = AllByRecursion (λ o. IsChecked o.form) os

htlc_checked : (k : KeyBytes) → AreKeys k → (d : Direction) (h : Htlc) → h.expiry_height < LOCKTIME_THRESHOLD → IsChecked (htlc_form k d h)
htlc_checked k keys Offered h low = offered_checked (hash160 k.revocation) k.remote_htlc k.local_htlc (ripemd160 h.hash) keys.remote_htlc keys.local_htlc (length-ripemd160 _) (length-ripemd160 _)
htlc_checked k keys Received h low =
    received_checked (hash160 k.revocation) k.remote_htlc k.local_htlc (ripemd160 h.hash) h.expiry_height (omega (arith, low)) keys.remote_htlc keys.local_htlc (length-ripemd160 _) (length-ripemd160 _)

forms_on : (c : Contents) → AreKeys c.keys → c.delay_blocks < 2 ^ 16 → (index : ℕ) (place : Place) (kind : OutputKind) → HasHeight kind → AreForms (claims_on c index place kind)
forms_on c keys short index place ToLocal low = (to_local_checked c.keys.revocation c.delay_blocks c.keys.delayed short keys.revocation keys.delayed, tt)
forms_on c keys short index place ToRemote low = (key_hash_checked (hash160 c.keys.remote) (length-ripemd160 _), tt)
forms_on c keys short index place (ToHtlc d h) low =
    (htlc_checked c.keys keys d h low, (to_local_checked c.keys.revocation c.delay_blocks c.keys.delayed short keys.revocation keys.delayed, tt))

forms_append : (os ps : List Claimable) → AreForms os → AreForms ps → AreForms (os ++ ps)
forms_append [] ps a b = b
forms_append (o ∷ os) ps a b = (a.0, forms_append os ps a.1 b)

forms_from : (c : Contents) → AreKeys c.keys → c.delay_blocks < 2 ^ 16 → (index : ℕ) (os : List CommitmentOutput) → AllByRecursion (λ o. IsOutput c.delay_blocks c.keys o) os → AreForms (claims_from c index os)
unfolding claims_by
forms_from c keys short index [] h = tt
forms_from c keys short index (o ∷ os) h =
    forms_append _ _ (forms_on c keys short index (place_in (transaction_of c) index (tx_output o)) o.kind h.0.height) (forms_from c keys short (index + 1) os h.1)

keys_in : (terms : Terms) (view : View) (owner : Side) (number : ℕ) (point : List ℕ) → AreKeys (commitment_of terms view owner number point).keys
unfolding commitment_of
keys_in terms view owner number point = are_keys terms owner point

-- a side's delay is below 2^16, by the type of terms
short_delay : (terms : Terms) (side : Side) → (party side terms).delay_blocks < 2 ^ 16
short_delay terms A = terms.short_a
short_delay terms B = terms.short_b

delay_in : (terms : Terms) (view : View) (owner : Side) (number : ℕ) (point : List ℕ) → (commitment_of terms view owner number point).delay_blocks < 2 ^ 16
unfolding commitment_of
delay_in terms view owner number point = short_delay terms owner

pub forms_are_checked : (terms : Terms) (view : View) (owner : Side) (number : ℕ) (point : List ℕ) → CanPay terms view
    → AllByRecursion (λ o. IsChecked o.form) (claimable_in (commitment_of terms view owner number point))
unfolding claimable_in
forms_are_checked terms view owner number point pays =
    let c = commitment_of terms view owner number point in
    forms_from c (keys_in terms view owner number point) (delay_in terms view owner number point) 0 c.outputs
    (recursion_from_All (λ o. IsOutput c.delay_blocks c.keys o) c.outputs (outputs_stand terms view owner number point pays).each)
