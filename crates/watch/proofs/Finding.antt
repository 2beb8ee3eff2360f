-- A revoked commitment's transaction is found by its number, and its verdict names its id.
use Rattle.std.proofs.Common.{◌≡◌, ℕ, ◌^◌, ◌<◌, ◌==◌, Bool, true, false, cond, List, [], ◌∷◌, length, Option, Some, None, refl, sym, ap, ◌∙◌, eq-eqb, arith}
use Rattle.std.specs.Prelude.{slice_get, Contains}
use Rattle.std.proofs.lemmas.Bool.{eqb-true}
use Rattle.std.proofs.lemmas.Option.{slice_get_read, slice_get_within, get_or_from_slice_get}
use Rattle.std.proofs.lemmas.Slice.Eq.{bytes_eq-Decides}
use Rattle.sha2.specs.Sha256.{sha256, digest_bytes, final_hash, initial_hash_256}
use Rattle.tx.specs.declared.input.TxIn.{TxIn}
use Rattle.tx.specs.Fields.{Transaction, unsigned_inputs, unsigned_transaction, same_outpoint}
use Rattle.tx.specs.Spelling.{transaction_id}
use Rattle.tx.proofs.Witnesses.{same_id}
use Rattle.terms.specs.declared.agreement.Terms.{Terms}
use Rattle.terms.specs.Numbers.{low_48_bits, mask_of, obscured, revealed}
use Rattle.terms.proofs.Revealing.{numbers_come_back}
use Rattle.chain.proofs.Noting.{itself}
use Rattle.commit.specs.Commitments.{Contents, commitment_of, transaction_of, id_of}
use Rattle.penalty.specs.Claimable.{commitment_in}
use Rattle.resolve.specs.declared.verdicts.Verdict.{Verdict}
use Rattle.resolve.specs.declared.verdicts.Verdict.TheVariants.{Ours, Theirs, TheirsNext, Revoked, Unknown}
use Rattle.resolve.specs.declared.known.RevokedCommitment.{RevokedCommitment}
use Rattle.resolve.specs.declared.known.Known.{Known}
use Rattle.resolve.specs.Due.{if_number}
use Rattle.resolve.specs.Numbered.{AreNumbered}
use Rattle.watch.specs.Verdicts.{number_by, number_in, is_of, is_of_next, revoked_if, revoked_by, verdict_of}
use Rattle.watch.specs.Finding.{IsTransactionOf, RevokedAreFound, HasIdOf, OnlyRevokedAreFound}

-- a mask has 48 bits
low_of_words : (words : List ℕ) → low_48_bits (digest_bytes words 8) < 2 ^ 48
unfolding digest_bytes
low_of_words words = omega arith

low_of_hash : (message : List ℕ) → low_48_bits (sha256 message) < 2 ^ 48
unfolding sha256
low_of_hash message = low_of_words (final_hash initial_hash_256 message)

mask_is_low : (terms : Terms) → mask_of terms < 2 ^ 48
unfolding mask_of
mask_is_low terms = low_of_hash _

-- the number that a commitment transaction of the terms carries, signed or not
revealed_if : (terms : Terms) (lock_time n : ℕ) (i : TxIn) → i.outpoint ≡ terms.funding → lock_time ≡ (obscured (mask_of terms) n).lock_time → i.sequence ≡ (obscured (mask_of terms) n).sequence → n < 2 ^ 48
    → number_by terms lock_time (i ∷ []) ≡ Some n
revealed_if terms lock_time n i spent lock sequence l =
    ap (λ b. cond b (revealed (mask_of terms) lock_time i.sequence) None) (ap (λ o. same_outpoint o terms.funding) spent ∙ itself terms.funding)
    ∙ ap (λ x. revealed (mask_of terms) x i.sequence) lock ∙ ap (λ x. revealed (mask_of terms) (obscured (mask_of terms) n).lock_time x) sequence
    ∙ numbers_come_back (mask_of terms) n (mask_is_low terms) l

abbrev bare : Contents → TxIn
bare c = record { outpoint = c.funding; sequence = c.hidden.sequence; witness = [] }

carried : (terms : Terms) (c : Contents) (lock_time n : ℕ) (inputs : List TxIn) → unsigned_inputs inputs ≡ bare c ∷ [] → lock_time ≡ c.hidden.lock_time → c.funding ≡ terms.funding
    → c.hidden ≡ obscured (mask_of terms) n → n < 2 ^ 48 → number_by terms lock_time inputs ≡ Some n
carried terms c lock_time n [] e lock spent h l = absurd (cc)
carried terms c lock_time n (i ∷ []) e lock spent h l =
    let same : record { outpoint = i.outpoint; sequence = i.sequence; witness = [] } ≡ bare c = (cc) in
    revealed_if terms lock_time n i (ap (λ (x : TxIn). x.outpoint) same ∙ spent) (lock ∙ ap (λ o. o.lock_time) h) (ap (λ (x : TxIn). x.sequence) same ∙ ap (λ o. o.sequence) h) l
carried terms c lock_time n (i ∷ j ∷ is) e lock spent h l = absurd (cc)

number_is : (terms : Terms) (r : RevokedCommitment) (t : Transaction) → r.state.terms ≡ terms → r.state.number < 2 ^ 48 → IsTransactionOf r t → number_in terms t ≡ Some r.state.number
unfolding transaction_of commitment_of
number_is terms r t e l is =
    carried terms (commitment_in r.state) t.lock_time r.state.number t.inputs (ap (λ (u : Transaction). u.inputs) is) (ap (λ (u : Transaction). u.lock_time) is)
    (ap (λ (x : Terms). x.funding) e) (ap (λ (x : Terms). obscured (mask_of x) r.state.number) e) l

-- its id
bare_is : (c : Contents) → unsigned_transaction (transaction_of c) ≡ transaction_of c
unfolding transaction_of
bare_is c = refl

id_is : (r : RevokedCommitment) (t : Transaction) → IsTransactionOf r t → is_of (transaction_id t) (commitment_in r.state) ≡ true
id_is r t is =
    let same : transaction_id t ≡ id_of (commitment_in r.state) = same_id t (transaction_of (commitment_in r.state)) (is ∙ sym (bare_is (commitment_in r.state))) in
    (bytes_eq-Decides (id_of (commitment_in r.state)) (transaction_id t)).1 (sym same)

-- where it stands
stands : (rs : List RevokedCommitment) (r : RevokedCommitment) → AreNumbered rs → Contains rs r → if_number r.state.number (slice_get rs r.state.number) ≡ Some r
stands rs r numbered (k, l, e) =
    let here : slice_get rs k ≡ Some r = slice_get_read rs (length rs) k r refl l (sym e) in
    let there : slice_get rs r.state.number ≡ Some r = ap (slice_get rs) (numbered k r here) ∙ here in
    ap (if_number r.state.number) there ∙ ap (λ b. cond b (Some r) None) (eq-eqb r.state.number r.state.number refl)

pub revoked_are_found : RevokedAreFound
unfolding verdict_of
revoked_are_found known r t k is newer =
    rw (newer.own, newer.theirs, newer.next)
    (ap (revoked_by known (transaction_id t)) (number_is known.terms r t k.terms (let l = k.number in omega (arith, l)) is)
    ∙ ap (revoked_if (transaction_id t) r.state.number) (stands known.revoked r k.numbered k.among)
    ∙ ap (λ b. cond b (Revoked r.state.number) Unknown) (id_is r t is))

-- a verdict is none of the newer ones
none_newer : (a b c : Bool) (v : Verdict) (n : ℕ) → cond a Ours (cond b Theirs (cond c TheirsNext v)) ≡ Revoked n → (a ≡ false) × (b ≡ false) × (c ≡ false) × (v ≡ Revoked n)
none_newer true b c v n e = absurd (cc)
none_newer false true c v n e = absurd (cc)
none_newer false false true v n e = absurd (cc)
none_newer false false false v n e = (refl, refl, refl, e)

of_id : (known : Known) (t : Transaction) (m n : ℕ) (r : RevokedCommitment) (b : Bool) → slice_get known.revoked m ≡ Some r → r.state.number ≡ m → is_of (transaction_id t) (commitment_in r.state) ≡ b
    → cond b (Revoked m) Unknown ≡ Revoked n → HasIdOf known t n
of_id known t m n r false e i o v = absurd (cc)
of_id known t m n r true e i o v = record {
  revoked = r;
  among = (m, slice_get_within known.revoked m r e, get_or_from_slice_get known.revoked m r r e);
  number = i ∙ (cc);
  id = sym ((bytes_eq-Decides (id_of (commitment_in r.state)) (transaction_id t)).0 o);
}

of_number : (known : Known) (t : Transaction) (m n : ℕ) (r : RevokedCommitment) (b : Bool) → slice_get known.revoked m ≡ Some r → (r.state.number == m) ≡ b
    → revoked_if (transaction_id t) m (cond b (Some r) None) ≡ Revoked n → HasIdOf known t n
of_number known t m n r false e i v = absurd (cc)
of_number known t m n r true e i v = of_id known t m n r (is_of (transaction_id t) (commitment_in r.state)) e (eqb-true r.state.number m i) refl v

of_place : (known : Known) (t : Transaction) (m n : ℕ) (o : Option RevokedCommitment) → slice_get known.revoked m ≡ o → revoked_if (transaction_id t) m (if_number m o) ≡ Revoked n → HasIdOf known t n
of_place known t m n None e v = absurd (cc)
of_place known t m n (Some r) e v = of_number known t m n r (r.state.number == m) e refl v

of_carried : (known : Known) (t : Transaction) (n : ℕ) (o : Option ℕ) → revoked_by known (transaction_id t) o ≡ Revoked n → HasIdOf known t n
of_carried known t n None v = absurd (cc)
of_carried known t n (Some m) v = of_place known t m n (slice_get known.revoked m) refl v

pub only_revoked_are_found : OnlyRevokedAreFound
unfolding verdict_of
only_revoked_are_found known t n v =
    let parts = none_newer (is_of (transaction_id t) known.own.commitment) (is_of (transaction_id t) known.theirs) (is_of_next (transaction_id t) known.next) (revoked_by known (transaction_id t) (number_in known.terms t)) n v in
    record {
      one = of_carried known t n (number_in known.terms t) parts.3;
      oldest = record { own = parts.0; theirs = parts.1; next = parts.2 };
    }
