-- The verdict on each commitment that may close a channel.
use Rattle.std.proofs.Common.{◌≡◌, ℕ, ◌+◌, Bool, true, false, List, Option, Some, None, sym, ap, ◌∙◌, refl, inl, inr, ⊎_elim, arith}
use Rattle.std.specs.Prelude.{◌⊎◌, slice_get}
use Rattle.std.proofs.lemmas.Slice.Eq.{bytes_eq-Decides}
use Rattle.digest.specs.Hash.{sha256d, Collide}
use Rattle.tx.specs.Fields.{Transaction, KeepsLimits, unsigned_transaction}
use Rattle.tx.specs.Spelling.{stripped_spelling, transaction_id}
use Rattle.tx.proofs.Witnesses.{same_id}
use Rattle.commit.specs.Commitments.{Contents, transaction_of, id_of}
use Rattle.resolve.specs.declared.verdicts.Verdict.TheVariants.{Ours, Theirs, TheirsNext, Revoked}
use Rattle.resolve.specs.declared.known.Known.{Known}
use Rattle.watch.specs.Verdicts.{is_of, is_of_next, verdict_of}
use Rattle.watch.specs.Finding.{RevokedAreFound}
use Rattle.channel.specs.declared.commitments.CommitmentState.{CommitmentState}
use Rattle.channel.specs.Tokens.{contents_of}
use Rattle.worth_laws.specs.Least.{MayClose, revoked, newest, next, own}
use Rattle.safety.specs.Recorded.{IsPayable, of_commitment}
use Rattle.safety.specs.Holdings.{Holding, terms_in, KeepsRules}
use Rattle.safety.proofs.Slots.{same_bytes}
use Rattle.safety.proofs.Lists.{contained}
use Rattle.safety.proofs.Ids.{one_id}
use Rattle.safety.proofs.Recorded.{recorded_limits, same_number}
use Rattle.safety.proofs.Handed.{peers_payable, own_payable}
use Rattle.due_laws.specs.Breaks.{IsOfChannel, own_newest, of_peers, DuesBreak, by_ids}
use Rattle.due_laws.specs.Knowing.{IsKnownTo}
use Rattle.due_laws.specs.Verdicts.{IsJudged, rightly, as_own, broken, ClosersAreJudged}
use Rattle.due_laws.proofs.Known.{own_known, theirs_known, next_known, own_there, signed_there, revoked_known}

-- ---- by the first test that holds

ours : (known : Known) (t : Transaction) → is_of (transaction_id t) known.own.commitment ≡ true → verdict_of known t ≡ Ours
unfolding verdict_of
ours known t e = rw e refl

theirs : (known : Known) (t : Transaction) → is_of (transaction_id t) known.own.commitment ≡ false → is_of (transaction_id t) known.theirs ≡ true → verdict_of known t ≡ Theirs
unfolding verdict_of
theirs known t e f = rw (e, f) refl

theirs_next : (known : Known) (t : Transaction) → is_of (transaction_id t) known.own.commitment ≡ false → is_of (transaction_id t) known.theirs ≡ false → is_of_next (transaction_id t) known.next ≡ true
    → verdict_of known t ≡ TheirsNext
unfolding verdict_of
theirs_next known t e f g = rw (e, f, g) refl

-- ---- ids

bare_is : (c : Contents) → unsigned_transaction (transaction_of c) ≡ transaction_of c
unfolding transaction_of
bare_is c = refl

its_id : (c : Contents) (t : Transaction) → unsigned_transaction t ≡ transaction_of c → transaction_id t ≡ id_of c
its_id c t is = same_id t (transaction_of c) (is ∙ sym (bare_is c))

found : (c : Contents) (t : Transaction) → unsigned_transaction t ≡ transaction_of c → is_of (transaction_id t) c ≡ true
found c t is = (bytes_eq-Decides (id_of c) (transaction_id t)).1 (sym (its_id c t is))

payable : (h : Holding) → KeepsRules h → (k : CommitmentState) → IsOfChannel h.state k → IsPayable (terms_in h) k
payable h kept k (own_newest there) = (own_payable h kept h.state.number k there).payable
payable h kept k (of_peers n there) = (peers_payable h kept n k there).payable

limits : (h : Holding) → KeepsRules h → (k : CommitmentState) → IsOfChannel h.state k → KeepsLimits (transaction_of (contents_of (terms_in h) k))
limits h kept k i = recorded_limits (terms_in h) k (payable h kept k i) (transaction_of (contents_of (terms_in h) k)) (of_commitment refl)

-- another commitment of the channel, by a transaction of one: it has another id, or the same transaction, or strings collide
data IsCompared (h : Holding) (preimages : List (List ℕ)) (t : Transaction) (k m : CommitmentState) : Type 0 where
  another : is_of (transaction_id t) (contents_of (terms_in h) m) ≡ false → IsCompared h preimages t k m
  same : transaction_of (contents_of (terms_in h) m) ≡ transaction_of (contents_of (terms_in h) k) → IsCompared h preimages t k m
  collides : DuesBreak h.state preimages → IsCompared h preimages t k m

compared : (h : Holding) → KeepsRules h → (preimages : List (List ℕ)) (t : Transaction) (k m : CommitmentState) → unsigned_transaction t ≡ transaction_of (contents_of (terms_in h) k) → IsOfChannel h.state k
    → IsOfChannel h.state m → IsCompared h preimages t k m
compared h kept preimages t k m is of_k of_m = by (is_of (transaction_id t) cm) refl
  where
    ck : Contents
    ck = contents_of (terms_in h) k

    cm : Contents
    cm = contents_of (terms_in h) m

    by : (b : Bool) → is_of (transaction_id t) cm ≡ b → IsCompared h preimages t k m
    by false e = another e
    by true e =
        ⊎_elim {C = IsCompared h preimages t k m} (λ (u : unsigned_transaction (transaction_of cm) ≡ unsigned_transaction (transaction_of ck)). same (sym (bare_is cm) ∙ u ∙ bare_is ck))
        (λ (x : Collide sha256d (stripped_spelling (transaction_of cm)) (stripped_spelling (transaction_of ck))).
        collides
        (by_ids
        (record {
          first = stripped_spelling (transaction_of cm);
          second = stripped_spelling (transaction_of ck);
          of_first = record { commitment = m; recorded = of_m; is = refl };
          of_second = record { commitment = k; recorded = of_k; is = refl };
          collide = x;
        })))
        (one_id (transaction_of cm) (transaction_of ck) (limits h kept m of_m) (limits h kept k of_k) (same_bytes (id_of cm) (transaction_id t) e ∙ its_id ck t is))

-- one of another number has another id
apart : (h : Holding) → KeepsRules h → (preimages : List (List ℕ)) (t : Transaction) (k m : CommitmentState) → unsigned_transaction t ≡ transaction_of (contents_of (terms_in h) k) → IsOfChannel h.state k
    → IsOfChannel h.state m → (m.number ≡ k.number → ⊥) → (is_of (transaction_id t) (contents_of (terms_in h) m) ≡ false) ⊎ DuesBreak h.state preimages
apart h kept preimages t k m is of_k of_m differ = by (compared h kept preimages t k m is of_k of_m)
  where
    by : IsCompared h preimages t k m → (is_of (transaction_id t) (contents_of (terms_in h) m) ≡ false) ⊎ DuesBreak h.state preimages
    by (another e) = inl e
    by (same e) = absurd (differ (same_number (terms_in h) m k (payable h kept m of_m).number (payable h kept k of_k).number e))
    by (collides x) = inr x

-- ---- one test after the other

module _ (h : Holding) (kept : KeepsRules h) (known : Known) (w : IsKnownTo h known) where
  past_own : (t : Transaction) (k : CommitmentState) (m : MayClose h.state k) → unsigned_transaction t ≡ transaction_of (contents_of (terms_in h) k) → IsOfChannel h.state k
      → (is_of (transaction_id t) known.own.commitment ≡ false → IsJudged h known t k m) → IsJudged h known t k m
  past_own t k m is of_k then = by (compared h kept known.preimages t k o.0 is of_k (own_newest o.1))
    where
      o : (x : CommitmentState) × (slice_get h.state.mine h.state.number ≡ Some x)
      o = own_there h kept

      by : IsCompared h known.preimages t k o.0 → IsJudged h known t k m
      by (another e) = then (ap (is_of (transaction_id t)) (own_known h known w o.0 o.1) ∙ e)
      by (same e) = as_own o.0 o.1 e (ours known t (ap (is_of (transaction_id t)) (own_known h known w o.0 o.1) ∙ found (contents_of (terms_in h) o.0) t (is ∙ sym e)))
      by (collides x) = broken x

  past_theirs : (t : Transaction) (k : CommitmentState) (m : MayClose h.state k) → unsigned_transaction t ≡ transaction_of (contents_of (terms_in h) k) → IsOfChannel h.state k
      → (h.state.peer_number ≡ k.number → ⊥) → (is_of (transaction_id t) known.theirs ≡ false → IsJudged h known t k m) → IsJudged h known t k m
  past_theirs t k m is of_k differ then =
      let p = signed_there h kept h.state.peer_number (omega arith) in
      let number = (kept.numbered.signed.each h.state.peer_number p.0 p.1).number in
      ⊎_elim {C = IsJudged h known t k m}
      (λ (e : is_of (transaction_id t) (contents_of (terms_in h) p.0) ≡ false). then (ap (is_of (transaction_id t)) (theirs_known h known w p.0 p.1) ∙ e))
      (λ (x : DuesBreak h.state known.preimages). broken x)
      (apart h kept known.preimages t k p.0 is of_k (of_peers h.state.peer_number p.1) (λ e. differ (sym number ∙ e)))

  past_next : (t : Transaction) (k : CommitmentState) (m : MayClose h.state k) → unsigned_transaction t ≡ transaction_of (contents_of (terms_in h) k) → IsOfChannel h.state k
      → (h.state.peer_number + 1 ≡ k.number → ⊥) → (is_of_next (transaction_id t) known.next ≡ false → IsJudged h known t k m) → IsJudged h known t k m
  past_next t k m is of_k differ then = by (slice_get h.state.signed (h.state.peer_number + 1)) refl
    where
      by : (q : Option CommitmentState) → slice_get h.state.signed (h.state.peer_number + 1) ≡ q → IsJudged h known t k m
      by None e = then (ap (is_of_next (transaction_id t)) (next_known h known w None e))
      by (Some q) e =
          let number = (kept.numbered.signed.each (h.state.peer_number + 1) q e).number in
          ⊎_elim {C = IsJudged h known t k m}
          (λ (f : is_of (transaction_id t) (contents_of (terms_in h) q) ≡ false). then (ap (is_of_next (transaction_id t)) (next_known h known w (Some q) e) ∙ f))
          (λ (x : DuesBreak h.state known.preimages). broken x)
          (apart h kept known.preimages t k q is of_k (of_peers (h.state.peer_number + 1) e) (λ f. differ (sym number ∙ f)))

  judged : RevokedAreFound → (t : Transaction) (k : CommitmentState) (m : MayClose h.state k) → unsigned_transaction t ≡ transaction_of (contents_of (terms_in h) k) → IsJudged h known t k m
  judged law t k (own there) is = rightly (ours known t (ap (is_of (transaction_id t)) (own_known h known w k there) ∙ found (contents_of (terms_in h) k) t is))
  judged law t k (newest there) is =
      past_own t k (newest there) is (of_peers h.state.peer_number there)
      (λ a. rightly (theirs known t a (ap (is_of (transaction_id t)) (theirs_known h known w k there) ∙ found (contents_of (terms_in h) k) t is)))
  judged law t k (next e there) is =
      let i : IsOfChannel h.state k = of_peers (h.state.peer_number + 1) there in
      let number = (kept.numbered.signed.each (h.state.peer_number + 1) k there).number in
      past_own t k (next e there) is i
      (λ a.
      past_theirs t k (next e there) is i (λ f. omega (arith, f, number))
      (λ b. rightly (theirs_next known t a b (ap (is_of_next (transaction_id t)) (next_known h known w (Some k) there) ∙ found (contents_of (terms_in h) k) t is))))
  judged law t k (revoked n l there) is =
      let i : IsOfChannel h.state k = of_peers n there in
      let number = (kept.numbered.signed.each n k there).number in
      let r = revoked_known h kept known w n k l there in
      let bound = kept.peer_number in
      let low = r.number in
      past_own t k (revoked n l there) is i
      (λ a.
      past_theirs t k (revoked n l there) is i (λ f. omega (arith, f, number, l))
      (λ b.
      past_next t k (revoked n l there) is i (λ f. omega (arith, f, number, l))
      (λ d.
      rightly
      (law known r.revoked t (record { among = contained known.revoked n r.revoked r.there; numbered = w.numbered; terms = r.terms; number = omega (arith, low, l, bound) }) (is ∙ sym (ap transaction_of r.contents))
      (record { own = a; theirs = b; next = d })
      ∙ ap Revoked r.number))))

pub closers_are_judged : RevokedAreFound → ClosersAreJudged
closers_are_judged law h kept known w t k m is = judged h kept known w law t k m is
