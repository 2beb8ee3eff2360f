-- What is kept of pending HTLCs, over calls and messages.
use Rattle.std.proofs.Common.{◌≡◌, ℕ, ◌+◌, ◌≤◌, List, [], ◌∷◌, ◌++◌, length, filter, sym, ap, ◌∙◌, refl, arith, length-append}
use Rattle.std.proofs.lemmas.Bool.{eqb-true, not-false}
use Rattle.terms.specs.declared.sides.Side.{Side}
use Rattle.terms.specs.declared.agreement.Terms.{Terms}
use Rattle.terms.specs.declared.htlcs.Htlc.{Htlc}
use Rattle.updates.specs.declared.changes.Update.{Update}
use Rattle.updates.specs.declared.changes.Update.TheVariants.{Add, Fulfil, Fail, Fee}
use Rattle.updates.specs.declared.fates.Fate.{Fate}
use Rattle.updates.specs.declared.fates.Fate.TheVariants.{Live, Fulfilled, Failed}
use Rattle.updates.specs.declared.fates.End.TheVariants.{Never}
use Rattle.updates.specs.declared.pending.Pending.{Pending}
use Rattle.updates.specs.Updates.{first_of_fates, fate_by, fate, offers, offer_of, if_fulfilled, spent_msat, gained_msat, pending_msat}
use Rattle.updates.specs.Ends.{end_from, end_of}
use Rattle.updates.specs.Views.{start_msat_of}
use Rattle.updates.specs.Stages.{Stages, with_update}
use Rattle.updates.specs.Refusals.{add_tests, fulfil_tests, fail_tests, update_tests, removable}
use Rattle.updates.specs.Pending.{pending_htlcs, total_amount_msat, fulfilled_at, found_in, is_left, noted_all, new_pending, IsGrown, IsNoted, IsAlike, IsBounded, IsKept, kept_tests}
use Rattle.updates.specs.Steady.{InOrder, IsBeginning, IsFair}
use Rattle.updates.proofs.Sums.{begins, offers-append, gained-append, spent_is, fate-append}
use Rattle.updates.proofs.Accepting.{AllPass}
use Rattle.updates.proofs.Funds.{settled_known}
use Rattle.updates.proofs.Keeping.{length_pending, amount_pending, pending-append, pending_noted, length_noted, pending_left, fulfilled_in_part, found_in_part}

-- of an empty direction
pub kept_none : (p : Pending) (s o : Stages) → s.known ≡ [] → p.offered ≡ 0 → p.fulfilled ≡ 0 → p.htlcs.items ≡ [] → IsKept p s o
kept_none p s o e a b c = record {
  offered = a ∙ ap (λ us. length (offers us)) (sym e);
  fulfilled = b ∙ ap (λ us. gained_msat o.settled us) (sym e);
  htlcs = c ∙ ap (λ us. pending_htlcs 0 us o.known o.settled) (sym e);
  bound = rw (b, c) (omega arith);
}

same_tests : (terms : Terms) (by : Side) (h : Htlc) (a b c d a' b' c' d' : ℕ) → a ≡ a' → b ≡ b' → c ≡ c' → d ≡ d' → add_tests terms by a b c d h ≡ add_tests terms by a' b' c' d' h
same_tests terms by h a b c d a' b' c' d' e f g i =
    ap (λ n. add_tests terms by n b c d h) e ∙ ap (λ n. add_tests terms by a' n c d h) f ∙ ap (λ n. add_tests terms by a' b' n d h) g ∙ ap (λ n. add_tests terms by a' b' c' n h) i

same_found : (id : ℕ) (q : Pending) (s o : Stages) → InOrder s → InOrder o → IsKept q o s
    → found_in id (length o.settled) (length s.known) q.htlcs.items ≡ removable (fate id s.known) (offer_of id (offers o.settled))
same_found id q s o so oo m = ap (found_in id (length o.settled) (length s.known)) m.htlcs ∙ sym (found_in_part id o.settled o.known s.known s.settled (settled_known o oo) (settled_known s so))

-- the tests by what is kept are those by the lists
pub tests_kept : (terms : Terms) (by : Side) (p q : Pending) (s o : Stages) (u : Update) → InOrder s → InOrder o → IsKept p s o → IsKept q o s
    → kept_tests terms by p q (length o.settled) (length s.known) u ≡ update_tests terms by s o u
tests_kept terms by p q s o (Add h) so oo k m =
    same_tests terms by h _ _ _ _ _ _ _ _ k.offered (ap length k.htlcs ∙ length_pending 0 s.known o.known o.settled) (ap (λ n. start_msat_of by terms + n) m.fulfilled) (out_is k)
  where
    out_is : IsKept p s o → p.fulfilled + total_amount_msat p.htlcs.items ≡ spent_msat s.known o.settled
    out_is k =
        let a = k.fulfilled in
        let b : total_amount_msat p.htlcs.items ≡ pending_msat s.known o.settled = ap total_amount_msat k.htlcs ∙ amount_pending 0 s.known o.known o.settled in
        let c = spent_is s.known o.settled in
        omega (arith, a, b, c)
tests_kept terms by p q s o (Fulfil id preimage) so oo k m = ap (λ f. fulfil_tests f preimage) (same_found id q s o so oo m)
tests_kept terms by p q s o (Fail id) so oo k m = ap fail_tests (same_found id q s o so oo m)
tests_kept terms by p q s o (Fee feerate_per_kw) so oo k m = refl

-- an HTLC that nobody removed has no end
no_end : (id : ℕ) (us : List Update) → fate id us ≡ Live → end_of id us ≡ Never
no_end id [] e = refl
no_end id (u ∷ us) e = by (fate_by id u) (no_end id us) e
  where
    by : (f : Fate) → (fate id us ≡ Live → end_of id us ≡ Never) → first_of_fates f (fate id us) ≡ Live → end_from f (end_of id us) ≡ Never
    by Live later e = rw (later e) refl
    by Fulfilled later e = absurd (cc)
    by Failed later e = absurd (cc)

live_part : (f g : Fate) → first_of_fates f g ≡ Live → f ≡ Live
live_part Live g e = refl
live_part Fulfilled g e = absurd (cc)
live_part Failed g e = absurd (cc)

-- the next HTLC is removed by nobody
next_live : (start_msat : ℕ) (s o : Stages) (id : ℕ) → InOrder s → IsFair start_msat o s → id ≡ length (offers s.known) → fate id o.known ≡ Live
next_live start_msat s o id so f e =
    let b = settled_known s so in
    let whole : offers s.known ≡ offers s.settled ++ offers b.0 = ap offers (sym b.1) ∙ offers-append s.settled b.0 in
    let l : length (offers s.settled) ≤ id = let g = ap length whole ∙ length-append (offers s.settled) (offers b.0) in omega (arith, e, g) in
    f.removes id l

-- the side that offers makes an update that passes its tests
pub kept_grown : (terms : Terms) (by : Side) (start_msat : ℕ) (p q : Pending) (s o : Stages) (u : Update) → InOrder s → InOrder o → IsFair start_msat o s
    → AllPass (update_tests terms by s o u) → IsKept p s o → IsGrown p q (length s.known) u → IsKept q (with_update u s) o
kept_grown terms by start_msat p q s o u so oo f t k g = record {
  offered = g.offered ∙ ap (λ n. n + length (offers (u ∷ []))) k.offered ∙ sym (ap length (offers-append s.known (u ∷ [])) ∙ length-append (offers s.known) (offers (u ∷ [])));
  fulfilled = (let a = g.fulfilled in let b = k.fulfilled in let c = gained-append o.settled s.known (u ∷ []) in let d = none_gained u t in omega (arith, a, b, c, d));
  htlcs = g.htlcs ∙ ap (λ es. es ++ new_pending (length s.known) u) k.htlcs ∙ ap (λ es. pending_htlcs 0 s.known o.known o.settled ++ es) (sym (one_more u t)) ∙ sym (pending-append 0 (length s.known) s.known (u ∷ []) o.known o.settled (omega arith));
  bound = grown_bound u g;
}
  where
    settled_live : (h : Htlc) → h.id ≡ length (offers s.known) → fate h.id o.settled ≡ Live
    settled_live h e =
        let b = settled_known o oo in
        live_part (fate h.id o.settled) (fate h.id b.0) (sym (fate-append h.id o.settled b.0) ∙ ap (fate h.id) b.1 ∙ next_live start_msat s o h.id so f e)

    none_gained : (u : Update) → AllPass (update_tests terms by s o u) → gained_msat o.settled (u ∷ []) ≡ 0
    none_gained (Add h) (t, ts) =
        let e = settled_live h (eqb-true _ _ (not-false _ t)) in
        let w : if_fulfilled (fate h.id o.settled) h.amount_msat ≡ 0 = ap (λ k. if_fulfilled k h.amount_msat) e in
        omega (arith, w)
    none_gained (Fulfil id preimage) t = refl
    none_gained (Fail id) t = refl
    none_gained (Fee feerate_per_kw) t = refl

    one_more : (u : Update) → AllPass (update_tests terms by s o u) → pending_htlcs (length s.known) (u ∷ []) o.known o.settled ≡ new_pending (length s.known) u
    one_more (Add h) (t, ts) =
        let e : h.id ≡ length (offers s.known) = eqb-true _ _ (not-false _ t) in
        rw (settled_live h e, no_end h.id o.known (next_live start_msat s o h.id so f e)) refl
    one_more (Fulfil id preimage) t = refl
    one_more (Fail id) t = refl
    one_more (Fee feerate_per_kw) t = refl

    new_length : (u : Update) → length (new_pending (length s.known) u) ≡ length (offers (u ∷ []))
    new_length (Add h) = refl
    new_length (Fulfil id preimage) = refl
    new_length (Fail id) = refl
    new_length (Fee feerate_per_kw) = refl

    grown_bound : (u : Update) → IsGrown p q (length s.known) u → IsBounded q
    grown_bound u g =
        let a = g.offered in
        let b = g.fulfilled in
        let c = ap length g.htlcs ∙ length-append p.htlcs.items (new_pending (length s.known) u) in
        let d = new_length u in
        let e = k.bound in
        omega (arith, a, b, c, d, e)

-- the side that removes makes an update
pub kept_noted : (p q : Pending) (s o : Stages) (u : Update) → IsKept p s o → IsNoted p q (length o.known) u → IsKept q s (with_update u o)
kept_noted p q s o u k n = record {
  offered = n.offered ∙ k.offered;
  fulfilled = n.fulfilled ∙ k.fulfilled;
  htlcs = n.htlcs ∙ ap (noted_all (length o.known) u) k.htlcs ∙ sym (pending_noted 0 s.known o.known o.settled u);
  bound = (let a = n.offered in let b = n.fulfilled in let c = ap length n.htlcs ∙ length_noted (length o.known) u p.htlcs.items in let d = k.bound in omega (arith, a, b, c, d));
}

-- more updates of the side that removes passed all stages
pub kept_settled : (p q : Pending) (s o o' : Stages) → IsKept p s o → o'.known ≡ o.known → IsBeginning o.settled o'.settled → IsBeginning o'.settled o.known
    → q.offered ≡ p.offered → q.fulfilled ≡ p.fulfilled + fulfilled_at (length s.known) (length o'.settled) p.htlcs.items → q.htlcs.items ≡ filter (is_left (length o'.settled)) p.htlcs.items
    → IsBounded q → IsKept q s o'
kept_settled p q s o o' k e b l offered fulfilled htlcs bound = record {
  offered = offered ∙ k.offered;
  fulfilled = fulfilled ∙ ap (λ n. n + fulfilled_at (length s.known) (length o'.settled) p.htlcs.items) k.fulfilled
      ∙ ap (λ es. gained_msat o.settled s.known + fulfilled_at (length s.known) (length o'.settled) es) k.htlcs
      ∙ sym (fulfilled_in_part s.known s.known o.known o.settled o'.settled (begins s.known) b l);
  htlcs = htlcs ∙ ap (filter (is_left (length o'.settled))) k.htlcs ∙ sym (pending_left 0 s.known o.known o.settled o'.settled b l) ∙ ap (λ us. pending_htlcs 0 s.known us o'.settled) (sym e);
  bound = bound;
}

-- the same at another place in memory
pub kept_alike : (p q : Pending) (s o : Stages) → IsKept p s o → IsAlike p q → IsKept q s o
kept_alike p q s o k a = record {
  offered = a.offered ∙ k.offered;
  fulfilled = a.fulfilled ∙ k.fulfilled;
  htlcs = a.htlcs ∙ k.htlcs;
  bound = (let x = a.offered in let y = a.fulfilled in let z = ap length a.htlcs in let w = k.bound in omega (arith, x, y, z, w));
}

-- moves of either side that change neither what is known of it nor what is settled
pub kept_moved : (p : Pending) (s o s' o' : Stages) → IsKept p s o → s'.known ≡ s.known → o'.known ≡ o.known → o'.settled ≡ o.settled → IsKept p s' o'
kept_moved p s o s' o' k a b c = record {
  offered = k.offered ∙ ap (λ us. length (offers us)) (sym a);
  fulfilled = k.fulfilled ∙ ap (λ us. gained_msat us s.known) (sym c) ∙ ap (gained_msat o'.settled) (sym a);
  htlcs = k.htlcs ∙ ap (λ us. pending_htlcs 0 us o.known o.settled) (sym a) ∙ ap (λ us. pending_htlcs 0 s'.known us o.settled) (sym b) ∙ ap (pending_htlcs 0 s'.known o'.known) (sym c);
  bound = k.bound;
}

-- there are no more HTLCs than updates
pub offers_few : (us : List Update) → length (offers us) ≤ length us
offers_few [] = omega arith
offers_few (Add h ∷ us) = let g = offers_few us in omega (arith, g)
offers_few (Fulfil id preimage ∷ us) = let g = offers_few us in omega (arith, g)
offers_few (Fail id ∷ us) = let g = offers_few us in omega (arith, g)
offers_few (Fee feerate_per_kw ∷ us) = let g = offers_few us in omega (arith, g)
