-- What stays true of one side's updates as a channel knows them, and why no balance of a view falls below 0.
use Rattle.std.proofs.Common.{◌≡◌, ℕ, ◌+◌, ◌*◌, ◌<◌, ◌≤◌, true, false, ◌&&◌, eqb, nat_lt, List, [], ◌∷◌, ◌++◌, length, IsTrue, sym, ap, ◌∙◌, refl, arith, append-nil, length-append}
use Rattle.std.proofs.lemmas.Bool.{eqb-true, ne_eqb, not-false, ltb-false, leb-false, lt-ltb, and_parts, and_from}
use Rattle.std.proofs.lemmas.List.Folds.{list_all-append}
use Rattle.std.specs.Prelude.{is_none}
use Rattle.terms.specs.declared.htlcs.Htlc.{Htlc}
use Rattle.updates.specs.declared.changes.Update.{Update}
use Rattle.updates.specs.declared.changes.Update.TheVariants.{Add, Fulfil, Fail, Fee}
use Rattle.terms.specs.declared.sides.Side.{Side}
use Rattle.terms.specs.declared.agreement.Terms.{Terms}
use Rattle.updates.specs.Updates.{first_of_fates, fate, offers, offer_of, unless_failed, one_if_live, spent_msat, gained_msat, live_count, kept_if_live, live_in, live}
use Rattle.updates.specs.declared.fates.Fate.{Fate}
use Rattle.updates.specs.declared.fates.Fate.TheVariants.{Live, Fulfilled, Failed}
use Rattle.updates.specs.declared.limits.TheConstants.{MAX_HTLCS, EXPIRY_HEIGHT_END}
use Rattle.updates.specs.Views.{IsCovered, IsSound, start_msat_of, expire_at_heights}
use Rattle.updates.specs.Stages.{Stages, with_update, to_receiver, by_receiver, to_sender, by_sender}
use Rattle.updates.specs.Refusals.{update_tests, to_remove}
use Rattle.updates.proofs.Sums.{begins_on, begins_longer, begins, fate-append, offers-append, spent_falls, spent_of_fewer, spent-append, spent_is, gained_rises, gained_of_more, live_count_falls, live_count-append, live_count_of_fewer, live-length}
use Rattle.updates.proofs.Numbering.{numbered-append, numbered_start, found_below, removes_below-more, removes_below-append, gained_settled}
use Rattle.updates.proofs.Accepting.{AllPass, removed, present}
use Rattle.updates.specs.Steady.{InOrder, IsBeginning, IsFair, IsPart, Numbered, RemovesBelow}

pub past_known : (s : Stages) → InOrder s → IsBeginning s.past_receiver s.known
past_known s o = begins_on s.past_receiver s.with_receiver s.known o.past o.receiver

pub sender_known : (s : Stages) → InOrder s → IsBeginning s.with_sender s.known
sender_known s o = begins_on s.with_sender s.past_receiver s.known o.sender (past_known s o)

pub settled_known : (s : Stages) → InOrder s → IsBeginning s.settled s.known
settled_known s o = begins_on s.settled s.with_sender s.known o.settled (sender_known s o)

pub settled_past : (s : Stages) → InOrder s → IsBeginning s.settled s.past_receiver
settled_past s o = begins_on s.settled s.with_sender s.past_receiver o.settled o.sender

pub settled_receiver : (s : Stages) → InOrder s → IsBeginning s.settled s.with_receiver
settled_receiver s o = begins_on s.settled s.past_receiver s.with_receiver (settled_past s o) o.past

pub order_made : (u : Update) (s : Stages) → InOrder s → InOrder (with_update u s)
order_made u s o = record { settled = o.settled; sender = o.sender; past = o.past; receiver = begins_longer s.with_receiver s.known (u ∷ []) o.receiver }

pub order_to_receiver : (s : Stages) → InOrder s → InOrder (to_receiver s)
order_to_receiver s o = record { settled = o.settled; sender = o.sender; past = past_known s o; receiver = begins s.known }

pub order_by_receiver : (s : Stages) → InOrder s → InOrder (by_receiver s)
order_by_receiver s o = record { settled = o.settled; sender = begins_on s.with_sender s.past_receiver s.with_receiver o.sender o.past; past = begins s.with_receiver; receiver = o.receiver }

pub order_to_sender : (s : Stages) → InOrder s → InOrder (to_sender s)
order_to_sender s o = record { settled = settled_past s o; sender = begins s.past_receiver; past = o.past; receiver = o.receiver }

pub order_by_sender : (s : Stages) → InOrder s → InOrder (by_sender s)
order_by_sender s o = record { settled = begins s.with_sender; sender = o.sender; past = o.past; receiver = o.receiver }

-- all this lasts while more is known and settled
pub fair_on : (start_msat : ℕ) (s o s' o' : Stages) → IsFair start_msat s o → s'.known ≡ s.known → IsBeginning s.settled s'.settled → IsBeginning o.known o'.known → IsBeginning o.settled o'.settled → IsFair start_msat s' o'
fair_on start_msat s o s' o' f k ss ok os =
    let l : length (offers o.settled) ≤ length (offers o'.settled) =
    let e : offers o'.settled ≡ offers o.settled ++ offers os.0 = ap offers (sym os.1) ∙ offers-append o.settled os.0 in
    let g = length-append (offers o.settled) (offers os.0) in
    rw e (omega (arith, g))
    in
    let out : spent_msat s'.known o'.settled ≤ spent_msat s.known o.settled = rw k (spent_falls s.known o.settled o'.settled os) in
    let come = gained_rises s.settled s'.settled o.known ss in
    let more = gained_of_more s'.settled o.known o'.known ok in
    let had = f.covered in
    let live : live_count s'.known o'.settled ≤ live_count s.known o.settled = rw k (live_count_falls s.known o.settled o'.settled os) in
    let few = f.few in
    record {
      numbered = rw k f.numbered;
      removes = rw k (removes_below-more _ _ s.known l f.removes);
      covered = omega (arith, out, come, more, had);
      few = omega (arith, live, few);
      heights = rw k f.heights;
    }

-- and while the sender makes updates that pass its tests

offers_same : (us : List Update) (u : Update) → offers (u ∷ []) ≡ [] → offers (us ++ u ∷ []) ≡ offers us
offers_same us u e = offers-append us (u ∷ []) ∙ ap (λ l. offers us ++ l) e ∙ append-nil (offers us)

numbered_made : (terms : Terms) (by : Side) (s o : Stages) (u : Update) → AllPass (update_tests terms by s o u) → Numbered 0 (offers s.known) → Numbered 0 (offers (s.known ++ u ∷ []))
numbered_made terms by s o (Add p) (t, ts) n =
    let e : p.id ≡ length (offers s.known) = eqb-true _ _ (not-false _ t) in
    let m : Numbered (0 + length (offers s.known)) (p ∷ []) = (omega (arith, e), tt) in
    rw offers-append (numbered-append 0 (offers s.known) (p ∷ []) n m)
numbered_made terms by s o (Fulfil id preimage) t n = rw (offers_same s.known (Fulfil id preimage) refl) n
numbered_made terms by s o (Fail id) t n = rw (offers_same s.known (Fail id) refl) n
numbered_made terms by s o (Fee feerate_per_kw) t n = rw (offers_same s.known (Fee feerate_per_kw) refl) n

-- an HTLC that may be removed has a number below that of the next one to settle
to_remove_below : (id : ℕ) (s o : Stages) → InOrder o → Numbered 0 (offers o.known) → is_none (to_remove id s o) ≡ false → id < length (offers o.settled)
to_remove_below id s o order n e =
    let p = present (to_remove id s o) e in
    let r = removed (fate id s.known) (offer_of id (offers o.settled)) p.0 p.1 in
    let part = settled_known o order in
    let whole : offers o.known ≡ offers o.settled ++ offers part.0 = ap offers (sym part.1) ∙ offers-append o.settled part.0 in
    let m : Numbered 0 (offers o.settled ++ offers part.0) = rw whole at n in
    let b = found_below id 0 (offers o.settled) p.0 (numbered_start 0 (offers o.settled) (offers part.0) m) r.1 in
    omega (arith, b)

removes_made : (terms : Terms) (by : Side) (s o : Stages) (u : Update) → InOrder o → Numbered 0 (offers o.known) → AllPass (update_tests terms by s o u) → RemovesBelow (length (offers o.settled)) (u ∷ [])
removes_made terms by s o (Add p) order n t id h = refl
removes_made terms by s o (Fulfil i preimage) order n (t, ts) id h =
    let b = to_remove_below i s o order n t in
    let e : eqb i id ≡ false = ne_eqb i id (λ g. omega (arith, b, h, g)) in
    rw e refl
removes_made terms by s o (Fail i) order n (t, ts) id h =
    let b = to_remove_below i s o order n t in
    let e : eqb i id ≡ false = ne_eqb i id (λ g. omega (arith, b, h, g)) in
    rw e refl
removes_made terms by s o (Fee feerate_per_kw) order n t id h = refl

at_most : (f : Fate) (n : ℕ) → unless_failed f n ≤ n
at_most Live n = omega arith
at_most Fulfilled n = omega arith
at_most Failed n = omega arith

covered_made : (terms : Terms) (by : Side) (s o : Stages) (u : Update) → AllPass (update_tests terms by s o u) → spent_msat s.known o.settled ≤ start_msat_of by terms + gained_msat s.settled o.known → spent_msat (s.known ++ u ∷ []) o.settled ≤ start_msat_of by terms + gained_msat s.settled o.known
covered_made terms by s o (Add p) (t1, (t2, (t3, (t4, (t5, (t6, t7)))))) c =
    let had = ltb-false _ _ t6 in
    let e = spent-append s.known (Add p ∷ []) o.settled in
    let w = at_most (fate p.id o.settled) p.amount_msat in
    let one : spent_msat (Add p ∷ []) o.settled ≤ p.amount_msat = omega (arith, w) in
    omega (arith, had, e, one)
covered_made terms by s o (Fulfil id preimage) t c = let e = spent-append s.known (Fulfil id preimage ∷ []) o.settled in omega (arith, e, c)
covered_made terms by s o (Fail id) t c = let e = spent-append s.known (Fail id ∷ []) o.settled in omega (arith, e, c)
covered_made terms by s o (Fee feerate_per_kw) t c = let e = spent-append s.known (Fee feerate_per_kw ∷ []) o.settled in omega (arith, e, c)

one_at_most : (f : Fate) (n : ℕ) → one_if_live f n ≤ 1
one_at_most Live n = omega arith
one_at_most Fulfilled n = omega arith
one_at_most Failed n = omega arith

few_made : (terms : Terms) (by : Side) (s o : Stages) (u : Update) → AllPass (update_tests terms by s o u) → live_count s.known o.settled ≤ MAX_HTLCS → live_count (s.known ++ u ∷ []) o.settled ≤ MAX_HTLCS
few_made terms by s o (Add p) (t1, (t2, (t3, (t4, (t5, (t6, t7)))))) f =
    let room = leb-false _ _ t5 in
    let e = live_count-append s.known (Add p ∷ []) o.settled in
    let w = one_at_most (fate p.id o.settled) p.amount_msat in
    let one : live_count (Add p ∷ []) o.settled ≤ 1 = omega (arith, w) in
    omega (arith, room, e, one)
few_made terms by s o (Fulfil id preimage) t f = let e = live_count-append s.known (Fulfil id preimage ∷ []) o.settled in omega (arith, e, f)
few_made terms by s o (Fail id) t f = let e = live_count-append s.known (Fail id ∷ []) o.settled in omega (arith, e, f)
few_made terms by s o (Fee feerate_per_kw) t f = let e = live_count-append s.known (Fee feerate_per_kw ∷ []) o.settled in omega (arith, e, f)

pub heights_append : (us vs : List Update) → expire_at_heights (offers (us ++ vs)) ≡ (expire_at_heights (offers us) && expire_at_heights (offers vs))
heights_append us vs = ap expire_at_heights (offers-append us vs) ∙ list_all-append (λ (h : Htlc). nat_lt h.expiry_height EXPIRY_HEIGHT_END) (offers us) (offers vs)

heights_made : (terms : Terms) (by : Side) (s o : Stages) (u : Update) → AllPass (update_tests terms by s o u) → IsTrue (expire_at_heights (offers s.known)) → IsTrue (expire_at_heights (offers (s.known ++ u ∷ [])))
heights_made terms by s o (Add p) (t1, (t2, (t3, (t4, ts)))) h =
    let below = lt-ltb p.expiry_height EXPIRY_HEIGHT_END (leb-false _ _ t4) in
    heights_append s.known (Add p ∷ []) ∙ and_from _ _ h (and_from (nat_lt p.expiry_height EXPIRY_HEIGHT_END) true below refl)
heights_made terms by s o (Fulfil id preimage) t h = heights_append s.known (Fulfil id preimage ∷ []) ∙ and_from _ _ h refl
heights_made terms by s o (Fail id) t h = heights_append s.known (Fail id ∷ []) ∙ and_from _ _ h refl
heights_made terms by s o (Fee feerate_per_kw) t h = heights_append s.known (Fee feerate_per_kw ∷ []) ∙ and_from _ _ h refl

pub fair_made : (terms : Terms) (by : Side) (s o : Stages) (u : Update) → InOrder o → Numbered 0 (offers o.known) → AllPass (update_tests terms by s o u) → IsFair (start_msat_of by terms) s o → IsFair (start_msat_of by terms) (with_update u s) o
fair_made terms by s o u order n t f = record {
  numbered = numbered_made terms by s o u t f.numbered;
  removes = removes_below-append _ s.known (u ∷ []) f.removes (removes_made terms by s o u order n t);
  covered = covered_made terms by s o u t f.covered;
  few = few_made terms by s o u t f.few;
  heights = heights_made terms by s o u t f.heights;
}

-- the views between what is settled and what is known

live_start : (f g : Fate) → first_of_fates f g ≡ Live → f ≡ Live
live_start Live g e = refl
live_start Fulfilled g e = absurd (cc)
live_start Failed g e = absurd (cc)

pub removes_below_start : (n : ℕ) (us vs : List Update) → RemovesBelow n (us ++ vs) → RemovesBelow n us
removes_below_start n us vs r id h = live_start (fate id us) (fate id vs) (sym (fate-append id us vs) ∙ r id h)

pub covered_view : (start_msat : ℕ) (s o : Stages) (p q : List Update) → InOrder s → InOrder o → IsFair start_msat s o → Numbered 0 (offers o.known) → IsPart s p → IsPart o q → IsCovered start_msat p q
covered_view start_msat s o p q so oo f n sp oq =
    let a = spent_of_fewer p s.known q sp.is_known in
    let b = spent_falls s.known o.settled q oq.holds_settled in
    let c = f.covered in
    let part = settled_known s so in
    let whole : RemovesBelow (length (offers o.settled)) (s.settled ++ part.0) = rw part.1 f.removes in
    let r : RemovesBelow (length (offers o.settled)) s.settled = removes_below_start _ s.settled part.0 whole in
    let d = gained_settled s.settled o.settled o.known (settled_known o oo) n r in
    let e = gained_rises s.settled p o.settled sp.holds_settled in
    let g = gained_of_more p o.settled q oq.holds_settled in
    omega (arith, a, b, c, d, e, g)

-- fewer offers and more removals leave fewer live HTLCs
pub few_in_view : (start_msat : ℕ) (s o : Stages) (p q : List Update) → IsFair start_msat s o → IsPart s p → IsPart o q → length (live p q) ≤ MAX_HTLCS
few_in_view start_msat s o p q f sp oq =
    let a = live_count_of_fewer p s.known q sp.is_known in
    let b = live_count_falls s.known o.settled q oq.holds_settled in
    let c = f.few in
    let e = live-length p q in
    omega (arith, a, b, c, e)

heights_kept : (f : Fate) (o : Htlc) (os : List Htlc) → nat_lt o.expiry_height EXPIRY_HEIGHT_END ≡ true → IsTrue (expire_at_heights os) → IsTrue (expire_at_heights (kept_if_live f o os))
heights_kept Live o os a b = and_from (nat_lt o.expiry_height EXPIRY_HEIGHT_END) (expire_at_heights os) a b
heights_kept Fulfilled o os a b = b
heights_kept Failed o os a b = b

heights_live : (os : List Htlc) (ends : List Update) → IsTrue (expire_at_heights os) → IsTrue (expire_at_heights (live_in os ends))
heights_live [] ends h = refl
heights_live (o ∷ os) ends h =
    let (first, rest) = and_parts (nat_lt o.expiry_height EXPIRY_HEIGHT_END) (expire_at_heights os) h in
    heights_kept (fate o.id ends) o (live_in os ends) first (heights_live os ends rest)

-- each HTLC in a view was offered
pub heights_in_view : (start_msat : ℕ) (s o : Stages) (p q : List Update) → IsFair start_msat s o → IsPart s p → IsTrue (expire_at_heights (live p q))
heights_in_view start_msat s o p q f sp =
    let rest = sp.is_known.0 in
    let both = sym (heights_append p rest) ∙ ap (λ l. expire_at_heights (offers l)) sp.is_known.1 ∙ f.heights in
    heights_live (offers p) q (and_parts (expire_at_heights (offers p)) (expire_at_heights (offers rest)) both).0

-- balances and HTLCs sum to the capacity wherever no balance is below 0
pub sound_view : (terms : Terms) (p q : List Update) → IsCovered terms.a.start_msat p q → IsCovered terms.b.start_msat q p → length (live p q) ≤ MAX_HTLCS → length (live q p) ≤ MAX_HTLCS
    → IsTrue (expire_at_heights (live p q)) → IsTrue (expire_at_heights (live q p)) → IsSound terms p q
sound_view terms p q a b few_of_a few_of_b heights_of_a heights_of_b =
    let whole : terms.a.start_msat + terms.b.start_msat ≡ 1000 * terms.capacity_sat = terms.whole in
    let d = spent_is p q in
    let e = spent_is q p in
    record { a = a; b = b; sum = omega (arith, whole, a, b, d, e); few_of_a = few_of_a; few_of_b = few_of_b; heights_of_a = heights_of_a; heights_of_b = heights_of_b }
