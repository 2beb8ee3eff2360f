-- What is kept of pending HTLCs says what the lists of updates say of all HTLCs.
use Rattle.std.proofs.Common.{◌≡◌, ℕ, zero, suc, ◌+◌, ◌<◌, ◌≤◌, Bool, true, false, eqb, cond, List, [], ◌∷◌, ◌++◌, length, take, set, get_or, filter, sym, ap, ◌∙◌, refl, arith, Option, Some, None, append-nil, add-one}
use Rattle.std.proofs.lemmas.Bool.{eqb-true, cond-true, cond-false, lt-ltb, le-ltb}
use Rattle.terms.specs.declared.htlcs.Htlc.{Htlc}
use Rattle.updates.specs.declared.changes.Update.{Update}
use Rattle.updates.specs.declared.changes.Update.TheVariants.{Add, Fulfil, Fail, Fee}
use Rattle.updates.specs.declared.fates.Fate.{Fate}
use Rattle.updates.specs.declared.fates.Fate.TheVariants.{Live, Fulfilled, Failed}
use Rattle.updates.specs.declared.pending.PendingHtlc.{PendingHtlc}
use Rattle.updates.specs.Updates.{first_of_fates, fate, offers, offer_of, total, if_live, if_fulfilled, one_if_live, kept_if_live, live_in}
use Rattle.updates.specs.Ends.{end_of, within}
use Rattle.updates.specs.Refusals.{removable}
use Rattle.updates.specs.Pending.{pending_if_live, pending_htlcs, fate_at, total_amount_msat, fulfilled_at, live_at, found_in, is_left, noted, noted_all}
use Rattle.updates.specs.Steady.{IsBeginning}
use Rattle.updates.proofs.Sums.{fate-append}
use Rattle.updates.proofs.Ends.{fate_within, end_of-push}

-- the first updates of a list, as many as a beginning has
take_length : (xs rest : List Update) → take (length xs) (xs ++ rest) ≡ xs
take_length [] rest = refl
take_length (x ∷ xs) rest = ap (λ l. x ∷ l) (take_length xs rest)

-- what a beginning makes of an HTLC, by its end
pub fate_of_part : (id : ℕ) (part known : List Update) → IsBeginning part known → within (length part) (end_of id known) ≡ fate id part
fate_of_part id part known b =
    sym (fate_within id (length part) known) ∙ ap (λ l. fate id (take (length part) l)) (sym b.1) ∙ ap (fate id) (take_length part b.0)

-- what more updates make of an HTLC, by what their beginning does
pub fate_after : (id : ℕ) (part longer : List Update) (b : IsBeginning part longer) → fate id longer ≡ first_of_fates (fate id part) (fate id b.0)
fate_after id part longer b = ap (fate id) (sym b.1) ∙ fate-append id part b.0

-- how many are pending, and their amounts

length_if_live : (f : Fate) (x : PendingHtlc) (xs : List PendingHtlc) (n : ℕ) → length (pending_if_live f x xs) ≡ one_if_live f n + length xs
length_if_live Live x xs n = omega arith
length_if_live Fulfilled x xs n = omega arith
length_if_live Failed x xs n = omega arith

pub length_pending : (at : ℕ) (us known settled : List Update) → length (pending_htlcs at us known settled) ≡ total one_if_live (offers us) settled
length_pending at [] known settled = refl
length_pending at (Add h ∷ us) known settled =
    length_if_live (fate h.id settled) _ _ h.amount_msat ∙ ap (λ n. one_if_live (fate h.id settled) h.amount_msat + n) (length_pending (suc at) us known settled)
length_pending at (Fulfil id preimage ∷ us) known settled = length_pending (suc at) us known settled
length_pending at (Fail id ∷ us) known settled = length_pending (suc at) us known settled
length_pending at (Fee feerate_per_kw ∷ us) known settled = length_pending (suc at) us known settled

amount_if_live : (f : Fate) (x : PendingHtlc) (xs : List PendingHtlc) → total_amount_msat (pending_if_live f x xs) ≡ if_live f x.htlc.amount_msat + total_amount_msat xs
amount_if_live Live x xs = refl
amount_if_live Fulfilled x xs = omega arith
amount_if_live Failed x xs = omega arith

pub amount_pending : (at : ℕ) (us known settled : List Update) → total_amount_msat (pending_htlcs at us known settled) ≡ total if_live (offers us) settled
amount_pending at [] known settled = refl
amount_pending at (Add h ∷ us) known settled =
    amount_if_live (fate h.id settled) _ _ ∙ ap (λ n. if_live (fate h.id settled) h.amount_msat + n) (amount_pending (suc at) us known settled)
amount_pending at (Fulfil id preimage ∷ us) known settled = amount_pending (suc at) us known settled
amount_pending at (Fail id ∷ us) known settled = amount_pending (suc at) us known settled
amount_pending at (Fee feerate_per_kw ∷ us) known settled = amount_pending (suc at) us known settled

-- more updates of the side that offers

append_if_live : (f : Fate) (x : PendingHtlc) (xs ys : List PendingHtlc) → pending_if_live f x xs ++ ys ≡ pending_if_live f x (xs ++ ys)
append_if_live Live x xs ys = refl
append_if_live Fulfilled x xs ys = refl
append_if_live Failed x xs ys = refl

pub pending-append : (at m : ℕ) (us vs known settled : List Update) → at + length us ≡ m → pending_htlcs at (us ++ vs) known settled ≡ pending_htlcs at us known settled ++ pending_htlcs m vs known settled
pending-append at m [] vs known settled e = let g : at ≡ m = omega arith in ap (λ k. pending_htlcs k vs known settled) g
pending-append at m (Add h ∷ us) vs known settled e =
    ap (pending_if_live (fate h.id settled) (record { htlc = h; added = at; end = end_of h.id known })) (pending-append (suc at) m us vs known settled (omega (arith, e)))
    ∙ sym (append_if_live (fate h.id settled) _ _ (pending_htlcs m vs known settled))
pending-append at m (Fulfil id preimage ∷ us) vs known settled e = pending-append (suc at) m us vs known settled (omega (arith, e))
pending-append at m (Fail id ∷ us) vs known settled e = pending-append (suc at) m us vs known settled (omega (arith, e))
pending-append at m (Fee feerate_per_kw ∷ us) vs known settled e = pending-append (suc at) m us vs known settled (omega (arith, e))

-- one more update of the side that removes

noted_if_live : (n : ℕ) (u : Update) (f : Fate) (x : PendingHtlc) (xs : List PendingHtlc) → noted_all n u (pending_if_live f x xs) ≡ pending_if_live f (noted n u x) (noted_all n u xs)
noted_if_live n u Live x xs = refl
noted_if_live n u Fulfilled x xs = refl
noted_if_live n u Failed x xs = refl

-- an update is noted at the first of them alone, as far as `noted_all` has come
abbrev pub noted_front : ℕ → Update → ℕ → List PendingHtlc → List PendingHtlc
noted_front position u zero es = es
noted_front position u (suc i) [] = []
noted_front position u (suc i) (e ∷ es) = noted position u e ∷ noted_front position u i es

-- the loop over them
pub notes_more : (n : ℕ) (u : Update) (es xs : List PendingHtlc) (i : ℕ) (d : PendingHtlc) → xs ≡ noted_front n u i es → i < length es → set xs i (noted n u (get_or xs i d)) ≡ noted_front n u (i + 1) es
notes_more n u es xs i d e l = rw (e, add-one) (by es i l)
  where
    by : (es : List PendingHtlc) (i : ℕ) → i < length es → set (noted_front n u i es) i (noted n u (get_or (noted_front n u i es) i d)) ≡ noted_front n u (suc i) es
    by [] i l = absurd (omega arith)
    by (e ∷ es) zero l = refl
    by (e ∷ es) (suc i) l = ap (λ xs. noted n u e ∷ xs) (by es i (omega (arith, l)))

pub notes_end : (n : ℕ) (u : Update) (es : List PendingHtlc) → noted_front n u (length es) es ≡ noted_all n u es
notes_end n u [] = refl
notes_end n u (e ∷ es) = ap (λ xs. noted n u e ∷ xs) (notes_end n u es)

pub length_noted : (n : ℕ) (u : Update) (es : List PendingHtlc) → length (noted_all n u es) ≡ length es
length_noted n u [] = refl
length_noted n u (e ∷ es) = ap suc (length_noted n u es)

pub pending_noted : (at : ℕ) (us known settled : List Update) (u : Update) → pending_htlcs at us (known ++ u ∷ []) settled ≡ noted_all (length known) u (pending_htlcs at us known settled)
pending_noted at [] known settled u = refl
pending_noted at (Add h ∷ us) known settled u =
    ap (λ e. pending_if_live (fate h.id settled) (record { htlc = h; added = at; end = e }) (pending_htlcs (suc at) us (known ++ u ∷ []) settled)) (end_of-push h.id known u)
    ∙ ap (pending_if_live (fate h.id settled) (noted (length known) u (record { htlc = h; added = at; end = end_of h.id known }))) (pending_noted (suc at) us known settled u)
    ∙ sym (noted_if_live (length known) u (fate h.id settled) _ _)
pending_noted at (Fulfil id preimage ∷ us) known settled u = pending_noted (suc at) us known settled u
pending_noted at (Fail id ∷ us) known settled u = pending_noted (suc at) us known settled u
pending_noted at (Fee feerate_per_kw ∷ us) known settled u = pending_noted (suc at) us known settled u

-- more updates of the side that removes passed all stages

left_if_live : (d : ℕ) (x : PendingHtlc) (xs : List PendingHtlc) (f r : Fate) → within d x.end ≡ first_of_fates f r
    → pending_if_live (first_of_fates f r) x (filter (is_left d) xs) ≡ filter (is_left d) (pending_if_live f x xs)
left_if_live d x xs Live Live e = rw e refl
left_if_live d x xs Live Fulfilled e = rw e refl
left_if_live d x xs Live Failed e = rw e refl
left_if_live d x xs Fulfilled r e = refl
left_if_live d x xs Failed r e = refl

pub pending_left : (at : ℕ) (us known settled longer : List Update) → IsBeginning settled longer → IsBeginning longer known
    → pending_htlcs at us known longer ≡ filter (is_left (length longer)) (pending_htlcs at us known settled)
pending_left at [] known settled longer b k = refl
pending_left at (Add h ∷ us) known settled longer b k =
    let x : PendingHtlc = record { htlc = h; added = at; end = end_of h.id known } in
    let g = fate_after h.id settled longer b in
    ap (λ f. pending_if_live f x (pending_htlcs (suc at) us known longer)) g
    ∙ ap (pending_if_live (first_of_fates (fate h.id settled) (fate h.id b.0)) x) (pending_left (suc at) us known settled longer b k)
    ∙ left_if_live (length longer) x (pending_htlcs (suc at) us known settled) (fate h.id settled) (fate h.id b.0) (fate_of_part h.id longer known k ∙ g)
pending_left at (Fulfil id preimage ∷ us) known settled longer b k = pending_left (suc at) us known settled longer b k
pending_left at (Fail id ∷ us) known settled longer b k = pending_left (suc at) us known settled longer b k
pending_left at (Fee feerate_per_kw ∷ us) known settled longer b k = pending_left (suc at) us known settled longer b k

-- what is offered among the first m updates, and what isn't

early : (d m : ℕ) (x : PendingHtlc) → x.added < m → fate_at m d x ≡ within d x.end
early d m x l = cond-true _ (within d x.end) Failed (lt-ltb x.added m l)

late : (d m : ℕ) (x : PendingHtlc) → m ≤ x.added → fate_at m d x ≡ Failed
late d m x l = cond-false _ (within d x.end) Failed (le-ltb x.added m l)

-- fulfilments among the first updates of both sides

fulfilled-append : (m d : ℕ) (xs ys : List PendingHtlc) → fulfilled_at m d (xs ++ ys) ≡ fulfilled_at m d xs + fulfilled_at m d ys
fulfilled-append m d [] ys = omega arith
fulfilled-append m d (x ∷ xs) ys = let h = fulfilled-append m d xs ys in omega (arith, h)

fulfilled_late : (m d at : ℕ) (us known settled : List Update) → m ≤ at → fulfilled_at m d (pending_htlcs at us known settled) ≡ 0
fulfilled_late m d at [] known settled l = refl
fulfilled_late m d at (Add h ∷ us) known settled l = by (fate h.id settled) (fulfilled_late m d (suc at) us known settled (omega (arith, l)))
  where
    by : (f : Fate) → fulfilled_at m d (pending_htlcs (suc at) us known settled) ≡ 0
        → fulfilled_at m d (pending_if_live f (record { htlc = h; added = at; end = end_of h.id known }) (pending_htlcs (suc at) us known settled)) ≡ 0
    by Live g = rw (late d m (record { htlc = h; added = at; end = end_of h.id known }) l) (omega (arith, g))
    by Fulfilled g = g
    by Failed g = g
fulfilled_late m d at (Fulfil id preimage ∷ us) known settled l = fulfilled_late m d (suc at) us known settled (omega (arith, l))
fulfilled_late m d at (Fail id ∷ us) known settled l = fulfilled_late m d (suc at) us known settled (omega (arith, l))
fulfilled_late m d at (Fee feerate_per_kw ∷ us) known settled l = fulfilled_late m d (suc at) us known settled (omega (arith, l))

weighed : (m d : ℕ) (x : PendingHtlc) (xs : List PendingHtlc) (f r : Fate) (t : ℕ) → fate_at m d x ≡ first_of_fates f r
    → if_fulfilled (first_of_fates f r) x.htlc.amount_msat + (t + fulfilled_at m d xs) ≡ if_fulfilled f x.htlc.amount_msat + t + fulfilled_at m d (pending_if_live f x xs)
weighed m d x xs Live r t e = let g : if_fulfilled (fate_at m d x) x.htlc.amount_msat ≡ if_fulfilled r x.htlc.amount_msat = ap (λ k. if_fulfilled k x.htlc.amount_msat) e in omega (arith, g)
weighed m d x xs Fulfilled r t e = omega arith
weighed m d x xs Failed r t e = omega arith

fulfilled_early : (m at : ℕ) (us known settled part : List Update) → IsBeginning settled part → IsBeginning part known → at + length us ≤ m
    → total if_fulfilled (offers us) part ≡ total if_fulfilled (offers us) settled + fulfilled_at m (length part) (pending_htlcs at us known settled)
fulfilled_early m at [] known settled part b k l = refl
fulfilled_early m at (Add h ∷ us) known settled part b k l =
    let x : PendingHtlc = record { htlc = h; added = at; end = end_of h.id known } in
    let g = fate_after h.id settled part b in
    let e : fate_at m (length part) x ≡ first_of_fates (fate h.id settled) (fate h.id b.0) = early (length part) m x (omega (arith, l)) ∙ fate_of_part h.id part known k ∙ g in
    ap (λ f. if_fulfilled f h.amount_msat + total if_fulfilled (offers us) part) g
    ∙ ap (λ n. if_fulfilled (first_of_fates (fate h.id settled) (fate h.id b.0)) h.amount_msat + n) (fulfilled_early m (suc at) us known settled part b k (omega (arith, l)))
    ∙ weighed m (length part) x (pending_htlcs (suc at) us known settled) (fate h.id settled) (fate h.id b.0) (total if_fulfilled (offers us) settled) e
fulfilled_early m at (Fulfil id preimage ∷ us) known settled part b k l = fulfilled_early m (suc at) us known settled part b k (omega (arith, l))
fulfilled_early m at (Fail id ∷ us) known settled part b k l = fulfilled_early m (suc at) us known settled part b k (omega (arith, l))
fulfilled_early m at (Fee feerate_per_kw ∷ us) known settled part b k l = fulfilled_early m (suc at) us known settled part b k (omega (arith, l))

-- of HTLCs that are offered in the first updates of a list
pub fulfilled_in_part : (mine whole known settled part : List Update) → IsBeginning mine whole → IsBeginning settled part → IsBeginning part known
    → total if_fulfilled (offers mine) part ≡ total if_fulfilled (offers mine) settled + fulfilled_at (length mine) (length part) (pending_htlcs 0 whole known settled)
fulfilled_in_part mine whole known settled part w b k =
    let e : pending_htlcs 0 whole known settled ≡ pending_htlcs 0 mine known settled ++ pending_htlcs (length mine) w.0 known settled =
    ap (λ l. pending_htlcs 0 l known settled) (sym w.1) ∙ pending-append 0 (length mine) mine w.0 known settled (omega arith)
    in
    let f : fulfilled_at (length mine) (length part) (pending_htlcs 0 whole known settled) ≡ fulfilled_at (length mine) (length part) (pending_htlcs 0 mine known settled) + fulfilled_at (length mine) (length part) (pending_htlcs (length mine) w.0 known settled) =
    ap (fulfilled_at (length mine) (length part)) e ∙ fulfilled-append (length mine) (length part) _ _
    in
    let g = fulfilled_late (length mine) (length part) (length mine) w.0 known settled (omega arith) in
    let h = fulfilled_early (length mine) 0 mine known settled part b k (omega arith) in
    omega (arith, f, g, h)

-- HTLCs that are live among the first updates of both sides

live-append : (m d : ℕ) (xs ys : List PendingHtlc) → live_at m d (xs ++ ys) ≡ live_at m d xs ++ live_at m d ys
live-append m d [] ys = refl
live-append m d (x ∷ xs) ys = ap (kept_if_live (fate_at m d x) x.htlc) (live-append m d xs ys) ∙ out (fate_at m d x)
  where
    out : (f : Fate) → kept_if_live f x.htlc (live_at m d xs ++ live_at m d ys) ≡ kept_if_live f x.htlc (live_at m d xs) ++ live_at m d ys
    out Live = refl
    out Fulfilled = refl
    out Failed = refl

live_late : (m d at : ℕ) (us known settled : List Update) → m ≤ at → live_at m d (pending_htlcs at us known settled) ≡ []
live_late m d at [] known settled l = refl
live_late m d at (Add h ∷ us) known settled l = by (fate h.id settled) (live_late m d (suc at) us known settled (omega (arith, l)))
  where
    by : (f : Fate) → live_at m d (pending_htlcs (suc at) us known settled) ≡ []
        → live_at m d (pending_if_live f (record { htlc = h; added = at; end = end_of h.id known }) (pending_htlcs (suc at) us known settled)) ≡ []
    by Live g = rw (late d m (record { htlc = h; added = at; end = end_of h.id known }) l) g
    by Fulfilled g = g
    by Failed g = g
live_late m d at (Fulfil id preimage ∷ us) known settled l = live_late m d (suc at) us known settled (omega (arith, l))
live_late m d at (Fail id ∷ us) known settled l = live_late m d (suc at) us known settled (omega (arith, l))
live_late m d at (Fee feerate_per_kw ∷ us) known settled l = live_late m d (suc at) us known settled (omega (arith, l))

stands : (m d : ℕ) (x : PendingHtlc) (xs : List PendingHtlc) (f r : Fate) → fate_at m d x ≡ first_of_fates f r
    → kept_if_live (first_of_fates f r) x.htlc (live_at m d xs) ≡ live_at m d (pending_if_live f x xs)
stands m d x xs Live r e = ap (λ k. kept_if_live k x.htlc (live_at m d xs)) (sym e)
stands m d x xs Fulfilled r e = refl
stands m d x xs Failed r e = refl

live_early : (m at : ℕ) (us known settled part : List Update) → IsBeginning settled part → IsBeginning part known → at + length us ≤ m
    → live_in (offers us) part ≡ live_at m (length part) (pending_htlcs at us known settled)
live_early m at [] known settled part b k l = refl
live_early m at (Add h ∷ us) known settled part b k l =
    let x : PendingHtlc = record { htlc = h; added = at; end = end_of h.id known } in
    let g = fate_after h.id settled part b in
    let e : fate_at m (length part) x ≡ first_of_fates (fate h.id settled) (fate h.id b.0) = early (length part) m x (omega (arith, l)) ∙ fate_of_part h.id part known k ∙ g in
    ap (λ f. kept_if_live f h (live_in (offers us) part)) g
    ∙ ap (kept_if_live (first_of_fates (fate h.id settled) (fate h.id b.0)) h) (live_early m (suc at) us known settled part b k (omega (arith, l)))
    ∙ stands m (length part) x (pending_htlcs (suc at) us known settled) (fate h.id settled) (fate h.id b.0) e
live_early m at (Fulfil id preimage ∷ us) known settled part b k l = live_early m (suc at) us known settled part b k (omega (arith, l))
live_early m at (Fail id ∷ us) known settled part b k l = live_early m (suc at) us known settled part b k (omega (arith, l))
live_early m at (Fee feerate_per_kw ∷ us) known settled part b k l = live_early m (suc at) us known settled part b k (omega (arith, l))

pub live_in_part : (mine whole known settled part : List Update) → IsBeginning mine whole → IsBeginning settled part → IsBeginning part known
    → live_in (offers mine) part ≡ live_at (length mine) (length part) (pending_htlcs 0 whole known settled)
live_in_part mine whole known settled part w b k =
    live_early (length mine) 0 mine known settled part b k (omega arith)
    ∙ sym (append-nil (live_at (length mine) (length part) (pending_htlcs 0 mine known settled)))
    ∙ ap (λ l. live_at (length mine) (length part) (pending_htlcs 0 mine known settled) ++ l) (sym (live_late (length mine) (length part) (length mine) w.0 known settled (omega arith)))
    ∙ sym (live-append (length mine) (length part) (pending_htlcs 0 mine known settled) (pending_htlcs (length mine) w.0 known settled))
    ∙ ap (live_at (length mine) (length part)) (sym (pending-append 0 (length mine) mine w.0 known settled (omega arith)))
    ∙ ap (λ l. live_at (length mine) (length part) (pending_htlcs 0 l known settled)) w.1

-- the HTLC that may be removed

none_removable : (f : Fate) → removable f None ≡ None
none_removable Live = refl
none_removable Fulfilled = refl
none_removable Failed = refl

either_none : (b : Bool) (o : Option Htlc) → o ≡ None → cond b None o ≡ None
either_none true o e = refl
either_none false o e = e

found_late : (id m d at : ℕ) (us known settled : List Update) → m ≤ at → found_in id m d (pending_htlcs at us known settled) ≡ None
found_late id m d at [] known settled l = refl
found_late id m d at (Add h ∷ us) known settled l = by (fate h.id settled) (found_late id m d (suc at) us known settled (omega (arith, l)))
  where
    by : (f : Fate) → found_in id m d (pending_htlcs (suc at) us known settled) ≡ None
        → found_in id m d (pending_if_live f (record { htlc = h; added = at; end = end_of h.id known }) (pending_htlcs (suc at) us known settled)) ≡ None
    by Live g = rw (late d m (record { htlc = h; added = at; end = end_of h.id known }) l) (either_none (eqb h.id id) _ g)
    by Fulfilled g = g
    by Failed g = g
found_late id m d at (Fulfil i preimage ∷ us) known settled l = found_late id m d (suc at) us known settled (omega (arith, l))
found_late id m d at (Fail i ∷ us) known settled l = found_late id m d (suc at) us known settled (omega (arith, l))
found_late id m d at (Fee feerate_per_kw ∷ us) known settled l = found_late id m d (suc at) us known settled (omega (arith, l))

-- one HTLC before those among which it is sought: the fate of the one that is sought is that of the whole, and of the first one by its id
found_first : (id m d : ℕ) (x : PendingHtlc) (xs : List PendingHtlc) (o : Option Htlc) (f r whole : Fate) → fate_at m d x ≡ first_of_fates f r
    → (x.htlc.id ≡ id → whole ≡ first_of_fates f r) → removable whole o ≡ found_in id m d xs
    → removable whole (cond (eqb x.htlc.id id) (Some x.htlc) o) ≡ found_in id m d (pending_if_live f x xs)
found_first id m d x xs o f r whole e same later = by f (eqb x.htlc.id id) refl e same
  where
    by : (f : Fate) (b : Bool) → eqb x.htlc.id id ≡ b → fate_at m d x ≡ first_of_fates f r → (x.htlc.id ≡ id → whole ≡ first_of_fates f r)
        → removable whole (cond b (Some x.htlc) o) ≡ found_in id m d (pending_if_live f x xs)
    by Live true t e same = rw t (ap (λ k. removable k (Some x.htlc)) (same (eqb-true _ _ t) ∙ sym e))
    by Live false t e same = rw t later
    by Fulfilled true t e same = let w = same (eqb-true _ _ t) in ap (λ k. removable k (Some x.htlc)) w ∙ ap (λ k. removable k o) (sym w) ∙ later
    by Fulfilled false t e same = later
    by Failed true t e same = let w = same (eqb-true _ _ t) in ap (λ k. removable k (Some x.htlc)) w ∙ ap (λ k. removable k o) (sym w) ∙ later
    by Failed false t e same = later

pub found_early : (id m at : ℕ) (us rest known settled : List Update) → IsBeginning settled known → at + length us ≡ m
    → removable (fate id known) (offer_of id (offers us)) ≡ found_in id m (length known) (pending_htlcs at (us ++ rest) known settled)
found_early id m at [] rest known settled b e = none_removable (fate id known) ∙ sym (found_late id m (length known) at rest known settled (omega (arith, e)))
found_early id m at (Add h ∷ us) rest known settled b e =
    let x : PendingHtlc = record { htlc = h; added = at; end = end_of h.id known } in
    let g = fate_after h.id settled known b in
    found_first id m (length known) x (pending_htlcs (suc at) (us ++ rest) known settled) (offer_of id (offers us)) (fate h.id settled) (fate h.id b.0) (fate id known)
    (early (length known) m x (omega (arith, e)) ∙ fate_of_part h.id known known ([], append-nil known) ∙ g)
    (λ i. ap (λ k. fate k known) (sym i) ∙ g)
    (found_early id m (suc at) us rest known settled b (omega (arith, e)))
found_early id m at (Fulfil i preimage ∷ us) rest known settled b e = found_early id m (suc at) us rest known settled b (omega (arith, e))
found_early id m at (Fail i ∷ us) rest known settled b e = found_early id m (suc at) us rest known settled b (omega (arith, e))
found_early id m at (Fee feerate_per_kw ∷ us) rest known settled b e = found_early id m (suc at) us rest known settled b (omega (arith, e))

pub found_in_part : (id : ℕ) (mine whole known settled : List Update) → IsBeginning mine whole → IsBeginning settled known
    → removable (fate id known) (offer_of id (offers mine)) ≡ found_in id (length mine) (length known) (pending_htlcs 0 whole known settled)
found_in_part id mine whole known settled w b =
    found_early id (length mine) 0 mine w.0 known settled b (omega arith) ∙ ap (λ l. found_in id (length mine) (length known) (pending_htlcs 0 l known settled)) w.1
