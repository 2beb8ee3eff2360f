-- The lists of one side after its uncommitted updates are forgotten, and what is then kept of pending HTLCs.
use Rattle.std.proofs.Common.{◌≡◌, ℕ, zero, suc, ◌+◌, ◌<◌, ◌≤◌, Bool, true, false, cond, ltb, List, [], ◌∷◌, ◌++◌, length, take, drop, set, get_or, map, filter, sym, ap, ◌∙◌, refl, arith, add-one, length-append, ◌⊎◌, inl, inr}
use Rattle.std.proofs.lemmas.Bool.{cond-true, cond-false, lt-ltb, le-ltb, cases_lt}
use Rattle.std.proofs.lemmas.List.{length-take-le}
use Rattle.updates.specs.declared.changes.Update.{Update}
use Rattle.updates.specs.declared.changes.Update.TheVariants.{Add, Fulfil, Fail, Fee}
use Rattle.updates.specs.declared.stages.Part.{Part}
use Rattle.updates.specs.declared.fates.Fate.{Fate}
use Rattle.updates.specs.declared.fates.Fate.TheVariants.{Live, Fulfilled, Failed}
use Rattle.updates.specs.declared.fates.End.{End}
use Rattle.updates.specs.declared.fates.End.TheVariants.{Never, At}
use Rattle.updates.specs.declared.pending.PendingHtlc.{PendingHtlc}
use Rattle.updates.specs.Updates.{fate_by, fate, newest_feerate_per_kw}
use Rattle.updates.specs.Ends.{later, end_from, end_of, end_within}
use Rattle.updates.specs.Stages.{Stages, stages_of, uncommitted, committed, IsPartOf}
use Rattle.updates.specs.Pending.{pending_if_live, pending_htlcs, is_offered, unnoted, left_at}
use Rattle.updates.specs.Steady.{InOrder, IsBeginning}

-- fewer of the first updates

pub take_of_take : (p w : ℕ) (us : List Update) → p ≤ w → take p (take w us) ≡ take p us
take_of_take zero w us l = refl
take_of_take (suc p) zero us l = absurd (omega (arith, l))
take_of_take (suc p) (suc w) [] l = refl
take_of_take (suc p) (suc w) (u ∷ us) l = ap (λ t. u ∷ t) (take_of_take p w us (omega (arith, l)))

-- a part that is the beginning of another has no more updates
count_below : (us : List Update) (p w : ℕ) → p ≤ length us → w ≤ length us → IsBeginning (take p us) (take w us) → p ≤ w
count_below us p w l k b =
    let e = ap length b.1 in
    let f = length-append (take p us) b.0 in
    let g = length-take-le p us l in
    let h = length-take-le w us k in
    omega (arith, e, f, g, h)

part_cut : (us : List Update) (w : ℕ) (p : Part) → p.count ≤ w → w ≤ length us → IsPartOf us p → IsPartOf (take w us) p
part_cut us w p l k h = record {
  within = (let g = length-take-le w us k in omega (arith, g, l));
  feerate_per_kw = h.feerate_per_kw ∙ ap newest_feerate_per_kw (sym (take_of_take p.count w us l));
}

-- the parts of a list of updates, once those beyond the first are forgotten
pub record AreParts (us : List Update) (w p s t : Part) : Type 0 where
  pub receiver : IsPartOf us w
  pub past : IsPartOf us p
  pub sender : IsPartOf us s
  pub settled : IsPartOf us t

record AreBelow (w p s t : ℕ) : Type 0 where
  past : p ≤ w
  sender : s ≤ w
  settled : t ≤ w

below : (us : List Update) (receiver past sender settled : Part) → AreParts us receiver past sender settled → InOrder (stages_of us receiver.count past.count sender.count settled.count)
    → AreBelow receiver.count past.count sender.count settled.count
below us receiver past sender settled a o =
    let p = count_below us past.count receiver.count a.past.within a.receiver.within o.past in
    let s = count_below us sender.count past.count a.sender.within a.past.within o.sender in
    let t = count_below us settled.count sender.count a.settled.within a.sender.within o.settled in
    record { past = p; sender = omega (arith, p, s); settled = omega (arith, p, s, t) }

pub parts_cut : (us : List Update) (receiver past sender settled : Part) → AreParts us receiver past sender settled → InOrder (stages_of us receiver.count past.count sender.count settled.count)
    → AreParts (take receiver.count us) receiver past sender settled
parts_cut us receiver past sender settled a o =
    let w = receiver.count in
    let l = below us receiver past sender settled a o in
    let k = a.receiver.within in
    record {
      receiver = part_cut us w receiver (omega arith) k a.receiver;
      past = part_cut us w past l.past k a.past;
      sender = part_cut us w sender l.sender k a.sender;
      settled = part_cut us w settled l.settled k a.settled;
    }

pub stages_cut : (us : List Update) (receiver past sender settled : Part) → AreParts us receiver past sender settled → InOrder (stages_of us receiver.count past.count sender.count settled.count)
    → stages_of (take receiver.count us) receiver.count past.count sender.count settled.count ≡ committed (stages_of us receiver.count past.count sender.count settled.count)
stages_cut us receiver past sender settled a o =
    let w = receiver.count in
    let l = below us receiver past sender settled a o in
    let e : take w (take w us) ≡ take w us = take_of_take w w us (omega arith) in
    let p = take_of_take past.count w us l.past in
    let s = take_of_take sender.count w us l.sender in
    let t = take_of_take settled.count w us l.settled in
    λ i. record { known = take w us; with_receiver = e i; past_receiver = p i; with_sender = s i; settled = t i }

pub uncommitted_is : (us : List Update) (w p s t : ℕ) → w ≤ length us → uncommitted (stages_of us w p s t) ≡ drop w us
uncommitted_is us w p s t l = ap (λ n. drop n us) (length-take-le w us l)

-- a loop that changes each element of a list

abbrev pub mapped_front : (PendingHtlc → PendingHtlc) → ℕ → List PendingHtlc → List PendingHtlc
mapped_front f zero es = es
mapped_front f (suc i) [] = []
mapped_front f (suc i) (e ∷ es) = f e ∷ mapped_front f i es

pub mapped_more : (f : PendingHtlc → PendingHtlc) (es xs : List PendingHtlc) (i : ℕ) (d : PendingHtlc) → xs ≡ mapped_front f i es → i < length es → set xs i (f (get_or xs i d)) ≡ mapped_front f (i + 1) es
mapped_more f es xs i d e l = rw (e, add-one) (by es i l)
  where
    by : (es : List PendingHtlc) (i : ℕ) → i < length es → set (mapped_front f i es) i (f (get_or (mapped_front f i es) i d)) ≡ mapped_front f (suc i) es
    by [] i l = absurd (omega arith)
    by (e ∷ es) zero l = refl
    by (e ∷ es) (suc i) l = ap (λ xs. f e ∷ xs) (by es i (omega (arith, l)))

pub mapped_end : (f : PendingHtlc → PendingHtlc) (es : List PendingHtlc) → mapped_front f (length es) es ≡ map f es
mapped_end f [] = refl
mapped_end f (e ∷ es) = ap (λ xs. f e ∷ xs) (mapped_end f es)

-- the end of an HTLC among the first updates of the other side

none_within : (e : End) → end_within 0 e ≡ Never
none_within Never = refl
none_within (At p f) = cond-false _ (At p f) Never (le-ltb p 0 (omega arith))

later_within : (k : ℕ) (e : End) → end_within (suc k) (later e) ≡ later (end_within k e)
later_within k Never = refl
later_within k (At p f) = by (cases_lt p k)
  where
    by : (p < k) ⊎ (k ≤ p) → cond (ltb (suc p) (suc k)) (At (suc p) f) Never ≡ later (cond (ltb p k) (At p f) Never)
    by (inl l) = cond-true _ (At (suc p) f) Never (lt-ltb (suc p) (suc k) (omega (arith, l))) ∙ sym (ap later (cond-true _ (At p f) Never (lt-ltb p k l)))
    by (inr l) = cond-false _ (At (suc p) f) Never (le-ltb (suc p) (suc k) (omega (arith, l))) ∙ sym (ap later (cond-false _ (At p f) Never (le-ltb p k l)))

first_within : (k : ℕ) (f : Fate) (e d : End) → end_within k e ≡ d → end_within (suc k) (end_from f e) ≡ end_from f d
first_within k Live e d h = later_within k e ∙ ap later h
first_within k Fulfilled e d h = cond-true _ (At 0 Fulfilled) Never (lt-ltb 0 (suc k) (omega arith))
first_within k Failed e d h = cond-true _ (At 0 Failed) Never (lt-ltb 0 (suc k) (omega arith))

end_of-start : (id : ℕ) (us vs : List Update) → end_within (length us) (end_of id (us ++ vs)) ≡ end_of id us
end_of-start id [] vs = none_within (end_of id vs)
end_of-start id (u ∷ us) vs = first_within (length us) (fate_by id u) (end_of id (us ++ vs)) (end_of id us) (end_of-start id us vs)

pub end_of-part : (id : ℕ) (part known : List Update) → IsBeginning part known → end_within (length part) (end_of id known) ≡ end_of id part
end_of-part id part known b = ap (λ l. end_within (length part) (end_of id l)) (sym b.1) ∙ end_of-start id part b.0

-- the pending HTLCs of the first updates of their side

passed_over : (m : ℕ) (f : Fate) (x : PendingHtlc) (xs : List PendingHtlc) → m ≤ x.added → filter (is_offered m) xs ≡ [] → filter (is_offered m) (pending_if_live f x xs) ≡ []
passed_over m Live x xs l e = cond-false _ (x ∷ filter (is_offered m) xs) (filter (is_offered m) xs) (le-ltb x.added m l) ∙ e
passed_over m Fulfilled x xs l e = e
passed_over m Failed x xs l e = e

none_left : (m at : ℕ) (us known settled : List Update) → m ≤ at → filter (is_offered m) (pending_htlcs at us known settled) ≡ []
none_left m at [] known settled l = refl
none_left m at (Add h ∷ us) known settled l =
    passed_over m (fate h.id settled) (record { htlc = h; added = at; end = end_of h.id known }) (pending_htlcs (suc at) us known settled) l (none_left m (suc at) us known settled (omega (arith, l)))
none_left m at (Fulfil id preimage ∷ us) known settled l = none_left m (suc at) us known settled (omega (arith, l))
none_left m at (Fail id ∷ us) known settled l = none_left m (suc at) us known settled (omega (arith, l))
none_left m at (Fee feerate_per_kw ∷ us) known settled l = none_left m (suc at) us known settled (omega (arith, l))

stays : (m d : ℕ) (f : Fate) (x y : PendingHtlc) (xs ys : List PendingHtlc) → x.added < m → unnoted d x ≡ y → left_at m d xs ≡ ys → left_at m d (pending_if_live f x xs) ≡ pending_if_live f y ys
stays m d Live x y xs ys l e h =
    ap (map (unnoted d)) (cond-true _ (x ∷ filter (is_offered m) xs) (filter (is_offered m) xs) (lt-ltb x.added m l)) ∙ ap (λ z. z ∷ left_at m d xs) e ∙ ap (λ zs. y ∷ zs) h
stays m d Fulfilled x y xs ys l e h = h
stays m d Failed x y xs ys l e h = h

left_early : (m at : ℕ) (us vs part known settled : List Update) → IsBeginning part known → at + length us ≡ m
    → left_at m (length part) (pending_htlcs at (us ++ vs) known settled) ≡ pending_htlcs at us part settled
left_early m at [] vs part known settled b e = ap (map (unnoted (length part))) (none_left m at vs known settled (omega (arith, e)))
left_early m at (Add h ∷ us) vs part known settled b e =
    stays m (length part) (fate h.id settled) (record { htlc = h; added = at; end = end_of h.id known }) (record { htlc = h; added = at; end = end_of h.id part })
    (pending_htlcs (suc at) (us ++ vs) known settled) (pending_htlcs (suc at) us part settled) (omega (arith, e))
    (λ i. record { htlc = h; added = at; end = end_of-part h.id part known b i })
    (left_early m (suc at) us vs part known settled b (omega (arith, e)))
left_early m at (Fulfil id preimage ∷ us) vs part known settled b e = left_early m (suc at) us vs part known settled b (omega (arith, e))
left_early m at (Fail id ∷ us) vs part known settled b e = left_early m (suc at) us vs part known settled b (omega (arith, e))
left_early m at (Fee feerate_per_kw ∷ us) vs part known settled b e = left_early m (suc at) us vs part known settled b (omega (arith, e))

pub left_in_part : (mine whole part known settled : List Update) → IsBeginning mine whole → IsBeginning part known
    → left_at (length mine) (length part) (pending_htlcs 0 whole known settled) ≡ pending_htlcs 0 mine part settled
left_in_part mine whole part known settled w b =
    ap (λ l. left_at (length mine) (length part) (pending_htlcs 0 l known settled)) (sym w.1) ∙ left_early (length mine) 0 mine w.0 part known settled b (omega arith)
