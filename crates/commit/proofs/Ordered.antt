-- The outputs of a commitment have one order.
use Rattle.std.proofs.Common.{◌≡◌, zero, suc, ◌+◌, Bool, true, false, not, cond, List, [], ◌∷◌, get_or, refl, sym, ap, subst, ◌∙◌, arith}
use Rattle.std.specs.Prelude.{◌&&◌}
use Rattle.std.specs.List.{filter}
use Rattle.std.specs.List.Sorted.{IsPermutation, IsSortedBy, IsStableBy, ties}
use Rattle.std.specs.Cmp.{IsStrictWeakOrder, IsTotalOrder}
use Rattle.std.proofs.lemmas.Cmp.{then_total, on_total, nat_cmp_total, nat_list_cmp_total}
use Rattle.std.proofs.lemmas.Bool.{and_parts, false≢true}
use Rattle.std.proofs.lemmas.List.Sorted.{IsPermutation-refl, IsPermutation-cons, IsPermutation-trans, IsPermutation-middle}
use Rattle.std.proofs.lemmas.List.MinMax.{ranks_by}
use Rattle.commit.specs.declared.outputs.CommitmentOutput.{CommitmentOutput as Output}
use Rattle.commit.specs.Order.{expiry_height_of, output_cmp, stands_before, put_in, in_order, ThereIsOneOrder}

total : IsTotalOrder output_cmp
unfolding output_cmp
total = then_total (on_total (λ (o : Output). o.value) nat_cmp_total) (then_total (on_total (λ (o : Output). o.program) nat_list_cmp_total) (on_total (λ (o : Output). expiry_height_of o.kind) nat_cmp_total))

pub weak : IsStrictWeakOrder stands_before
weak = ranks_by total (λ o. o)

-- none of them stands before this one
abbrev pub Leads : Output → List Output → Type 0
Leads x [] = Unit {0}
Leads x (y ∷ ys) = (stands_before y x ≡ false) × Leads x ys

-- nor before an earlier one
abbrev pub Rises : List Output → Type 0
Rises [] = Unit {0}
Rises (x ∷ xs) = Leads x xs × Rises xs

leads_on : (x y : Output) (ys : List Output) → stands_before y x ≡ false → Leads y ys → Leads x ys
leads_on x y [] h l = tt
leads_on x y (z ∷ zs) h l = (weak.chain z y x l.0 h, leads_on x y zs h l.1)

next : (x y : Output) (ys : List Output) → IsSortedBy stands_before (x ∷ y ∷ ys) → stands_before y x ≡ false
next x y ys s = s 0 x (omega arith) (omega arith)

after : (x : Output) (ys : List Output) → IsSortedBy stands_before (x ∷ ys) → IsSortedBy stands_before ys
after x ys s k d low high =
    let e : suc k + 1 ≡ suc (k + 1) = omega arith in
    subst (λ n. stands_before (get_or (x ∷ ys) n d) (get_or ys k d) ≡ false) e (s (suc k) d (omega arith) (omega arith))

rises : (xs : List Output) → IsSortedBy stands_before xs → Rises xs
rises [] s = tt
rises (x ∷ []) s = (tt, tt)
rises (x ∷ y ∷ ys) s =
    let r : Rises (y ∷ ys) = rises (y ∷ ys) (after x (y ∷ ys) s) in
    ((next x y ys s, leads_on x y ys (next x y ys s) r.0), r)

sorted : (xs : List Output) → Rises xs → IsSortedBy stands_before xs
sorted [] r k d low high = absurd (omega arith)
sorted (x ∷ []) r k d low high = absurd (omega arith)
sorted (x ∷ y ∷ ys) r zero d low high = r.0.0
sorted (x ∷ y ∷ ys) r (suc k) d low high =
    let e : suc (k + 1) ≡ suc k + 1 = omega arith in
    subst (λ n. stands_before (get_or (x ∷ y ∷ ys) n d) (get_or (y ∷ ys) k d) ≡ false) e (sorted (y ∷ ys) r.1 k d (omega arith) (omega arith))

-- what is left of a list by a test still has nothing before x
leads_kept : (p : Output → Bool) (x : Output) (ys : List Output) → Leads x ys → Leads x (filter p ys)
leads_kept p x [] l = tt
leads_kept p x (y ∷ ys) l = by (p y) (leads_kept p x ys l.1)
  where
    by : (b : Bool) → Leads x (filter p ys) → Leads x (cond b (y ∷ filter p ys) (filter p ys))
    by true r = (l.0, r)
    by false r = r

-- each ties with itself
irreflexive : (x : Output) (b : Bool) → stands_before x x ≡ b → stands_before x x ≡ false
irreflexive x true e = weak.one_way x x e
irreflexive x false e = e

ties_itself : (x : Output) → ties stands_before x x ≡ true
ties_itself x = let e : stands_before x x ≡ false = irreflexive x (stands_before x x) refl in rw e refl

ties_back : (x y : Output) → ties stands_before x y ≡ ties stands_before y x
ties_back x y = and_comm (not (stands_before x y)) (not (stands_before y x))
  where
    and_comm : (a b : Bool) → (a && b) ≡ (b && a)
    and_comm true true = refl
    and_comm true false = refl
    and_comm false true = refl
    and_comm false false = refl

tied : (x y : Output) → stands_before x y ≡ false → stands_before y x ≡ false → ties stands_before x y ≡ true
tied x y a b = rw (a, b) refl

-- two ascending lists with the same ties for each output are equal
kept : (b : Bool) (y : Output) (ys : List Output) → b ≡ true → cond b (y ∷ ys) ys ≡ y ∷ ys
kept b y ys e = rw e refl

left_out : (b : Bool) (y : Output) (ys zs : List Output) → b ≡ false → cond b (y ∷ zs) ys ≡ ys
left_out b y ys zs e = rw e refl

some_first : (x y : Output) (ys zs : List Output) → Leads x zs → zs ≡ y ∷ ys → stands_before y x ≡ false
some_first x y ys zs l e = let h : Leads x (y ∷ ys) = subst (Leads x) e l in h.0

same_head : (y z : Output) (ys zs : List Output) → y ∷ ys ≡ z ∷ zs → y ≡ z
same_head y z ys zs e = cc

same_tail : (y z : Output) (ys zs : List Output) → y ∷ ys ≡ z ∷ zs → ys ≡ zs
same_tail y z ys zs e = cc

-- where y does not tie with z, y is kept among what follows z
not_after : (y z : Output) (ys zs : List Output) → Leads z zs → ties stands_before y z ≡ false
    → filter (ties stands_before y) (y ∷ ys) ≡ filter (ties stands_before y) (z ∷ zs) → stands_before y z ≡ false
not_after y z ys zs l n e =
    let here : filter (ties stands_before y) (y ∷ ys) ≡ y ∷ filter (ties stands_before y) ys = kept _ y _ (ties_itself y) in
    let there : filter (ties stands_before y) (z ∷ zs) ≡ filter (ties stands_before y) zs = left_out _ z _ _ n in
    some_first z y (filter (ties stands_before y) ys) (filter (ties stands_before y) zs) (leads_kept (ties stands_before y) z zs l) (sym there ∙ sym e ∙ here)

first : (y z : Output) (ys zs : List Output) (b : Bool) → ties stands_before y z ≡ b → Leads y ys → Leads z zs
    → ((x : Output) → filter (ties stands_before x) (y ∷ ys) ≡ filter (ties stands_before x) (z ∷ zs)) → y ≡ z
first y z ys zs true t k l e =
    same_head y z (filter (ties stands_before y) ys) (filter (ties stands_before y) zs)
    (sym (kept _ y _ (ties_itself y)) ∙ e y ∙ kept _ z _ t)
first y z ys zs false t k l e =
    let a : stands_before y z ≡ false = not_after y z ys zs l t (e y) in
    let b : stands_before z y ≡ false = not_after z y zs ys k (ties_back z y ∙ t) (sym (e z)) in
    absurd (false≢true (sym t ∙ tied y z a b))

rest : (x y : Output) (ys zs : List Output) (b : Bool) → ties stands_before x y ≡ b
    → filter (ties stands_before x) (y ∷ ys) ≡ filter (ties stands_before x) (y ∷ zs) → filter (ties stands_before x) ys ≡ filter (ties stands_before x) zs
rest x y ys zs true t e = same_tail y y _ _ (sym (kept _ y _ t) ∙ e ∙ kept _ y _ t)
rest x y ys zs false t e = sym (left_out _ y _ _ t) ∙ e ∙ left_out _ y _ _ t

none : (y : Output) (ys : List Output) → [] ≡ filter (ties stands_before y) (y ∷ ys) → ⊥
none y ys e = let h : [] ≡ y ∷ filter (ties stands_before y) ys = e ∙ kept _ y _ (ties_itself y) in cc

pub one : (ys zs : List Output) → Rises ys → Rises zs → ((x : Output) → filter (ties stands_before x) ys ≡ filter (ties stands_before x) zs) → ys ≡ zs
one [] [] r s e = refl
one [] (z ∷ zs) r s e = absurd (none z zs (e z))
one (y ∷ ys) [] r s e = absurd (none y ys (sym (e y)))
one (y ∷ ys) (z ∷ zs) r s e =
    let h : y ≡ z = first y z ys zs (ties stands_before y z) refl r.0 s.0 e in
    let f : (x : Output) → filter (ties stands_before x) (y ∷ ys) ≡ filter (ties stands_before x) (y ∷ zs) = λ x. e x ∙ ap (λ w. filter (ties stands_before x) (w ∷ zs)) (sym h) in
    let t : ys ≡ zs = one ys zs r.1 s.1 (λ x. rest x y ys zs (ties stands_before x y) refl (f x)) in
    cc

-- one more output
put_same : (x : Output) (ys : List Output) → IsPermutation (x ∷ ys) (put_in x ys)
put_same x [] = IsPermutation-refl (x ∷ [])
put_same x (y ∷ ys) = by (stands_before y x) (put_same x ys)
  where
    by : (b : Bool) → IsPermutation (x ∷ ys) (put_in x ys) → IsPermutation (x ∷ y ∷ ys) (cond b (y ∷ put_in x ys) (x ∷ y ∷ ys))
    by true r = IsPermutation-trans _ _ _ (IsPermutation-middle (x ∷ []) y ys) (IsPermutation-cons y _ _ r)
    by false r = IsPermutation-refl _

leads_put : (z x : Output) (ys : List Output) → stands_before x z ≡ false → Leads z ys → Leads z (put_in x ys)
leads_put z x [] h l = (h, tt)
leads_put z x (y ∷ ys) h l = by (stands_before y x) (leads_put z x ys h l.1)
  where
    by : (b : Bool) → Leads z (put_in x ys) → Leads z (cond b (y ∷ put_in x ys) (x ∷ y ∷ ys))
    by true r = (l.0, r)
    by false r = (h, l)

rises_put : (x : Output) (ys : List Output) → Rises ys → Rises (put_in x ys)
rises_put x [] r = (tt, tt)
rises_put x (y ∷ ys) r = by (stands_before y x) refl (rises_put x ys r.1)
  where
    by : (b : Bool) → stands_before y x ≡ b → Rises (put_in x ys) → Rises (cond b (y ∷ put_in x ys) (x ∷ y ∷ ys))
    by true e q = (leads_put y x ys (weak.one_way y x e) r.0, q)
    by false e q = ((e, leads_on x y ys e r.0), r)

-- what ties with w stands as it did
not_true : (b : Bool) → not b ≡ true → b ≡ false
not_true true h = sym h
not_true false h = refl

tied_front : (u v : Output) → ties stands_before u v ≡ true → stands_before u v ≡ false
tied_front u v h = not_true (stands_before u v) (and_parts (not (stands_before u v)) (not (stands_before v u)) h).0

tied_back : (u v : Output) → ties stands_before u v ≡ true → stands_before v u ≡ false
tied_back u v h = not_true (stands_before v u) (and_parts (not (stands_before u v)) (not (stands_before v u)) h).1

apart : (w x y : Output) → stands_before y x ≡ true → ties stands_before w x ≡ true → ties stands_before w y ≡ true → ⊥
apart w x y e s t = false≢true (sym (weak.chain y w x (tied_back w y t) (tied_front w x s)) ∙ e)

stable_put : (w x : Output) (ys : List Output) → filter (ties stands_before w) (put_in x ys) ≡ filter (ties stands_before w) (x ∷ ys)
stable_put w x [] = refl
stable_put w x (y ∷ ys) = by (stands_before y x) refl (ties stands_before w x) refl (ties stands_before w y) refl (stable_put w x ys)
  where
    by : (b : Bool) → stands_before y x ≡ b → (s : Bool) → ties stands_before w x ≡ s → (t : Bool) → ties stands_before w y ≡ t
        → filter (ties stands_before w) (put_in x ys) ≡ cond (ties stands_before w x) (x ∷ filter (ties stands_before w) ys) (filter (ties stands_before w) ys)
        → filter (ties stands_before w) (cond b (y ∷ put_in x ys) (x ∷ y ∷ ys))
        ≡ cond (ties stands_before w x) (x ∷ cond (ties stands_before w y) (y ∷ filter (ties stands_before w) ys) (filter (ties stands_before w) ys)) (cond (ties stands_before w y) (y ∷ filter (ties stands_before w) ys) (filter (ties stands_before w) ys))
    by false e s f t g h = refl
    by true e true f true g h = absurd (apart w x y e f g)
    by true e true f false g h = rw (g, h, f) refl
    by true e false f true g h = rw (g, h, f) refl
    by true e false f false g h = rw (g, h, f) refl

same : (xs : List Output) → IsPermutation xs (in_order xs)
unfolding in_order
same [] = IsPermutation-refl []
same (x ∷ xs) = IsPermutation-trans _ _ _ (IsPermutation-cons x _ _ (same xs)) (put_same x (in_order xs))

pub rises_in_order : (xs : List Output) → Rises (in_order xs)
unfolding in_order
rises_in_order [] = tt
rises_in_order (x ∷ xs) = rises_put x (in_order xs) (rises_in_order xs)

stable : (w : Output) (xs : List Output) → filter (ties stands_before w) (in_order xs) ≡ filter (ties stands_before w) xs
unfolding in_order
stable w [] = refl
stable w (x ∷ xs) = stable_put w x (in_order xs) ∙ ap (λ ys. cond (ties stands_before w x) (x ∷ ys) ys) (stable w xs)

-- the order by a sort's clauses
pub by_sorting : (outputs ordered : List Output) → IsSortedBy stands_before ordered → IsStableBy stands_before outputs ordered → ordered ≡ in_order outputs
by_sorting outputs ordered s t = one ordered (in_order outputs) (rises ordered s) (rises_in_order outputs) (λ x. t x ∙ sym (stable x outputs))

pub there_is_one : ThereIsOneOrder
there_is_one outputs = (record { same = same outputs; sorted = sorted (in_order outputs) (rises_in_order outputs); stable = λ x. stable x outputs }, λ ordered o. by_sorting outputs ordered o.sorted o.stable)
