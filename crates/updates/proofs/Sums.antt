-- Fates and sums, over longer lists of offers and of updates.
use Rattle.std.proofs.Common.{◌≡◌, ℕ, ◌+◌, ◌≤◌, List, [], ◌∷◌, ◌++◌, length, sym, ap, ◌∙◌, refl, arith, append_assoc, append-nil}
use Rattle.updates.specs.declared.changes.Update.{Update}
use Rattle.updates.specs.declared.changes.Update.TheVariants.{Add, Fulfil, Fail, Fee}
use Rattle.terms.specs.declared.htlcs.Htlc.{Htlc}
use Rattle.updates.specs.Updates.{first_of_fates, fate_by, fate, offers, total, if_live, if_fulfilled, unless_failed, one_if_live, spent_msat, gained_msat, pending_msat, live_count, kept_if_live, live_in, live}
use Rattle.updates.specs.declared.fates.Fate.{Fate}
use Rattle.updates.specs.declared.fates.Fate.TheVariants.{Live, Fulfilled, Failed}
use Rattle.updates.specs.Steady.{IsBeginning}

pub begins : (xs : List Update) → IsBeginning xs xs
begins xs = ([], append-nil xs)

pub begins_on : (xs ys zs : List Update) → IsBeginning xs ys → IsBeginning ys zs → IsBeginning xs zs
begins_on xs ys zs p q = (p.0 ++ q.0, sym (append_assoc xs p.0 q.0) ∙ ap (λ l. l ++ q.0) p.1 ∙ q.1)

pub begins_longer : (xs ys zs : List Update) → IsBeginning xs ys → IsBeginning xs (ys ++ zs)
begins_longer xs ys zs p = begins_on xs ys (ys ++ zs) p (zs, refl)

first_of_three : (f g h : Fate) → first_of_fates (first_of_fates f g) h ≡ first_of_fates f (first_of_fates g h)
first_of_three Live g h = refl
first_of_three Fulfilled g h = refl
first_of_three Failed g h = refl

pub fate-append : (id : ℕ) (us vs : List Update) → fate id (us ++ vs) ≡ first_of_fates (fate id us) (fate id vs)
fate-append id [] vs = refl
fate-append id (u ∷ us) vs = ap (first_of_fates (fate_by id u)) (fate-append id us vs) ∙ sym (first_of_three (fate_by id u) (fate id us) (fate id vs))

pub offers-append : (us vs : List Update) → offers (us ++ vs) ≡ offers us ++ offers vs
offers-append [] vs = refl
offers-append (Add o ∷ us) vs = ap (λ l. o ∷ l) (offers-append us vs)
offers-append (Fulfil i p ∷ us) vs = offers-append us vs
offers-append (Fail i ∷ us) vs = offers-append us vs
offers-append (Fee r ∷ us) vs = offers-append us vs

pub total-append : (f : Fate → ℕ → ℕ) (os ps : List Htlc) (ends : List Update) → total f (os ++ ps) ends ≡ total f os ends + total f ps ends
total-append f [] ps ends = omega arith
total-append f (o ∷ os) ps ends = let h = total-append f os ps ends in omega (arith, h)

-- a weight that a later fate doesn't raise, or doesn't lower
abbrev pub Falls : (Fate → ℕ → ℕ) → Type 0
Falls f = (g h : Fate) (n : ℕ) → f (first_of_fates g h) n ≤ f g n

abbrev pub Rises : (Fate → ℕ → ℕ) → Type 0
Rises f = (g h : Fate) (n : ℕ) → f g n ≤ f (first_of_fates g h) n

pub total_falls : (f : Fate → ℕ → ℕ) → Falls f → (os : List Htlc) (us vs : List Update) → total f os (us ++ vs) ≤ total f os us
total_falls f w [] us vs = omega arith
total_falls f w (o ∷ os) us vs =
    let h = total_falls f w os us vs in
    let g : f (fate o.id (us ++ vs)) o.amount_msat ≤ f (fate o.id us) o.amount_msat = rw fate-append (w (fate o.id us) (fate o.id vs) o.amount_msat) in
    omega (arith, g, h)

pub total_rises : (f : Fate → ℕ → ℕ) → Rises f → (os : List Htlc) (us vs : List Update) → total f os us ≤ total f os (us ++ vs)
total_rises f w [] us vs = omega arith
total_rises f w (o ∷ os) us vs =
    let h = total_rises f w os us vs in
    let g : f (fate o.id us) o.amount_msat ≤ f (fate o.id (us ++ vs)) o.amount_msat = rw fate-append (w (fate o.id us) (fate o.id vs) o.amount_msat) in
    omega (arith, g, h)

if_fulfilled_rises : Rises if_fulfilled
if_fulfilled_rises Live h n = omega arith
if_fulfilled_rises Fulfilled h n = omega arith
if_fulfilled_rises Failed h n = omega arith

unless_failed_falls : Falls unless_failed
unless_failed_falls Live Live n = omega arith
unless_failed_falls Live Fulfilled n = omega arith
unless_failed_falls Live Failed n = omega arith
unless_failed_falls Fulfilled h n = omega arith
unless_failed_falls Failed h n = omega arith

one_if_live_falls : Falls one_if_live
one_if_live_falls Live Live n = omega arith
one_if_live_falls Live Fulfilled n = omega arith
one_if_live_falls Live Failed n = omega arith
one_if_live_falls Fulfilled h n = omega arith
one_if_live_falls Failed h n = omega arith

-- sums over a longer list of the other side's updates, or of one's own

pub spent_falls : (mine xs ys : List Update) → IsBeginning xs ys → spent_msat mine ys ≤ spent_msat mine xs
spent_falls mine xs ys p = rw (← p.1) (total_falls unless_failed unless_failed_falls (offers mine) xs p.0)

pub live_count_falls : (mine xs ys : List Update) → IsBeginning xs ys → live_count mine ys ≤ live_count mine xs
live_count_falls mine xs ys p = rw (← p.1) (total_falls one_if_live one_if_live_falls (offers mine) xs p.0)

pub gained_rises : (xs ys others : List Update) → IsBeginning xs ys → gained_msat xs others ≤ gained_msat ys others
gained_rises xs ys others p = rw (← p.1) (total_rises if_fulfilled if_fulfilled_rises (offers others) xs p.0)

pub gained-append : (mine us vs : List Update) → gained_msat mine (us ++ vs) ≡ gained_msat mine us + gained_msat mine vs
gained-append mine us vs = ap (λ os. total if_fulfilled os mine) (offers-append us vs) ∙ total-append if_fulfilled (offers us) (offers vs) mine

pub spent-append : (us vs others : List Update) → spent_msat (us ++ vs) others ≡ spent_msat us others + spent_msat vs others
spent-append us vs others = ap (λ os. total unless_failed os others) (offers-append us vs) ∙ total-append unless_failed (offers us) (offers vs) others

pub gained_of_more : (mine xs ys : List Update) → IsBeginning xs ys → gained_msat mine xs ≤ gained_msat mine ys
gained_of_more mine xs ys p = let h = gained-append mine xs p.0 in rw (← p.1) (omega (arith, h))

pub spent_of_fewer : (xs ys others : List Update) → IsBeginning xs ys → spent_msat xs others ≤ spent_msat ys others
spent_of_fewer xs ys others p = let h = spent-append xs p.0 others in rw (← p.1) (omega (arith, h))

pub live_count-append : (us vs others : List Update) → live_count (us ++ vs) others ≡ live_count us others + live_count vs others
live_count-append us vs others = ap (λ os. total one_if_live os others) (offers-append us vs) ∙ total-append one_if_live (offers us) (offers vs) others

pub live_count_of_fewer : (xs ys others : List Update) → IsBeginning xs ys → live_count xs others ≤ live_count ys others
live_count_of_fewer xs ys others p = let h = live_count-append xs p.0 others in rw (← p.1) (omega (arith, h))

-- the number of live HTLCs
one_more : (f : Fate) (h : Htlc) (hs : List Htlc) (amount_msat : ℕ) → length (kept_if_live f h hs) ≡ one_if_live f amount_msat + length hs
one_more Live h hs amount_msat = omega arith
one_more Fulfilled h hs amount_msat = omega arith
one_more Failed h hs amount_msat = omega arith

live_in-length : (os : List Htlc) (ends : List Update) → length (live_in os ends) ≡ total one_if_live os ends
live_in-length [] ends = refl
live_in-length (o ∷ os) ends = one_more (fate o.id ends) o (live_in os ends) o.amount_msat ∙ ap (λ n. one_if_live (fate o.id ends) o.amount_msat + n) (live_in-length os ends)

pub live-length : (mine others : List Update) → length (live mine others) ≡ live_count mine others
live-length mine others = live_in-length (offers mine) others

-- what one side spent is what is in live HTLCs and what the other side gained
weights_add : (f : Fate) (n : ℕ) → unless_failed f n ≡ if_live f n + if_fulfilled f n
weights_add Live n = omega arith
weights_add Fulfilled n = omega arith
weights_add Failed n = omega arith

totals_add : (os : List Htlc) (ends : List Update) → total unless_failed os ends ≡ total if_live os ends + total if_fulfilled os ends
totals_add [] ends = refl
totals_add (o ∷ os) ends = let h = totals_add os ends in let g = weights_add (fate o.id ends) o.amount_msat in omega (arith, g, h)

pub spent_is : (mine others : List Update) → spent_msat mine others ≡ pending_msat mine others + gained_msat others mine
spent_is mine others = totals_add (offers mine) others
