-- The least of lists, and of what the commitments that may close a channel give.
use Rattle.std.proofs.Common.{◌≡◌, ℕ, suc, ◌+◌, ◌-◌, ◌*◌, ◌<◌, ◌≤◌, ◌^◌, min, Bool, true, false, not, List, [], ◌∷◌, ◌++◌, map, take, drop, length, get_or, Result, Ok, Err, refl, sym, ap, ◌∙◌, subst, arith}
use Rattle.std.specs.Prelude.{IfOk, filter}
use Rattle.std.specs.declared.alloc.AllocError.{AllocError}
use Rattle.std.proofs.Math.Seq.{drop-cons}
use Rattle.std.proofs.lemmas.List.{drop_all}
use Rattle.std.proofs.lemmas.List.Filters.{sum_by-filter_both}
use Rattle.std.proofs.lemmas.List.Sums.{sum_by-cons}
use Rattle.std.proofs.lemmas.Option.{slice_get_read}
use Rattle.terms.specs.declared.htlcs.Htlc.{Htlc}
use Rattle.terms.specs.declared.agreement.Terms.{Terms}
use Rattle.commit.specs.declared.fees.Direction.{Direction}
use Rattle.commit.specs.declared.fees.Direction.TheVariants.{Offered, Received}
use Rattle.commit.specs.declared.outputs.CommitmentOutput.{CommitmentOutput}
use Rattle.commit.specs.declared.amounts.Amounts.{Amounts}
use Rattle.commit.specs.Fees.{satoshis_of, fee_sat_of, htlc_weight}
use Rattle.commit.specs.Amounts.{amounts_of}
use Rattle.commit.specs.Sums.{worth_sat_of}
use Rattle.penalty.specs.Worth.{staged, value_of}
use Rattle.channel.specs.declared.commitments.CommitmentState.{CommitmentState}
use Rattle.channel.specs.Numbered.{AreNumbered}
use Rattle.channel.specs.States.{State}
use Rattle.channel.specs.Tokens.{contents_of}
use Rattle.worth_laws.specs.Shares.{counts_on, counted_sat, values_sat, AllIsTheCapacity}
use Rattle.worth_laws.specs.Counted.{counted}
use Rattle.worth_laws.specs.Placed.{placed_sat, SharesArePlaced}
use Rattle.worth_laws.specs.Left.{left_sat_of, owners_left_sat, LeftIsPlaced}
use Rattle.worth_laws.specs.Least.{peers_sat, least, own_left_sat, revoked_left_sat, at_least_sat}

-- ---- lists

-- the least of two of them may take their place
pub lowered : (n m : ℕ) (xs : List ℕ) → least (min n m ∷ xs) ≡ min n (least (m ∷ xs))
lowered n m [] = refl
lowered n m (x ∷ xs) = by n m (least (x ∷ xs))
  where
    by : (a b c : ℕ) → min (min a b) c ≡ min a (min b c)
    by a b c = omega arith

-- the least of a list and the rest is the least of all
pub joined : (n : ℕ) (xs ys : List ℕ) → least (least (n ∷ xs) ∷ ys) ≡ least ((n ∷ xs) ++ ys)
joined n [] ys = refl
joined n (x ∷ xs) ys = lowered n (least (x ∷ xs)) ys ∙ ap (min n) (joined x xs ys)

-- it is at most the first
pub least_first : (n : ℕ) (xs : List ℕ) → least (n ∷ xs) ≤ n
least_first n [] = omega arith
least_first n (x ∷ xs) = omega arith

-- what is left from here, where one more was taken
pub least_step : {A : Type 0} (f : A → ℕ) (xs : List A) (i : ℕ) (x : A) (now later sat whole : ℕ) → i < length xs → x ≡ get_or xs i x → later ≡ min now sat → sat ≡ f x
    → least (now ∷ map f (drop i xs)) ≡ whole → least (later ∷ map f (drop (i + 1) xs)) ≡ whole
least_step f xs i x now later sat whole l e n s h =
    let next : suc i ≡ i + 1 = omega arith in
    ap (λ m. least (m ∷ map f (drop (i + 1) xs))) (n ∙ ap (min now) s)
    ∙ lowered now (f x) (map f (drop (i + 1) xs))
    ∙ ap (λ j. min now (least (f x ∷ map f (drop j xs)))) (sym next)
    ∙ ap (λ y. least (now ∷ map f (y ∷ drop (suc i) xs))) e
    ∙ ap (λ ys. least (now ∷ map f ys)) (sym (drop-cons xs i x l))
    ∙ h

pub least_end : {A : Type 0} (f : A → ℕ) (xs : List A) (i now whole : ℕ) → length xs ≤ i → least (now ∷ map f (drop i xs)) ≡ whole → now ≡ whole
least_end f xs i now whole l h = sym (ap (λ ys. least (now ∷ map f ys)) (drop_all i xs l)) ∙ h

-- ---- the side's own newest commitment

-- it is the only one from its number on
only_newest : (n : ℕ) (cs : List CommitmentState) (k : CommitmentState) → length cs ≡ n + 1 → k ≡ get_or cs n k → drop n cs ≡ k ∷ []
only_newest n cs k many at =
    let within : n < length cs = omega (arith, many) in
    let past : length cs ≤ suc n = omega (arith, many) in
    drop-cons cs n k within ∙ ap (λ x. x ∷ drop (suc n) cs) (sym at) ∙ ap (λ xs. k ∷ xs) (drop_all (suc n) cs past)

pub newest_is : (known : Htlc → Bool) (s : State) (terms : Terms) (cs : List CommitmentState) (n : ℕ) (k : CommitmentState) (given : Result ℕ AllocError) → terms ≡ s.held.terms → cs ≡ s.mine → n ≡ s.number
    → AreNumbered s.held.terms s.held.side (s.number + 1) cs → k ≡ get_or cs n k → IfOk given (λ sat. sat ≡ value_of (counted true known (λ _. true) (contents_of terms k)))
    → IfOk given (λ sat. map (own_left_sat known s) (drop s.number s.mine) ≡ sat ∷ [])
newest_is known s terms cs n k (Err e) same are number numbered at is = tt
newest_is known s terms cs n k (Ok sat) same are number numbered at is =
    ap (λ xs. map (own_left_sat known s) (drop s.number xs)) (sym are)
    ∙ ap (map (own_left_sat known s)) (only_newest s.number cs k numbered.count (subst (λ m. k ≡ get_or cs m k) number at))
    ∙ ap (λ m. m ∷ []) (ap (λ t. value_of (counted true known (λ _. true) (contents_of t k))) (sym same) ∙ sym is)

-- ---- at most the capacity

-- the outputs that count are worth at most all outputs
at_most_all : (own : Bool) (known : Htlc → Bool) (os : List CommitmentOutput) → counted_sat own known os ≤ values_sat os
at_most_all own known os =
    let both = sum_by-filter_both (λ (o : CommitmentOutput). counts_on own known o.kind) (λ o. not (counts_on own known o.kind)) (λ o. refl) (λ (o : CommitmentOutput). o.value) os in
    part _ _ _ both
  where
    part : (a b c : ℕ) → a + b ≡ c → a ≤ c
    part _ _ _ e = omega (arith, e)

-- nor is what is left worth more than the outputs
left_below : (direction : Direction) (feerate_per_kw : ℕ) (hs : List Htlc) → left_sat_of direction feerate_per_kw hs ≤ worth_sat_of hs
left_below direction feerate_per_kw [] = omega arith
left_below direction feerate_per_kw (h ∷ hs) =
    let a = sum_by-cons (λ (x : Htlc). satoshis_of x.amount_msat - fee_sat_of (htlc_weight direction) feerate_per_kw) h hs in
    let b = sum_by-cons (λ (x : Htlc). satoshis_of x.amount_msat) h hs in
    joined_below _ _ (satoshis_of h.amount_msat) (fee_sat_of (htlc_weight direction) feerate_per_kw) _ _ a b (left_below direction feerate_per_kw hs)
  where
    joined_below : (s t value fee u v : ℕ) → s ≡ value - fee + u → t ≡ value + v → u ≤ v → s ≤ t
    joined_below s t value fee u v e f l = omega (arith, e, f, l)

owners_below : (known : Htlc → Bool) (feerate_per_kw : ℕ) (a : Amounts) → owners_left_sat known feerate_per_kw a ≤ placed_sat true known a
owners_below known feerate_per_kw a = sums _ _ _ _ _ (left_below Offered feerate_per_kw a.offered) (left_below Received feerate_per_kw (filter known a.received))
  where
    sums : (main u v x y : ℕ) → u ≤ x → v ≤ y → main + u + v ≤ main + x + y
    sums main u v x y l m = omega (arith, l, m)

less : (values deducted capacity : ℕ) → 1000 * values + deducted ≡ 1000 * capacity → values ≤ capacity
less _ _ _ e = omega (arith, e)

limited : (terms : Terms) (sat values : ℕ) → sat ≤ values → values ≤ terms.capacity_sat → sat < 2 ^ 64
limited terms sat values a b = let l = terms.limited in omega (arith, a, b, l)

pub newest_fits : AllIsTheCapacity → SharesArePlaced → LeftIsPlaced → (known : Htlc → Bool) (s : State) (terms : Terms) (cs : List CommitmentState) (n : ℕ) (k : CommitmentState) (given : Result ℕ AllocError) → terms ≡ s.held.terms → n ≡ s.number
    → AreNumbered s.held.terms s.held.side (s.number + 1) cs → k ≡ get_or cs n k → IfOk given (λ sat. sat ≡ value_of (counted true known (λ _. true) (contents_of terms k))) → IfOk given (λ sat. sat < 2 ^ 64)
newest_fits law placed left known s terms cs n k (Err e) same number numbered at is = tt
newest_fits law placed left known s terms cs n k (Ok sat) same number numbered at is =
    let within : n < length cs = omega (arith, numbered.count, number) in
    let shares = (numbered.each n k (slice_get_read cs (length cs) n k refl within at)).shares in
    let whole = law s.held.terms k.view k.owner k.number k.point.bytes shares.whole in
    let os = (contents_of s.held.terms k).outputs in
    let value = value_of (counted true known (λ _. true) (contents_of s.held.terms k)) in
    let amounts = amounts_of s.held.terms k.view k.owner in
    let below : value ≤ counted_sat true known os =
    between _ _ _ _ (left.own s.held.terms k.view k.owner k.number k.point.bytes known) (owners_below known k.view.feerate_per_kw amounts) (placed.counted s.held.terms k.view k.owner true k.number k.point.bytes known) in
    subst (λ m. m < 2 ^ 64) (sym (is ∙ ap (λ t. value_of (counted true known (λ _. true) (contents_of t k))) same))
    (limited s.held.terms value (values_sat os) (through _ _ _ below (at_most_all true known os)) (less _ _ _ whole))
  where
    between : (a b c d : ℕ) → a ≡ b → b ≤ c → d ≡ c → a ≤ d
    between a b c d e l f = omega (arith, e, l, f)

    through : (a b c : ℕ) → a ≤ b → b ≤ c → a ≤ c
    through a b c l m = omega (arith, l, m)

-- ---- all of them

pub least_is : (known : Htlc → Bool) (s : State) (terms : Terms) (open_ones revoked_ones : List CommitmentState) (newest newer all : ℕ) → terms ≡ s.held.terms → open_ones ≡ drop s.peer_number s.signed
    → revoked_ones ≡ take s.peer_number s.signed → map (own_left_sat known s) (drop s.number s.mine) ≡ newest ∷ [] → newer ≡ least (newest ∷ map (λ k. counted_sat false known (contents_of terms k).outputs) open_ones)
    → all ≡ least (newer ∷ map (λ k. value_of (staged (λ _. true) (contents_of terms k))) revoked_ones) → all ≡ at_least_sat known s
least_is known s terms open_ones revoked_ones newest newer all same opened revoked own o a =
    let theirs = map (peers_sat known s) (drop s.peer_number s.signed) in
    let older = map (revoked_left_sat s) (take s.peer_number s.signed) in
    let of_open : newer ≡ least (newest ∷ theirs) =
    o ∙ ap (λ (t : Terms). least (newest ∷ map (λ k. counted_sat false known (contents_of t k).outputs) open_ones)) same ∙ ap (λ (ks : List CommitmentState). least (newest ∷ map (peers_sat known s) ks)) opened in
    let of_revoked : all ≡ least (newer ∷ older) =
    a ∙ ap (λ (t : Terms). least (newer ∷ map (λ k. value_of (staged (λ _. true) (contents_of t k))) revoked_ones)) same ∙ ap (λ (ks : List CommitmentState). least (newer ∷ map (revoked_left_sat s) ks)) revoked in
    of_revoked ∙ ap (λ n. least (n ∷ older)) of_open ∙ joined newest theirs older ∙ ap (λ (xs : List ℕ). least ((xs ++ theirs) ++ older)) (sym own)

pub least_fits : (xs ys : List ℕ) (newest newer all : ℕ) → newest < 2 ^ 64 → newer ≡ least (newest ∷ xs) → all ≡ least (newer ∷ ys) → all < 2 ^ 64
least_fits xs ys newest newer all l o a = omega (arith, l, o, a, least_first newest xs, least_first newer ys)
