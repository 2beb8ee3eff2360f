-- The outputs of a commitment on which a side counts are what it counts on, less its deductions.
use Rattle.std.proofs.Common.{◌≡◌, ℕ, ◌+◌, ◌-◌, ◌*◌, ◌/◌, ◌%◌, min, Bool, true, false, not, cond, List, [], ◌∷◌, ◌++◌, map, Option, Some, None, unwrap_or, refl, sym, ap, ◌∙◌, arith}
use Rattle.std.specs.Prelude.{if◌then◌else◌, nat_lt}
use Rattle.std.specs.List.{filter, sum_by}
use Rattle.std.proofs.lemmas.List.Sums.{sum_by-append, sum_by-cons}
use Rattle.std.proofs.lemmas.List.Filters.{sum_by-filter_both}
use Rattle.std.proofs.lemmas.List.Sorted.{sum_by-IsPermutation}
use Rattle.terms.specs.declared.htlcs.Htlc.{Htlc}
use Rattle.terms.specs.declared.sides.Side.{Side}
use Rattle.terms.specs.declared.sides.Side.TheVariants.{A, B}
use Rattle.terms.specs.declared.agreement.Terms.{Terms}
use Rattle.terms.specs.declared.views.View.{View}
use Rattle.terms.specs.Agreement.{party}
use Rattle.terms.specs.Sides.{other}
use Rattle.commit.specs.declared.fees.Direction.TheVariants.{Offered, Received}
use Rattle.commit.specs.declared.outputs.OutputKind.{OutputKind}
use Rattle.commit.specs.declared.outputs.OutputKind.TheVariants.{ToLocal, ToRemote, ToHtlc}
use Rattle.commit.specs.declared.outputs.CommitmentOutput.{CommitmentOutput}
use Rattle.commit.specs.declared.amounts.Amounts.{Amounts}
use Rattle.commit.specs.Fees.{satoshis_of, is_trimmed_by}
use Rattle.commit.specs.Amounts.{unless_dust, owed_sat_by, amounts_of}
use Rattle.commit.specs.Sums.{millisatoshis_of, total_msat_of, worth_sat_of, paid_out_sat, dust_sat_of, rests_msat_of}
use Rattle.commit.specs.Keys.{KeyBytes, keys_of}
use Rattle.commit.specs.Outputs.{htlc_output, to_local_output, to_remote_output, where_paid, outputs_of}
use Rattle.commit.specs.Order.{in_order, ThereIsOneOrder}
use Rattle.commit.specs.Commitments.{commitment_of}
use Rattle.worth_laws.specs.Shares.{counted_msat, counts_on, values_sat, counted_sat, direction_of_mine, direction_of_theirs, deductions, IsLess, SharesAreWorth, none_known, AllIsTheCapacity}
use Rattle.worth_laws.specs.Placed.{placed_sat, SharesArePlaced}

-- ---- one list of HTLCs

rounded : (amount_msat sum rest worth sums rests worths : ℕ) → 1000 * worth + rest ≡ sum → worths ≡ amount_msat / 1000 + worth → rests ≡ amount_msat % 1000 + rest → sums ≡ amount_msat + sum → 1000 * worths + rests ≡ sums
rounded amount_msat _ _ _ _ _ _ a b c d = omega (arith, a, b, c, d)

-- their satoshis, and what is rounded off
htlcs_rounded : (hs : List Htlc) → 1000 * worth_sat_of hs + rests_msat_of hs ≡ millisatoshis_of hs
htlcs_rounded [] = refl
htlcs_rounded (h ∷ hs) =
    rounded h.amount_msat _ _ _ _ _ _ (htlcs_rounded hs) (sum_by-cons (λ (x : Htlc). x.amount_msat / 1000) h hs) (sum_by-cons (λ (x : Htlc). x.amount_msat % 1000) h hs) (sum_by-cons (λ (x : Htlc). x.amount_msat) h hs)

-- those with an output, those without, and what is rounded off
htlcs_placed : (p : Htlc → Bool) (hs : List Htlc)
    → 1000 * (worth_sat_of (filter (λ h. not (p h)) hs) + worth_sat_of (filter p hs)) + rests_msat_of hs ≡ millisatoshis_of hs
htlcs_placed p hs = split _ _ _ _ _ (sum_by-filter_both p (λ h. not (p h)) (λ h. refl) (λ (h : Htlc). satoshis_of h.amount_msat) hs) (htlcs_rounded hs)
  where
    split : (kept out worth rest sum : ℕ) → out + kept ≡ worth → 1000 * worth + rest ≡ sum → 1000 * (kept + out) + rest ≡ sum
    split _ _ _ _ _ a b = omega (arith, a, b)

-- the same list by two tests, in either order
swapped : (p q : Htlc → Bool) (hs : List Htlc) → filter p (filter q hs) ≡ filter q (filter p hs)
swapped p q [] = refl
swapped p q (h ∷ hs) = by (p h) (q h) refl refl (swapped p q hs)
  where
    by : (a b : Bool) → p h ≡ a → q h ≡ b → filter p (filter q hs) ≡ filter q (filter p hs) → filter p (filter q (h ∷ hs)) ≡ filter q (filter p (h ∷ hs))
    by true true e f r = rw (f, e) (rw f (ap (λ xs. h ∷ xs) r))
    by true false e f r = rw (f, e) (rw f r)
    by false true e f r = rw (f, e) r
    by false false e f r = rw (f, e) r

-- ---- one balance

value_placed : (b : Bool) (value : ℕ) → unwrap_or (if b then None else Some value) 0 + (if b then value else 0) ≡ value
value_placed true value = omega arith
value_placed false value = omega arith

balance_placed : (limit_sat balance_msat owed : ℕ)
    → 1000 * (unwrap_or (unless_dust limit_sat (balance_msat / 1000 - owed)) 0 + dust_sat_of limit_sat (balance_msat / 1000 - owed) + min owed (balance_msat / 1000)) + balance_msat % 1000 ≡ balance_msat
balance_placed limit_sat balance_msat owed = fee_joined _ _ (value_placed (nat_lt (balance_msat / 1000 - owed) limit_sat) (balance_msat / 1000 - owed))
  where
    fee_joined : (value out : ℕ) → value + out ≡ balance_msat / 1000 - owed → 1000 * (value + out + min owed (balance_msat / 1000)) + balance_msat % 1000 ≡ balance_msat
    fee_joined _ _ a = omega (arith, a)

-- ---- the outputs, by their kinds

-- what an output adds to those on which a side counts
abbrev pub worth_on : Bool → (Htlc → Bool) → CommitmentOutput → ℕ
worth_on own known o = if counts_on own known o.kind then o.value else 0

abbrev pub worth_in : Bool → (Htlc → Bool) → List CommitmentOutput → ℕ
worth_in own known os = sum_by (worth_on own known) os

one_kept : (b : Bool) (o : CommitmentOutput) (kept : List CommitmentOutput) (rest : ℕ) → values_sat kept ≡ rest → values_sat (cond b (o ∷ kept) kept) ≡ (if b then o.value else 0) + rest
one_kept true o kept rest e = sum_by-cons (λ (x : CommitmentOutput). x.value) o kept ∙ ap (λ n. o.value + n) e
one_kept false o kept rest e = omega (arith, e)

pub filtered : (own : Bool) (known : Htlc → Bool) (os : List CommitmentOutput) → counted_sat own known os ≡ worth_in own known os
filtered own known [] = refl
filtered own known (o ∷ os) =
    one_kept (counts_on own known o.kind) o (filter (λ x. counts_on own known x.kind) os) (worth_in own known os) (filtered own known os) ∙ sym (sum_by-cons (worth_on own known) o os)

all_of : (own : Bool) (known : Htlc → Bool) (k : KeyBytes) (hs : List Htlc) → worth_in own known (map (htlc_output k (direction_of_mine own)) hs) ≡ worth_sat_of hs
all_of own known k [] = refl
all_of true known k (h ∷ hs) =
    let r : worth_in true known (map (htlc_output k Offered) hs) ≡ worth_sat_of hs = all_of true known k hs in
    sum_by-cons (worth_on true known) (htlc_output k Offered h) (map (htlc_output k Offered) hs) ∙ ap (λ n. satoshis_of h.amount_msat + n) r ∙ sym (sum_by-cons (λ (x : Htlc). satoshis_of x.amount_msat) h hs)
all_of false known k (h ∷ hs) =
    let r : worth_in false known (map (htlc_output k Received) hs) ≡ worth_sat_of hs = all_of false known k hs in
    sum_by-cons (worth_on false known) (htlc_output k Received h) (map (htlc_output k Received) hs) ∙ ap (λ n. satoshis_of h.amount_msat + n) r ∙ sym (sum_by-cons (λ (x : Htlc). satoshis_of x.amount_msat) h hs)

one_of : (b : Bool) (h : Htlc) (hs : List Htlc) (rest : ℕ) → rest ≡ worth_sat_of hs → (if b then satoshis_of h.amount_msat else 0) + rest ≡ worth_sat_of (cond b (h ∷ hs) hs)
one_of true h hs rest e = let b = sum_by-cons (λ (x : Htlc). satoshis_of x.amount_msat) h hs in omega (arith, b, e)
one_of false h hs rest e = omega (arith, e)

known_of : (own : Bool) (known : Htlc → Bool) (k : KeyBytes) (hs : List Htlc) → worth_in own known (map (htlc_output k (direction_of_theirs own)) hs) ≡ worth_sat_of (filter known hs)
known_of own known k [] = refl
known_of true known k (h ∷ hs) =
    sum_by-cons (worth_on true known) (htlc_output k Received h) (map (htlc_output k Received) hs)
    ∙ one_of (known h) h (filter known hs) (worth_in true known (map (htlc_output k Received) hs)) (known_of true known k hs)
known_of false known k (h ∷ hs) =
    sum_by-cons (worth_on false known) (htlc_output k Offered h) (map (htlc_output k Offered) hs)
    ∙ one_of (known h) h (filter known hs) (worth_in false known (map (htlc_output k Offered) hs)) (known_of false known k hs)

local_of : (own : Bool) (known : Htlc → Bool) (delay_blocks : ℕ) (k : KeyBytes) (v : Option ℕ) → worth_in own known (where_paid (to_local_output delay_blocks k) v) ≡ (if own then unwrap_or v 0 else 0)
local_of true known delay_blocks k None = refl
local_of true known delay_blocks k (Some v) = omega arith
local_of false known delay_blocks k None = refl
local_of false known delay_blocks k (Some v) = refl

remote_of : (own : Bool) (known : Htlc → Bool) (k : KeyBytes) (v : Option ℕ) → worth_in own known (where_paid (to_remote_output k) v) ≡ (if own then 0 else unwrap_or v 0)
remote_of true known k None = refl
remote_of true known k (Some v) = refl
remote_of false known k None = refl
remote_of false known k (Some v) = omega arith

parts : (own : Bool) (known : Htlc → Bool) (ws xs ys zs : List CommitmentOutput)
    → worth_in own known (((ws ++ xs) ++ ys) ++ zs) ≡ worth_in own known ws + worth_in own known xs + (worth_in own known ys + worth_in own known zs)
parts own known ws xs ys zs =
    four _ _ _ _ _ _ _ (sum_by-append (worth_on own known) ((ws ++ xs) ++ ys) zs) (sum_by-append (worth_on own known) (ws ++ xs) ys) (sum_by-append (worth_on own known) ws xs)
  where
    four : (w v u p q s t : ℕ) → w ≡ v + t → v ≡ u + s → u ≡ p + q → w ≡ p + q + (s + t)
    four _ _ _ _ _ _ _ a b c = omega (arith, a, b, c)

in_amounts : (own : Bool) (known : Htlc → Bool) (delay_blocks : ℕ) (k : KeyBytes) (a : Amounts)
    → worth_in own known (outputs_of delay_blocks k a) ≡ placed_sat own known a
unfolding outputs_of
in_amounts true known delay_blocks k a =
    summed _ _ _ _ _ _ _ _ (parts true known (map (htlc_output k Offered) a.offered) (map (htlc_output k Received) a.received) (where_paid (to_local_output delay_blocks k) a.to_local) (where_paid (to_remote_output k) a.to_remote))
    (all_of true known k a.offered) (known_of true known k a.received) (local_of true known delay_blocks k a.to_local) (remote_of true known k a.to_remote)
  where
    summed : (all first second local remote mine theirs main : ℕ) → all ≡ first + second + (local + remote) → first ≡ mine → second ≡ theirs → local ≡ main → remote ≡ 0 → all ≡ main + mine + theirs
    summed _ _ _ _ _ _ _ _ d e f g h = omega (arith, d, e, f, g, h)
in_amounts false known delay_blocks k a =
    summed _ _ _ _ _ _ _ _ (parts false known (map (htlc_output k Offered) a.offered) (map (htlc_output k Received) a.received) (where_paid (to_local_output delay_blocks k) a.to_local) (where_paid (to_remote_output k) a.to_remote))
    (known_of false known k a.offered) (all_of false known k a.received) (local_of false known delay_blocks k a.to_local) (remote_of false known k a.to_remote)
  where
    summed : (all first second local remote mine theirs main : ℕ) → all ≡ first + second + (local + remote) → first ≡ theirs → second ≡ mine → local ≡ 0 → remote ≡ main → all ≡ main + mine + theirs
    summed _ _ _ _ _ _ _ _ d e f g h = omega (arith, d, e, f, g, h)

-- in any order
ordered : ThereIsOneOrder → (own : Bool) (known : Htlc → Bool) (terms : Terms) (view : View) (owner : Side) (n : ℕ) (point : List ℕ)
    → counted_sat own known (commitment_of terms view owner n point).outputs ≡ placed_sat own known (amounts_of terms view owner)
unfolding commitment_of
ordered law own known terms view owner n point =
    let os = outputs_of (party owner terms).delay_blocks (keys_of terms owner point) (amounts_of terms view owner) in
    filtered own known (in_order os) ∙ sum_by-IsPermutation (worth_on own known) os (in_order os) (law os).0.same ∙ in_amounts own known (party owner terms).delay_blocks (keys_of terms owner point) (amounts_of terms view owner)

-- ---- all together

-- of a side's balance and HTLCs, the amounts of which are these
joined : (known p q : Htlc → Bool) (limit_sat balance_msat owed sum : ℕ) (mine theirs : List Htlc)
    → sum ≡ unwrap_or (unless_dust limit_sat (balance_msat / 1000 - owed)) 0 + worth_sat_of (filter (λ h. not (p h)) mine) + worth_sat_of (filter known (filter (λ h. not (q h)) theirs))
    → 1000 * sum + (1000 * (min owed (balance_msat / 1000) + dust_sat_of limit_sat (balance_msat / 1000 - owed) + (worth_sat_of (filter p mine) + worth_sat_of (filter q (filter known theirs))))
    + (balance_msat % 1000 + rests_msat_of mine + rests_msat_of (filter known theirs)))
    ≡ balance_msat + millisatoshis_of mine + millisatoshis_of (filter known theirs)
joined known p q limit_sat balance_msat owed sum mine theirs e =
    added _ _ _ _ _ _ _ _ _ _ _ _ _ _ e (ap worth_sat_of (swapped known (λ h. not (q h)) theirs)) (balance_placed limit_sat balance_msat owed) (htlcs_placed p mine) (htlcs_placed q (filter known theirs))
  where
    added : (main kept-m kept-s kept-t out-m out-t dust paid odd rest-m rest-t sum-m sum-t balance : ℕ) → sum ≡ main + kept-m + kept-s → kept-s ≡ kept-t → 1000 * (main + dust + paid) + odd ≡ balance
        → 1000 * (kept-m + out-m) + rest-m ≡ sum-m → 1000 * (kept-t + out-t) + rest-t ≡ sum-t
        → 1000 * sum + (1000 * (paid + dust + (out-m + out-t)) + (odd + rest-m + rest-t)) ≡ balance + sum-m + sum-t
    added _ _ _ _ _ _ _ _ _ _ _ _ _ _ a b c d f = omega (arith, a, b, c, d, f)

pub shares_are_worth : ThereIsOneOrder → SharesAreWorth
shares_are_worth law terms view true A n point known =
    joined known (is_trimmed_by terms.a.dust_sat view.feerate_per_kw Offered) (is_trimmed_by terms.a.dust_sat view.feerate_per_kw Received) terms.a.dust_sat view.a.balance_msat (owed_sat_by A terms.opener (amounts_of terms view A).fee) _
    view.a.offered view.b.offered (ordered law true known terms view A n point)
shares_are_worth law terms view true B n point known =
    joined known (is_trimmed_by terms.b.dust_sat view.feerate_per_kw Offered) (is_trimmed_by terms.b.dust_sat view.feerate_per_kw Received) terms.b.dust_sat view.b.balance_msat (owed_sat_by B terms.opener (amounts_of terms view B).fee) _
    view.b.offered view.a.offered (ordered law true known terms view B n point)
shares_are_worth law terms view false A n point known =
    joined known (is_trimmed_by terms.b.dust_sat view.feerate_per_kw Received) (is_trimmed_by terms.b.dust_sat view.feerate_per_kw Offered) terms.b.dust_sat view.a.balance_msat (owed_sat_by A terms.opener (amounts_of terms view B).fee) _
    view.a.offered view.b.offered (ordered law false known terms view B n point)
shares_are_worth law terms view false B n point known =
    joined known (is_trimmed_by terms.a.dust_sat view.feerate_per_kw Received) (is_trimmed_by terms.a.dust_sat view.feerate_per_kw Offered) terms.a.dust_sat view.b.balance_msat (owed_sat_by B terms.opener (amounts_of terms view A).fee) _
    view.b.offered view.a.offered (ordered law false known terms view A n point)

-- ---- all outputs

-- an HTLC's output is counted on by the side that offered it, and by that side alone
by_either : (k : OutputKind) → counts_on false none_known k ≡ not (counts_on true none_known k)
by_either ToLocal = refl
by_either ToRemote = refl
by_either (ToHtlc Offered h) = refl
by_either (ToHtlc Received h) = refl

all_counted : (os : List CommitmentOutput) → counted_sat true none_known os + counted_sat false none_known os ≡ values_sat os
all_counted os = sum_by-filter_both (λ (o : CommitmentOutput). counts_on true none_known o.kind) (λ o. counts_on false none_known o.kind) (λ o. by_either o.kind) (λ (o : CommitmentOutput). o.value) os

none_left : (hs : List Htlc) → filter none_known hs ≡ []
none_left [] = refl
none_left (h ∷ hs) = none_left hs

-- both sides together have the view's sum
both_have : (view : View) (owner : Side) → counted_msat none_known owner view + counted_msat none_known (other owner) view ≡ total_msat_of view
both_have view A = let a = ap millisatoshis_of (none_left view.a.offered) in let b = ap millisatoshis_of (none_left view.b.offered) in sums _ _ _ _ _ _ a b
  where
    sums : (balance-a offered-a balance-b offered-b none-a none-b : ℕ) → none-a ≡ 0 → none-b ≡ 0 → balance-a + offered-a + none-b + (balance-b + offered-b + none-a) ≡ balance-a + offered-a + (balance-b + offered-b)
    sums _ _ _ _ _ _ a b = omega (arith, a, b)
both_have view B = let a = ap millisatoshis_of (none_left view.a.offered) in let b = ap millisatoshis_of (none_left view.b.offered) in sums _ _ _ _ _ _ a b
  where
    sums : (balance-a offered-a balance-b offered-b none-a none-b : ℕ) → none-a ≡ 0 → none-b ≡ 0 → balance-b + offered-b + none-a + (balance-a + offered-a + none-b) ≡ balance-a + offered-a + (balance-b + offered-b)
    sums _ _ _ _ _ _ a b = omega (arith, a, b)

pub all_is_the_capacity : ThereIsOneOrder → AllIsTheCapacity
all_is_the_capacity law terms view owner n point whole =
    let c = commitment_of terms view owner n point in
    summed _ _ _ _ _ _ _ _ _ _ _ _ _ _ _ (shares_are_worth law terms view true owner n point none_known) (peers terms view owner n point) (all_counted c.outputs) (both_have view owner) whole
  where
    peers : (terms : Terms) (view : View) (owner : Side) (n : ℕ) (point : List ℕ)
        → IsLess (counted_msat none_known (other owner) view) (deductions terms view false (other owner) none_known) (counted_sat false none_known (commitment_of terms view owner n point).outputs)
    peers terms view A n point = shares_are_worth law terms view false B n point none_known
    peers terms view B n point = shares_are_worth law terms view false A n point none_known

    summed : (own peers values fee-o dust-o trimmed-o rest-o fee-p dust-p trimmed-p rest-p has-o has-p total capacity_sat : ℕ) → 1000 * own + (1000 * (fee-o + dust-o + trimmed-o) + rest-o) ≡ has-o
        → 1000 * peers + (1000 * (fee-p + dust-p + trimmed-p) + rest-p) ≡ has-p → own + peers ≡ values → has-o + has-p ≡ total → total ≡ 1000 * capacity_sat
        → 1000 * values + (1000 * (fee-o + fee-p + (dust-o + dust-p) + (trimmed-o + trimmed-p)) + (rest-o + rest-p)) ≡ 1000 * capacity_sat
    summed _ _ _ _ _ _ _ _ _ _ _ _ _ _ _ a b c d e = omega (arith, a, b, c, d, e)

-- ---- by amounts

all_placed : (a : Amounts) → placed_sat true none_known a + placed_sat false none_known a ≡ paid_out_sat a
all_placed a = summed _ _ _ _ _ _ (ap worth_sat_of (none_left a.received)) (ap worth_sat_of (none_left a.offered))
  where
    summed : (local remote offered received none-r none-o : ℕ) → none-r ≡ 0 → none-o ≡ 0 → local + offered + none-r + (remote + received + none-o) ≡ offered + received + (local + remote)
    summed _ _ _ _ _ _ a b = omega (arith, a, b)

pub shares_are_placed : ThereIsOneOrder → SharesArePlaced
shares_are_placed law = record {
  counted = λ terms view owner own n point known. ordered law own known terms view owner n point;
  all =
      λ terms view owner n point. (let c = commitment_of terms view owner n point in
      sym (all_counted c.outputs) ∙ ap (λ m. m + counted_sat false none_known c.outputs) (ordered law true none_known terms view owner n point)
      ∙ ap (λ m. placed_sat true none_known (amounts_of terms view owner) + m) (ordered law false none_known terms view owner n point) ∙ all_placed (amounts_of terms view owner));
}
