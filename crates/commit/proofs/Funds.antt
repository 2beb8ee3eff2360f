-- Where the millisatoshis of a view go: each is in one place, so nothing is created.
use Rattle.std.proofs.Common.{◌≡◌, ℕ, ◌+◌, ◌-◌, ◌*◌, ◌/◌, ◌%◌, ◌≤◌, min, Bool, true, false, not, cond, nat_lt, List, [], ◌∷◌, Some, None, unwrap_or, refl, arith}
use Rattle.std.specs.List.{filter}
use Rattle.std.specs.Prelude.{if◌then◌else◌}
use Rattle.std.proofs.lemmas.List.Sums.{sum_by-cons}
use Rattle.terms.specs.declared.htlcs.Htlc.{Htlc}
use Rattle.terms.specs.declared.sides.Side.{Side}
use Rattle.terms.specs.declared.sides.Side.TheVariants.{A, B}
use Rattle.terms.specs.declared.views.View.{View}
use Rattle.terms.specs.Agreement.{party}
use Rattle.terms.specs.Sides.{other}
use Rattle.terms.specs.Views.{share}
use Rattle.commit.specs.declared.fees.Direction.TheVariants.{Offered, Received}
use Rattle.commit.specs.Fees.{satoshis_of, is_trimmed_by}
use Rattle.commit.specs.Amounts.{owed_sat_by, unless_dust, amounts_of}
use Rattle.commit.specs.Sums.{millisatoshis_of, total_msat_of, worth_sat_of, dust_sat_of, rests_msat_of, rounded_off_msat, EachIsPlaced, NothingIsCreated}

-- one HTLC has an output, or is left out
placed_at : (b : Bool) (x : Htlc) (us vs : List Htlc)
    → worth_sat_of (cond (not b) (x ∷ us) us) + worth_sat_of (cond b (x ∷ vs) vs) ≡ x.amount_msat / 1000 + (worth_sat_of us + worth_sat_of vs)
placed_at true x us vs = let p = sum_by-cons (λ h. h.amount_msat / 1000) x vs in omega (arith, p)
placed_at false x us vs = let p = sum_by-cons (λ h. h.amount_msat / 1000) x us in omega (arith, p)

one_more : (kept out k o amount_msat rest sum rests total : ℕ)
    → kept + out ≡ amount_msat / 1000 + (k + o) → 1000 * (k + o) + rest ≡ sum → rests ≡ amount_msat % 1000 + rest → total ≡ amount_msat + sum
    → 1000 * (kept + out) + rests ≡ total
one_more _ _ _ _ amount_msat _ _ _ _ a b c d = omega (arith, a, b, c, d)

-- so all of them are in one of both
htlcs_placed : (p : Htlc → Bool) (xs : List Htlc)
    → 1000 * (worth_sat_of (filter (λ h. not (p h)) xs) + worth_sat_of (filter p xs)) + rests_msat_of xs ≡ millisatoshis_of xs
htlcs_placed p [] = refl
htlcs_placed p (x ∷ xs) =
    let here = placed_at (p x) x (filter (λ h. not (p h)) xs) (filter p xs) in
    let rest = htlcs_placed p xs in
    let a = sum_by-cons (λ h. h.amount_msat % 1000) x xs in
    let b = sum_by-cons (λ h. h.amount_msat) x xs in
    one_more _ _ _ _ x.amount_msat _ _ _ _ here rest a b

-- what is left to a side has an output, or is left out; the rest pays what it owes of the fee
value_placed : (b : Bool) (value : ℕ) → unwrap_or (if b then None else Some value) 0 + (if b then value else 0) ≡ value
value_placed true value = omega arith
value_placed false value = omega arith

fee_joined : (value out balance_msat owed : ℕ) → value + out ≡ balance_msat / 1000 - owed → 1000 * (value + out + min owed (balance_msat / 1000)) + balance_msat % 1000 ≡ balance_msat
fee_joined _ _ balance_msat owed a = omega (arith, a)

balance_placed : (dust_sat balance_msat owed : ℕ)
    → 1000 * (unwrap_or (unless_dust dust_sat (balance_msat / 1000 - owed)) 0 + dust_sat_of dust_sat (balance_msat / 1000 - owed) + min owed (balance_msat / 1000)) + balance_msat % 1000 ≡ balance_msat
balance_placed dust_sat balance_msat owed =
    fee_joined _ _ balance_msat owed (value_placed (nat_lt (balance_msat / 1000 - owed) dust_sat) (balance_msat / 1000 - owed))

-- both sides' parts of the fee are the fee
fee_shared : (owner opener : Side) (fee : ℕ) (view : View)
    → min fee (satoshis_of (share opener view).balance_msat)
    ≡ min (owed_sat_by owner opener fee) (satoshis_of (share owner view).balance_msat) + min (owed_sat_by (other owner) opener fee) (satoshis_of (share (other owner) view).balance_msat)
fee_shared A A fee view = omega arith
fee_shared A B fee view = omega arith
fee_shared B A fee view = omega arith
fee_shared B B fee view = omega arith

-- a sum over both sides goes by the owner and its peer
total_shared : (owner : Side) (view : View)
    → total_msat_of view ≡ (share owner view).balance_msat + millisatoshis_of (share owner view).offered + ((share (other owner) view).balance_msat + millisatoshis_of (share (other owner) view).offered)
total_shared A view = refl
total_shared B view = omega arith

rests_shared : (owner : Side) (view : View)
    → rounded_off_msat view ≡ (share owner view).balance_msat % 1000 + rests_msat_of (share owner view).offered + ((share (other owner) view).balance_msat % 1000 + rests_msat_of (share (other owner) view).offered)
rests_shared A view = refl
rests_shared B view = omega arith

added : (kept-o kept-r out-o out-r local remote dust-l dust-r paid-l paid-r paid rest-o rest-r odd-l odd-r rest sum-o sum-r bal-l bal-r total : ℕ)
    → 1000 * (kept-o + out-o) + rest-o ≡ sum-o
    → 1000 * (kept-r + out-r) + rest-r ≡ sum-r
    → 1000 * (local + dust-l + paid-l) + odd-l ≡ bal-l
    → 1000 * (remote + dust-r + paid-r) + odd-r ≡ bal-r
    → paid ≡ paid-l + paid-r
    → rest ≡ odd-l + rest-o + (odd-r + rest-r)
    → total ≡ bal-l + sum-o + (bal-r + sum-r)
    → 1000 * (kept-o + kept-r + (local + remote) + paid + (out-o + out-r + (dust-l + dust-r))) + rest ≡ total
added _ _ _ _ _ _ _ _ _ _ _ _ _ _ _ _ _ _ _ _ _ a b c d e f g = omega (arith, a, b, c, d, e, f, g)

pub each_is_placed : EachIsPlaced
each_is_placed terms view owner =
    let dust_sat = (party owner terms).dust_sat in
    let fee = (amounts_of terms view owner).fee in
    added _ _ _ _ _ _ _ _ _ _ _ _ _ _ _ _ _ _ _ _ _
    (htlcs_placed (is_trimmed_by dust_sat view.feerate_per_kw Offered) (share owner view).offered)
    (htlcs_placed (is_trimmed_by dust_sat view.feerate_per_kw Received) (share (other owner) view).offered)
    (balance_placed dust_sat (share owner view).balance_msat (owed_sat_by owner terms.opener fee))
    (balance_placed dust_sat (share (other owner) view).balance_msat (owed_sat_by (other owner) terms.opener fee))
    (fee_shared owner terms.opener fee view)
    (rests_shared owner view)
    (total_shared owner view)

least : (paid fee out rest total capacity_sat : ℕ) → 1000 * (paid + fee + out) + rest ≡ total → total ≡ 1000 * capacity_sat → paid + fee ≤ capacity_sat
least _ _ _ _ _ _ a b = omega (arith, a, b)

pub nothing_is_created : NothingIsCreated
nothing_is_created terms view owner whole = least _ _ _ _ _ _ (each_is_placed terms view owner) whole
