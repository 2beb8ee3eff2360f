-- A claim by the delayed key has the delay as its sequence, which the chain's test of its coin enforces.
use Rattle.std.proofs.Common.{◌≡◌, ℕ, ◌+◌, ◌%◌, ◌^◌, ◌<◌, ◌≤◌, Bool, true, false, eqb, List, [], ◌∷◌, Some, sym, ap, ◌∙◌, subst, arith, ⊎_elim}
use Rattle.std.specs.Prelude.{◌&&◌, ◌||◌, not, nat_lt, nat_le, slice_get}
use Rattle.std.specs.List.{Contains}
use Rattle.std.proofs.Math.Nat.{div-eq_of_lt}
use Rattle.std.proofs.lemmas.Bool.{leb-true, le-ltb, false≢true}
use Rattle.std.proofs.lemmas.Option.{same_Some}
use Rattle.script.specs.Step.{bit_at}
use Rattle.tx.specs.declared.input.TxIn.{TxIn}
use Rattle.tx.specs.Fields.{Transaction}
use Rattle.chain.specs.Locks.{is_old_enough}
use Rattle.paths.specs.declared.state.Path.{Path}
use Rattle.paths.specs.Listing.{CheckedScript}
use Rattle.claim.specs.declared.parts.Shell.{Shell}
use Rattle.claim.specs.Judgement.{age_of}
use Rattle.claim.specs.Fitting.{StandsRound}
use Rattle.claim.specs.Claims.{ClaimParts, FitsClaim}
use Rattle.claim.proofs.Meeting.{judgement_of-ok}
use Rattle.filling.specs.Filled.{AllFit}
use Rattle.forms.specs.Forms.{to_local_form}
use Rattle.commit.specs.Commitments.{Contents}
use Rattle.penalty.specs.Claimable.{Claimable}
use Rattle.safety.proofs.Slots.{contains_first, contains_later, contains_cases}
use Rattle.safety.proofs.Lists.{contains_none}
use Rattle.safety.proofs.OnChain.{passed}
use Rattle.safety.specs.Waiting.{DelayedWaits, FitsOne, EachInputFits}

-- ---- the delay

bit_clear : (k n : ℕ) → n < 2 ^ k → bit_at k n ≡ false
bit_clear k n h = ap (λ q. eqb (q % 2) 1) (div-eq_of_lt h)

-- a sequence below 2^16 of a transaction of version 2 is a relative lock of that many blocks
waited : (height version sequence coin : ℕ) → version ≡ 2 → sequence < 2 ^ 16 → is_old_enough height version sequence coin ≡ true → coin + sequence ≤ height
waited height version sequence coin v l e =
    let low = leb-true (coin + sequence % 2 ^ 16) height
    (by (nat_lt version 2) (bit_at 31 sequence) (bit_at 22 sequence) (nat_le (coin + sequence % 2 ^ 16) height)
    (le-ltb version 2 (omega (arith, v))) (bit_clear 31 sequence (omega (arith, l))) (bit_clear 22 sequence (omega (arith, l))) e) in
    omega (arith, low, l)
  where
    by : (a b c d : Bool) → a ≡ false → b ≡ false → c ≡ false → (a || b || (not c && d)) ≡ true → d ≡ true
    by true b c d f g h i = absurd (false≢true (sym f))
    by false true c d f g h i = absurd (false≢true (sym g))
    by false false true d f g h i = absurd (false≢true (sym h))
    by false false false d f g h i = i

-- the path of the delayed key
age_is : (c : Contents) (ways : CheckedScript) (index : ℕ) (p : Path) → ways ≡ to_local_form c.keys.revocation c.delay_blocks c.keys.delayed → index ≡ 1 → slice_get ways.paths index ≡ Some p
    → age_of p ≡ c.delay_blocks
age_is c ways index p w i at =
    let there = sym at ∙ ap (λ (x : CheckedScript). slice_get x.paths index) w ∙ ap (λ n. slice_get (to_local_form c.keys.revocation c.delay_blocks c.keys.delayed).paths n) i in
    ap age_of (same_Some p _ there)

pub delayed_waits : DelayedWaits
delayed_waits c l place x e height t input coin f k =
    let at = (judgement_of-ok x.ways x.index x.slots x.place x.shell f.path f.taken).at in
    let age : age_of f.path ≡ c.delay_blocks = age_is c x.ways x.index f.path (ap (λ (o : Claimable). o.form) e) (ap (λ (o : Claimable). o.path) e) at in
    let sequence : input.sequence ≡ c.delay_blocks = f.fits.sequence ∙ age in
    let round = subst (λ (s : Shell). StandsRound f.path s t) (ap (λ (o : Claimable). o.shell) e) f.fits.stands in
    let low = waited height t.version input.sequence coin.height round.0 (omega (arith, l, sequence)) (passed height t input coin k).old in
    omega (arith, low, sequence)

-- ---- the claim of an input

first_claim : (x : ClaimParts) (claims : List ClaimParts) (t : Transaction) (input : TxIn) → FitsClaim x t input → FitsOne (x ∷ claims) t input
first_claim x claims t input f = (x, contains_first x claims, f)

later_claim : (x : ClaimParts) (claims : List ClaimParts) (t : Transaction) (input : TxIn) → FitsOne claims t input → FitsOne (x ∷ claims) t input
later_claim x claims t input f = (f.0, contains_later x claims f.0 f.1, f.2)

fits_one : (t : Transaction) (claims : List ClaimParts) (inputs : List TxIn) → AllFit t claims inputs → (input : TxIn) → Contains inputs input → FitsOne claims t input
fits_one t [] [] a input i = absurd (contains_none input i)
fits_one t [] (y ∷ inputs) a input i = absurd a
fits_one t (x ∷ claims) [] a input i = absurd a
fits_one t (x ∷ claims) (y ∷ inputs) a input i =
    ⊎_elim {C = FitsOne (x ∷ claims) t input} (λ (s : y ≡ input). first_claim x claims t input (subst (λ (z : TxIn). FitsClaim x t z) s a.0))
    (λ (j : Contains inputs input). later_claim x claims t input (fits_one t claims inputs a.1 input j))
    (contains_cases y inputs input i)

pub each_input_fits : EachInputFits
each_input_fits claims t a input i = fits_one t claims t.inputs a input i
