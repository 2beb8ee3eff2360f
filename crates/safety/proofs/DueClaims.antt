-- An input that fits an accepted claim passes the chain's test, once it is due.
use Rattle.std.proofs.Common.{◌≡◌, ℕ, ◌+◌, ◌%◌, ◌^◌, ◌<◌, zero, suc, Bool, true, false, ◌&&◌, ◌||◌, nat_le, eqb, List, [], ◌∷◌, Some, None, sym, ap, subst, ◌∙◌, refl, arith, Contains}
use Rattle.std.specs.Prelude.{nat_lt}
use Rattle.std.specs.List.{list_all}
use Rattle.std.proofs.lemmas.Bool.{lt-ltb, ltb-true, le-leb, leb-true, ne_eqb, false_from_ne_true}
use Rattle.std.proofs.Math.Nat.{div-eq_of_lt, mod-eq_of_lt}
use Rattle.script.specs.Step.{bit_at}
use Rattle.script.specs.Run.{Clean}
use Rattle.tx.specs.declared.input.TxIn.{TxIn}
use Rattle.tx.specs.Parts.{Output}
use Rattle.tx.specs.Fields.{Transaction}
use Rattle.sighash.specs.Programs.{run_of}
use Rattle.claim.specs.declared.parts.Place.{Place}
use Rattle.claim.specs.Fitting.{output_at}
use Rattle.claim.specs.Claims.{ClaimParts, IsWhole, FitsClaim, sequence_of}
use Rattle.claim.specs.Laws.{AcceptedSpend, FittingRunsClean, IsTimed, FittingIsTimed}
use Rattle.chain.specs.Blocks.{Contents, Coin}
use Rattle.chain.specs.Locks.{is_final, is_old_enough, IsReached}
use Rattle.chain.specs.Checks.{input_refusal, indexed_refusal}
use Rattle.safety.specs.Enforcement.{IsDue, Passes, ClaimsSpend, LocksAreHeights}

-- the output is the one of the place
same_output : (o : Output) (place : Place) → o.value ≡ place.value → o.script ≡ place.program → o ≡ output_at place
same_output o place v s = rw (← v, ← s) refl

-- an input passes if its coin is unspent, its locks are reached and its program runs clean
reached_passes : (blocks : List Contents) (height : ℕ) (t : Transaction) (input : TxIn) (coin : Coin) (n h : ℕ) → IsReached blocks height t input coin → run_of t input coin.output ≡ Some (Clean n h)
    → input_refusal blocks height t input ≡ None
reached_passes blocks height t input coin n h r run = rw (r.found, r.unspent, r.final, r.old_enough, run) refl

due_passes : (opening : AcceptedSpend) (clean : FittingRunsClean) (blocks : List Contents) (height : ℕ) (x : ClaimParts) (t : Transaction) (input : TxIn) → IsWhole x → (due : IsDue blocks height x t input)
    → Passes blocks height x t input due
due_passes opening clean blocks height x t input w due =
    let opens = opening x w due.fits.path due.fits.taken in
    let output = same_output due.coin.output x.place due.value due.program in
    let run : run_of t input due.coin.output ≡ Some (Clean due.fits.path.ops due.fits.path.height) = ap (run_of t input) output ∙ opens.clean t input due.fits.fits in
    let passes = reached_passes blocks height t input due.coin due.fits.path.ops due.fits.path.height due.reached run in
    record { passes = passes; at_index = λ i at. ap (indexed_refusal blocks height t) at ∙ passes; run = run; clean = clean x t input w due.fits; few = opens.few; low = opens.low }

pub claims_open : AcceptedSpend → FittingRunsClean → ClaimsSpend
claims_open opening clean = due_passes opening clean

-- ---- locks as heights

bit-clear : (k a : ℕ) → a < 2 ^ k → bit_at k a ≡ false
bit-clear k a h = ap (λ q. eqb (q % 2) 1) (div-eq_of_lt h)

and_false : (a b : Bool) → b ≡ false → (a && b) ≡ false
and_false true b e = e
and_false false b e = refl

-- if one input's sequence is not final, not all are
not_all : (inputs : List TxIn) (input : TxIn) → Contains inputs input → input.sequence < 65536 → list_all (λ i. eqb i.sequence 0xffffffff) inputs ≡ false
not_all [] input (k, h, e) l = absurd (omega (arith, h))
not_all (i ∷ inputs) input (zero, h, e) l =
    let low : i.sequence < 65536 = subst (λ (j : TxIn). j.sequence < 65536) (sym e) l in
    rw (ne_eqb i.sequence 0xffffffff (λ z. omega arith)) refl
not_all (i ∷ inputs) input (suc k, h, e) l = and_false (eqb i.sequence 0xffffffff) _ (not_all inputs input (k, omega (arith, h), e) l)

final_with : (b d : Bool) → ((true && b) || (false && d) || false) ≡ b
final_with true d = refl
final_with false d = refl

-- a lock time that is a height, where some input is not final
final_by : (height lock_time : ℕ) (inputs : List TxIn) → lock_time < 500000000 → list_all (λ i. eqb i.sequence 0xffffffff) inputs ≡ false → is_final height lock_time inputs ≡ nat_lt lock_time height
final_by height lock_time inputs l a =
    let no_time : nat_le 500000000 lock_time ≡ false = false_from_ne_true _ (λ t. let h = leb-true 500000000 lock_time t in omega arith) in
    rw (lt-ltb lock_time 500000000 l, no_time, a) (final_with (nat_lt lock_time height) (nat_le lock_time 0x20ffffff))

-- a sequence of sixteen bits is an age in blocks
old_by : (height version sequence coin_height : ℕ) → version ≡ 2 → sequence < 65536 → is_old_enough height version sequence coin_height ≡ nat_le (coin_height + sequence) height
old_by height version sequence coin_height v s = rw (v, bit-clear 31 sequence (omega arith), bit-clear 22 sequence (omega arith), mod-eq_of_lt s) refl

-- both, for an input that fits an accepted claim
final_is : (height : ℕ) (x : ClaimParts) (t : Transaction) (input : TxIn) → FitsClaim x t input → IsTimed x t input → is_final height t.lock_time t.inputs ≡ nat_lt t.lock_time height
final_is height x t input f i = final_by height t.lock_time t.inputs i.height (not_all t.inputs input f.fits.among (subst (λ n. n < 65536) (sym i.sequence) i.age))

old_is : (height coin_height : ℕ) (x : ClaimParts) (t : Transaction) (input : TxIn) → IsTimed x t input → is_old_enough height t.version input.sequence coin_height ≡ nat_le (coin_height + sequence_of x) height
old_is height coin_height x t input i =
    old_by height t.version input.sequence coin_height i.version (subst (λ n. n < 65536) (sym i.sequence) i.age) ∙ ap (λ n. nat_le (coin_height + n) height) i.sequence

pub locks_are_heights : FittingIsTimed → LocksAreHeights
locks_are_heights timed blocks height x t input coin w f found unspent =
    let i = timed x t input w f in
    let final = final_is height x t input f i in
    let old = old_is height coin.height x t input i in (
      λ r. record { above = ltb-true t.lock_time height (sym final ∙ r.final); age = leb-true (coin.height + sequence_of x) height (sym old ∙ r.old_enough) },
      λ e. record { found = found; unspent = unspent; final = final ∙ lt-ltb t.lock_time height e.above; old_enough = old ∙ le-leb (coin.height + sequence_of x) height e.age },
    )
