-- Who spends on a chain: what the chain's test of an input says besides the run.
use Rattle.std.proofs.Common.{◌≡◌, ℕ, ◌+◌, ◌%◌, ◌^◌, ◌≤◌, Bool, true, false, Option, Some, None, sym, ap, ◌∙◌, refl, arith}
use Rattle.std.specs.Prelude.{◌&&◌, ◌||◌, not, nat_lt}
use Rattle.std.proofs.lemmas.Bool.{leb-true, le-ltb, false≢true}
use Rattle.script.specs.Run.{Outcome, Clean, Stopped}
use Rattle.tx.specs.declared.input.TxIn.{TxIn}
use Rattle.tx.specs.Fields.{Transaction}
use Rattle.sighash.specs.Programs.{run_of}
use Rattle.chain.specs.declared.errors.ChainError.{ChainError}
use Rattle.chain.specs.Blocks.{Coin}
use Rattle.chain.specs.Locks.{is_final, is_old_enough}
use Rattle.chain.specs.Checks.{required, run_refusal, coin_refusal}
use Rattle.commit.specs.Commitments.{Contents}
use Rattle.penalty.specs.Claimable.{Claimable, commitment_in}
use Rattle.safety.specs.Spending.{Waits, IsLate, CanSpend, by_peer, by_owner, by_collision, WhoSpends}
use Rattle.safety.proofs.Claimed.{who_can_spend}

some_none : {X : Type 0} (x : X) → Some x ≡ None → ⊥
some_none x e = cc

-- a test passed, and what comes after it refused nothing
met : (b : Bool) (refusal : ChainError) (next : Option ChainError) → required b refusal next ≡ None → (b ≡ true) × (next ≡ None)
met true refusal next e = (refl, e)
met false refusal next e = absurd (some_none refusal e)

ran : (o : Option Outcome) → run_refusal o ≡ None → (counted : ℕ) × (height : ℕ) × (o ≡ Some (Clean counted height))
ran None e = absurd (some_none _ e)
ran (Some (Clean counted height)) e = (counted, height, refl)
ran (Some (Stopped at cause)) e = absurd (some_none _ e)

-- what an input passed
pub record Passed (height : ℕ) (t : Transaction) (input : TxIn) (coin : Coin) : Type 0 where
  pub unspent : not coin.spent ≡ true
  pub final : is_final height t.lock_time t.inputs ≡ true
  pub old : is_old_enough height t.version input.sequence coin.height ≡ true
  pub counted : ℕ
  pub tallest : ℕ
  pub clean : run_of t input coin.output ≡ Some (Clean counted tallest)

pub passed : (height : ℕ) (t : Transaction) (input : TxIn) (coin : Coin) → coin_refusal height t input (Some coin) ≡ None → Passed height t input coin
passed height t input coin e =
    let a = met (not coin.spent) _ _ e in
    let b = met (is_final height t.lock_time t.inputs) _ _ a.1 in
    let c = met (is_old_enough height t.version input.sequence coin.height) _ _ b.1 in
    let r = ran (run_of t input coin.output) c.1 in
    record { unspent = a.0; final = b.0; old = c.0; counted = r.0; tallest = r.1; clean = r.2 }

-- a lock of blocks that binds was waited for
waited : (t : Transaction) (input : TxIn) (coin height delay_blocks : ℕ) → Waits t input delay_blocks → is_old_enough height t.version input.sequence coin ≡ true → coin + delay_blocks ≤ height
waited t input coin height delay_blocks w e =
    let enough = w.enough in
    let v : nat_lt t.version 2 ≡ false = le-ltb t.version 2 w.version in
    let low = leb-true (coin + input.sequence % 2 ^ 16) height (by _ _ _ _ v w.on w.blocks e) in
    omega (arith, enough, low)
  where
    by : (a b c d : Bool) → a ≡ false → b ≡ false → c ≡ false → (a || b || (not c && d)) ≡ true → d ≡ true
    by true b c d f g h i = absurd (false≢true (sym f))
    by false true c d f g h i = absurd (false≢true (sym g))
    by false false true d f g h i = absurd (false≢true (sym h))
    by false false false d f g h i = i

later : (Late Later : Type 0) → (Late → Later) → (c : Contents) (o : Claimable) (t : Transaction) (input : TxIn) → CanSpend Late c o t input → CanSpend Later c o t input
later Late Later f c o t input (by_peer key k s) = by_peer key k s
later Late Later f c o t input (by_owner b) = by_owner (record { form = b.form; token = b.token; late = f b.late })
later Late Later f c o t input (by_collision z) = by_collision z

pub who_spends : WhoSpends
who_spends state o height t input coin k =
    let p = passed height t input coin k.passes in
    later (Waits t input (commitment_in state).delay_blocks) (IsLate (commitment_in state) coin.height height)
    (λ w. waited t input coin.height height (commitment_in state).delay_blocks w p.old)
    (commitment_in state) o t input
    (who_can_spend state o k.claimable t input p.counted p.tallest (ap (run_of t input) (sym k.output) ∙ p.clean))
