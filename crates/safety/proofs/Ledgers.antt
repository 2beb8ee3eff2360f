-- A chain that passed its tests is a ledger of any outputs.
use Rattle.std.proofs.Common.{◌≡◌, ℕ, ◌+◌, ◌%◌, ◌^◌, Bool, true, false, List, Some, None, sym, ap, ◌∙◌, refl, subst, inl}
use Rattle.std.specs.Prelude.{◌&&◌, ◌||◌, ◌==◌, not, nat_lt, nat_le}
use Rattle.std.specs.List.{Contains, list_all}
use Rattle.std.proofs.lemmas.Bool.{and_from}
use Rattle.script.specs.declared.limits.TheConstants.{LOCKTIME_THRESHOLD}
use Rattle.script.specs.Step.{bit_at}
use Rattle.tx.specs.declared.input.TxIn.{TxIn}
use Rattle.tx.specs.Parts.{Output}
use Rattle.tx.specs.Fields.{Transaction, unsigned_transaction}
use Rattle.tx.specs.Spelling.{transaction_id}
use Rattle.chain.specs.Blocks.{Contents as Block, Coin, coin_at}
use Rattle.chain.specs.Indexing.{marked}
use Rattle.chain.specs.Locks.{is_final, is_old_enough}
use Rattle.chain.specs.Checks.{coin_refusal}
use Rattle.chain.specs.Checked.{is_checked}
use Rattle.safety.specs.Standing.{StandsAt}
use Rattle.safety.specs.Premises.{LockedOutput, spend}
use Rattle.safety.specs.Ledgers.{SpendsCoin, Makes, CheckedAreLedgers}
use Rattle.safety.proofs.Lists.{some_is}
use Rattle.safety.proofs.Ids.{unsigned_limits}
use Rattle.safety.proofs.Signing.{limits_fit}
use Rattle.safety.proofs.OnChain.{passed}
use Rattle.safety.proofs.Passed.{inputs_have_passed}
use Rattle.safety.proofs.Standing.{block_in, coin_there}
use Rattle.safety.proofs.Distinct.{one_of_id}

-- what is final by the chain's rule keeps its lock time, and what is old enough its age
final_kept : (height lock : ℕ) (inputs : List TxIn) → is_final height lock inputs ≡ true
    → (nat_le LOCKTIME_THRESHOLD lock || nat_lt lock height || list_all (λ (i : TxIn). i.sequence == 0xffffffff) inputs) ≡ true
final_kept height lock inputs e = by (nat_lt lock LOCKTIME_THRESHOLD) (nat_lt lock height) (nat_le LOCKTIME_THRESHOLD lock) (nat_le lock 0x20ffffff) (list_all (λ (i : TxIn). i.sequence == 0xffffffff) inputs) e
  where
    by : (a b c d g : Bool) → ((a && b) || (c && d) || g) ≡ true → (c || b || g) ≡ true
    by a b true d g e = refl
    by true true false d g e = refl
    by true false false d g e = e
    by false true false d g e = refl
    by false false false d g e = e

age_kept : (height version sequence since : ℕ) → is_old_enough height version sequence since ≡ true → (nat_lt version 2 || bit_at 31 sequence || bit_at 22 sequence || nat_le (since + sequence % 2 ^ 16) height) ≡ true
age_kept height version sequence since e = by (nat_lt version 2) (bit_at 31 sequence) (bit_at 22 sequence) (nat_le (since + sequence % 2 ^ 16) height) e
  where
    by : (a b c d : Bool) → (a || b || (not c && d)) ≡ true → (a || b || c || d) ≡ true
    by true b c d e = refl
    by false true c d e = refl
    by false false true d e = refl
    by false false false d e = e

spends : (keys : List (List ℕ)) (w : LockedOutput) (blocks : List Block) → is_checked blocks ≡ true → (height : ℕ) (t : Transaction) (input : TxIn) → StandsAt blocks height t → Contains t.inputs input
    → (coin : Coin) → coin_at blocks input.outpoint ≡ Some coin → SpendsCoin keys height (spend w t input) coin
spends keys w blocks checked height t input stands within coin there =
    let p = inputs_have_passed blocks checked height t stands input within in
    let same : p.0 ≡ coin = some_is p.0 coin (sym p.1 ∙ there) in
    let passes : coin_refusal height t input (Some (marked false coin)) ≡ None = subst (λ (x : Coin). coin_refusal height t input (Some (marked false x)) ≡ None) same p.2 in
    let q = passed height t input (marked false coin) passes in
    record {
      locks = and_from _ _ (final_kept height t.lock_time t.inputs q.final) (age_kept height t.version input.sequence coin.height q.old);
      items = input.witness;
      each = λ item i. inl i;
      last = refl;
      counted = q.counted;
      tallest = q.tallest;
      clean = q.clean;
    }

pub checked_are_ledgers : CheckedAreLedgers
checked_are_ledgers blocks checked limits grants keys locks made = record {
  named = λ w i coin there height t input stands within names. (limits_fit t (limits height t stands), spends keys w blocks checked height t input stands within coin (ap (coin_at blocks) names ∙ there.there));
  limits = λ w i height t stands id. unsigned_limits t (limits height t stands);
  one = λ w i height earlier t u stands also id rival. one_by height earlier t u stands also (id ∙ sym rival);
  coins = λ w i height t stands output makes. made_by w height t stands output makes;
}
  where
    one_by : (height earlier : ℕ) (t u : Transaction) → StandsAt blocks height t → StandsAt blocks earlier u → transaction_id t ≡ transaction_id u → unsigned_transaction t ≡ unsigned_transaction u
    one_by height earlier t u s r e =
        ap unsigned_transaction (one_of_id blocks s.block r.block t u checked (block_in blocks height t s) s.within (block_in blocks earlier u r) r.within e)

    made_by : (w : LockedOutput) (height : ℕ) (t : Transaction) → StandsAt blocks height t → (output : Output) → Makes t w.place.outpoint output
        → (coin : Coin) × (coin_at blocks w.place.outpoint ≡ Some coin) × (coin.output ≡ output)
    made_by w height t stands output makes =
        let there = coin_there blocks checked grants height t stands w.place.outpoint.index output makes.there in
        (there.coin, ap (λ (id : List ℕ). coin_at blocks (record { txid = id; index = w.place.outpoint.index })) (sym makes.id) ∙ there.at, there.is)
