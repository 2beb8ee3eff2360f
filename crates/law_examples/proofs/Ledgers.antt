-- What a chain has to satisfy for a node: the locks that an input keeps, the coins of its outputs, and that nobody else makes a token of its keys.
use Rattle.std.proofs.Common.{◌≡◌, ◌≢◌, ℕ, zero, suc, ◌^◌, ◌<◌, true, false, List, [], ◌∷◌, map, length, replicate, Some, None, sym, ap, ◌∙◌, refl, subst, inl, arith, lit<}
use Rattle.std.specs.Prelude.{◌||◌, not, slice_get, option_and_then}
use Rattle.std.specs.List.{Contains, AllByRecursion}
use Rattle.std.proofs.lemmas.Bool.{false≢true}
use Rattle.std.proofs.lemmas.List.{length-replicate}
use Rattle.std.proofs.lemmas.Option.{same_Some, slice_get_past}
use Rattle.script.specs.Run.{Clean}
use Rattle.script.specs.Spelling.{spelling}
use Rattle.script.specs.Token.{token_of, is_key}
use Rattle.tx.specs.declared.input.OutPoint.{OutPoint}
use Rattle.tx.specs.declared.input.TxIn.{TxIn}
use Rattle.tx.specs.Parts.{Output}
use Rattle.tx.specs.Fields.{Transaction, KeepsLimits, signed_input, unsigned_transaction}
use Rattle.tx.specs.Spelling.{transaction_id}
use Rattle.sighash.specs.Programs.{given_of, run_of, run_of_given, script_hash_program}
use Rattle.chain.specs.Blocks.{Contents as Block, Coin, grant_outpoint, coin_at}
use Rattle.claim.specs.Fitting.{output_at}
use Rattle.terms.specs.declared.agreement.Terms.{Terms}
use Rattle.terms.specs.Scripts.{two_of_two}
use Rattle.safety.specs.Signing.{Signed, digest_of, FieldsFit}
use Rattle.safety.specs.Standing.{StandsAt}
use Rattle.safety.specs.Holdings.{Holding, EachKeepsRules}
use Rattle.safety.specs.Given.{token_bytes, given_by}
use Rattle.safety.specs.Premises.{LockedOutput, spend, funding_lock, outputs_by, locks_by, keys_by, each_spend, shows_given, has_item, secret_keys}
use Rattle.safety.specs.Ledgers.{SpendsCoin, IsCoinAt, Makes, IsLedgerOf, IsLedger}
use Rattle.safety.specs.Closers.{IsFunded, IsWatched}
use Rattle.safety.proofs.Lists.{none_some, contains_none}
use Rattle.safety.proofs.Taken.{grants_are_out_points}
use Rattle.safety.proofs.LedgerExamples.{with_another_hash_type, signed_by_the_node}
use Rattle.safety.proofs.Tests.{all_hold, has, has_one, or_then, on_input, on_spend}
use Rattle.law_examples.proofs.Ones.{only, with_it, stands_there, nothing_stands, granting, coin_from, granted_there, naming, taker, with_taker, taker_stands, taken_there, taken_at_two, taken_by_it}

-- ---- an input that spends a coin of the block of height 100

module _ (outpoint : OutPoint) (witness : List (List ℕ)) (out : Output) (keys : List (List ℕ)) (code : List ℕ) where
  abbrev coin : Coin
  coin = record { output = out; height = 100; spent = true }

  abbrev input : ℕ → TxIn
  input sequence = record { outpoint = outpoint; sequence = sequence; witness = witness }

  abbrev spending : (version sequence lock_time : ℕ) → Transaction
  spending version sequence lock_time = record { version = version; inputs = input sequence ∷ []; outputs = []; lock_time = lock_time }

  -- a second input, beside the one that spends the coin
  abbrev two : (sequence other lock_time : ℕ) → Transaction
  two sequence other lock_time = record { version = 2; inputs = input sequence ∷ input other ∷ []; outputs = []; lock_time = lock_time }

  abbrev spent : Transaction → ℕ → Signed
  spent t sequence = record { transaction = t; input = input sequence; code = code; value = 7 }

  abbrev Runs : Transaction → ℕ → Type 0
  Runs t sequence = run_of t (input sequence) out ≡ Some (Clean 21 5)

  -- an age of 144 blocks (BIP 68)
  -- yes: SpendsCoin
  of_its_age : Runs (spending 2 144 0) 144 → SpendsCoin keys 244 (spent (spending 2 144 0) 144) coin
  of_its_age e = record { locks = refl; items = witness; each = λ item i. inl i; last = refl; counted = 21; tallest = 5; clean = e }

  -- no: SpendsCoin
  a_block_younger : SpendsCoin keys 243 (spent (spending 2 144 0) 144) coin → ⊥
  a_block_younger s = false≢true s.locks

  -- the age is in the low 16 bits
  -- yes: SpendsCoin
  with_bit_16 : Runs (spending 2 65680 0) 65680 → SpendsCoin keys 244 (spent (spending 2 65680 0) 65680) coin
  with_bit_16 e = record { locks = refl; items = witness; each = λ item i. inl i; last = refl; counted = 21; tallest = 5; clean = e }

  -- no: SpendsCoin
  with_bit_15 : SpendsCoin keys 244 (spent (spending 2 32912 0) 32912) coin → ⊥
  with_bit_15 s = false≢true s.locks

  -- no age before version 2, with bit 31, or in units of time, which bit 22 says
  -- yes: SpendsCoin
  of_version_one : Runs (spending 1 144 0) 144 → SpendsCoin keys 101 (spent (spending 1 144 0) 144) coin
  of_version_one e = record { locks = refl; items = witness; each = λ item i. inl i; last = refl; counted = 21; tallest = 5; clean = e }

  -- yes: SpendsCoin
  with_bit_31 : Runs (spending 2 2147483792 0) 2147483792 → SpendsCoin keys 101 (spent (spending 2 2147483792 0) 2147483792) coin
  with_bit_31 e = record { locks = refl; items = witness; each = λ item i. inl i; last = refl; counted = 21; tallest = 5; clean = e }

  -- yes: SpendsCoin
  with_bit_22 : Runs (spending 2 4194448 0) 4194448 → SpendsCoin keys 101 (spent (spending 2 4194448 0) 4194448) coin
  with_bit_22 e = record { locks = refl; items = witness; each = λ item i. inl i; last = refl; counted = 21; tallest = 5; clean = e }

  -- no: SpendsCoin
  with_bit_21 : SpendsCoin keys 243 (spent (spending 2 2097296 0) 2097296) coin → ⊥
  with_bit_21 s = false≢true s.locks

  -- a lock time that is a height is below that of the block
  -- yes: SpendsCoin
  above_its_lock_time : Runs (spending 2 0 499) 0 → SpendsCoin keys 500 (spent (spending 2 0 499) 0) coin
  above_its_lock_time e = record { locks = refl; items = witness; each = λ item i. inl i; last = refl; counted = 21; tallest = 5; clean = e }

  -- no: SpendsCoin
  at_its_lock_time : SpendsCoin keys 499 (spent (spending 2 0 499) 0) coin → ⊥
  at_its_lock_time s = false≢true s.locks

  -- from 500,000,000 it is a time
  -- yes: SpendsCoin
  locked_by_time : Runs (spending 2 0 500000000) 0 → SpendsCoin keys 499 (spent (spending 2 0 500000000) 0) coin
  locked_by_time e = record { locks = refl; items = witness; each = λ item i. inl i; last = refl; counted = 21; tallest = 5; clean = e }

  -- no: SpendsCoin
  locked_by_the_last_height : SpendsCoin keys 499 (spent (spending 2 0 499999999) 0) coin → ⊥
  locked_by_the_last_height s = false≢true s.locks

  -- no lock time counts where every input is final
  -- yes: SpendsCoin
  both_final : Runs (two 4294967295 4294967295 499) 4294967295 → SpendsCoin keys 499 (spent (two 4294967295 4294967295 499) 4294967295) coin
  both_final e = record { locks = refl; items = witness; each = λ item i. inl i; last = refl; counted = 21; tallest = 5; clean = e }

  -- no: SpendsCoin
  one_not_final : SpendsCoin keys 499 (spent (two 4294967295 4294967294 499) 4294967295) coin → ⊥
  one_not_final s = false≢true s.locks

  -- whatever is read, it runs on no program
  -- no: SpendsCoin
  runs_on_nothing : out.script ≡ [] → SpendsCoin keys 244 (spent (spending 2 144 0) 144) coin → ⊥
  unfolding run_of given_of
  runs_on_nothing e s =
      none_some (Clean s.counted s.tallest)
      (sym (ap (λ (p : List ℕ). option_and_then (run_of_given (spending 2 144 0) (signed_input (input 144) s.items) out.value) (given_of p s.items)) e) ∙ s.clean)

-- ---- outputs

module _ (w : LockedOutput) (out : Output) (at : w.place.outpoint ≡ grant_outpoint 0) where
  found_there : coin_at (granting out) w.place.outpoint ≡ Some (coin_from out 1)
  found_there = ap (coin_at (granting out)) at ∙ granted_there out

  -- yes: IsCoinAt
  coin_there : out ≡ output_at w.place → IsCoinAt (granting out) w (coin_from out 1)
  coin_there e = record { there = found_there; output = e }

  -- no: IsCoinAt
  coin_of_another_height : IsCoinAt (granting out) w (coin_from out 2) → ⊥
  coin_of_another_height c = let f = ap (λ (x : Coin). x.height) (same_Some (coin_from out 1) (coin_from out 2) (sym found_there ∙ c.there)) in omega (arith, f)

  -- no: IsCoinAt
  coin_of_another_value : out.value ≡ 7 → w.place.value ≡ 8 → IsCoinAt (granting out) w (coin_from out 1) → ⊥
  coin_of_another_value e f c = let g : out.value ≡ w.place.value = ap (λ (x : Output). x.value) c.output in omega (arith, e, f, g)

  -- no: IsCoinAt
  coin_of_another_script : length out.script ≡ 22 → length w.place.program ≡ 34 → IsCoinAt (granting out) w (coin_from out 1) → ⊥
  coin_of_another_script e f c = let g : length out.script ≡ length w.place.program = ap (λ (x : Output). length x.script) c.output in omega (arith, e, f, g)

-- no: IsCoinAt
coin_nowhere : (w : LockedOutput) (coin : Coin) → IsCoinAt [] w coin → ⊥
coin_nowhere w coin c = none_some coin c.there

module _ (t : Transaction) (o : OutPoint) (x y : Output) (outputs : t.outputs ≡ x ∷ y ∷ []) (index : o.index ≡ 1) where
  second_output : slice_get t.outputs o.index ≡ Some y
  second_output = ap (λ (n : ℕ). slice_get t.outputs n) index ∙ ap (λ (os : List Output). slice_get os 1) outputs

  -- yes: Makes
  makes_second : transaction_id t ≡ o.txid → Makes t o y
  makes_second e = record { id = e; there = second_output }

  -- no: Makes
  makes_first : x.value ≡ 7 → y.value ≡ 8 → Makes t o x → ⊥
  makes_first e f m = let g : y.value ≡ x.value = ap (λ (z : Output). z.value) (same_Some y x (sym second_output ∙ m.there)) in omega (arith, e, f, g)

  -- no: Makes
  of_another_id : transaction_id t ≢ o.txid → Makes t o y → ⊥
  of_another_id n m = n m.id

-- no: Makes
past_its_outputs : (t : Transaction) (o : OutPoint) (x y : Output) → t.outputs ≡ x ∷ [] → o.index ≡ 1 → Makes t o y → ⊥
past_its_outputs t o x y e i m =
    none_some y (sym (slice_get_past (x ∷ []) 1 (omega arith)) ∙ sym (ap (λ (os : List Output). slice_get os 1) e) ∙ sym (ap (λ (n : ℕ). slice_get t.outputs n) i) ∙ m.there)

-- ---- a ledger of an output

-- yes: IsLedgerOf
ledger_of_nothing : (keys : List (List ℕ)) (locks made : List LockedOutput) → IsLedgerOf keys locks made []
ledger_of_nothing keys locks made = record {
  named = λ w i coin c height t input s within names. absurd (nothing_stands height t s);
  limits = λ w i height t s id. absurd (nothing_stands height t s);
  one = λ w i height earlier t u s r id rival. absurd (nothing_stands height t s);
  coins = λ w i height t s output makes. absurd (nothing_stands height t s);
}

-- one transaction, in the block of height 2, takes an output that was granted in the block of height 1
module _ (keys : List (List ℕ)) (w : LockedOutput) (out : Output) (outputs : List Output) (witness : List (List ℕ)) (at : w.place.outpoint ≡ grant_outpoint 0) (is : out ≡ output_at w.place) where
  abbrev chain : List Block
  chain = with_taker out outputs witness

  abbrev it : Transaction
  it = taker out outputs witness

  abbrev its_input : TxIn
  its_input = naming out outputs witness

  abbrev its_coin : Coin
  its_coin = record { output = out; height = 1; spent = true }

  coin_is_there : IsCoinAt chain w its_coin
  coin_is_there = record { there = ap (coin_at chain) at ∙ taken_there out outputs witness; output = is }

  -- yes: IsLedgerOf
  ledger_of_one : FieldsFit it → SpendsCoin keys 2 (spend w it its_input) its_coin → IsLedgerOf keys (w ∷ []) [] chain
  ledger_of_one k s = record {
    named = named;
    limits = λ v i height u r id. absurd (contains_none v i);
    one = λ v i height earlier u x r q id rival. absurd (contains_none v i);
    coins = λ v i height u r output makes. absurd (contains_none v i);
  }
    where
      spends : (height : ℕ) (u : Transaction) (other : TxIn) (v : LockedOutput) (c : Coin) → 2 ≡ height → it ≡ u → its_input ≡ other → w ≡ v → its_coin ≡ c → FieldsFit u × SpendsCoin keys height (spend v u other) c
      spends height u other v c h e i m d = (
        subst FieldsFit e k,
        subst (λ (n : ℕ). SpendsCoin keys n (spend v u other) c) h
            (subst (λ (x : Transaction). SpendsCoin keys 2 (spend v x other) c) e
            (subst (λ (x : TxIn). SpendsCoin keys 2 (spend v it x) c) i (subst (λ (x : LockedOutput). SpendsCoin keys 2 (spend x it its_input) c) m (subst (SpendsCoin keys 2 (spend w it its_input)) d s)))),
      )

      named : (v : LockedOutput) → Contains (w ∷ []) v → (c : Coin) → IsCoinAt chain v c → (height : ℕ) (u : Transaction) (other : TxIn) → StandsAt chain height u → Contains u.inputs other
          → other.outpoint ≡ v.place.outpoint → FieldsFit u × SpendsCoin keys height (spend v u other) c
      named v i c there height u other stands among names =
          let e : it ≡ u = taken_by_it out outputs witness height u stands in
          let d : IsCoinAt chain w c = subst (λ (x : LockedOutput). IsCoinAt chain x c) (sym (only w v i)) there in
          let j : Contains (its_input ∷ []) other = subst (λ (x : Transaction). Contains x.inputs other) (sym e) among in
          spends height u other v c (taken_at_two out outputs witness height u stands) e (only its_input other j) (only w v i) (same_Some its_coin c (sym coin_is_there.there ∙ d.there))

  -- no: IsLedgerOf
  taken_without_a_run : (SpendsCoin keys 2 (spend w it its_input) its_coin → ⊥) → IsLedgerOf keys (w ∷ []) [] chain → ⊥
  taken_without_a_run n l = n (l.named w (0, lit< tt, refl) its_coin coin_is_there 2 it its_input (taker_stands out outputs witness) (0, lit< tt, refl) (sym at)).1

  -- no: IsLedgerOf
  taken_by_what_does_not_fit : (FieldsFit it → ⊥) → IsLedgerOf keys (w ∷ []) [] chain → ⊥
  taken_by_what_does_not_fit n l = n (l.named w (0, lit< tt, refl) its_coin coin_is_there 2 it its_input (taker_stands out outputs witness) (0, lit< tt, refl) (sym at)).0

-- The output is a funding output, and the transaction has 4,001 outputs. The first key signed its half of the close with another hash type
module _ (first second : List ℕ) (k : is_key first ≡ true) (l : is_key second ≡ true) (signature token : List ℕ) (keys : List (List ℕ)) (count : ℕ) (number : count ≡ 4001) where
  abbrev script : List ℕ
  script = spelling (two_of_two first second)

  abbrev funding : LockedOutput
  funding = record { place = record { outpoint = grant_outpoint 0; value = 100000; program = script_hash_program script }; code = script }

  abbrev out : Output
  out = output_at funding.place

  abbrev many : List Output
  many = replicate count (record { value = 20; script = 0 ∷ [] })

  abbrev shown : List (List ℕ)
  shown = [] ∷ signature ∷ token ∷ script ∷ []

  abbrev close : Transaction
  close = taker out many shown

  abbrev close_input : TxIn
  close_input = naming out many shown

  each_fits : (n : ℕ) → AllByRecursion (λ (o : Output). (o.value < 2 ^ 64) × (length o.script < 2 ^ 64)) (replicate n (record { value = 20; script = 0 ∷ [] }))
  each_fits zero = tt
  each_fits (suc n) = ((omega arith, omega arith), each_fits n)

  -- yes: FieldsFit
  fits : FieldsFit close
  fits = record {
    version = omega arith;
    inputs = (record { txid = (grants_are_out_points 0).txid; index = (grants_are_out_points 0).index; sequence = omega arith; witness = record { count = omega arith; each = tt } }, tt);
    outputs = each_fits count;
    lock_time = omega arith;
  }

  too_many : KeepsLimits close → ⊥
  too_many k = let n = k.outputs.count in let m = length-replicate {A = Output} count (record { value = 20; script = 0 ∷ [] }) in omega (arith, n, m, number)

  module _ (own : token ≡ token_of second (digest_of (spend funding close close_input))) where
    its_witness : shown ≡ [] ∷ signature ∷ token_of second (digest_of (spend funding close close_input)) ∷ script ∷ []
    its_witness = ap (λ (x : List ℕ). [] ∷ signature ∷ x ∷ script ∷ []) own

    -- the first key is a peer's
    -- yes: IsLedgerOf
    signed_by_a_peer : has_item keys first ≡ false → IsLedgerOf keys (funding ∷ []) [] (with_taker out many shown)
    signed_by_a_peer e = ledger_of_one keys funding out many shown refl refl fits (with_another_hash_type first second k l close close_input 100000 1 signature its_witness keys e 2 refl)

    -- it is the node's
    -- no: IsLedgerOf
    signed_by_the_node_so : Contains keys first → first ≢ second → length signature ≡ 71 → length script ≡ 71 → IsLedgerOf keys (funding ∷ []) [] (with_taker out many shown) → ⊥
    signed_by_the_node_so i apart long other =
        taken_without_a_run keys funding out many shown refl refl (signed_by_the_node first second k l close close_input 100000 1 signature its_witness keys i apart long other 2)

-- a transaction that makes an output
module _ (keys : List (List ℕ)) (w : LockedOutput) (t : Transaction) where
  -- no: IsLedgerOf
  made_past_the_limits : transaction_id t ≡ w.place.outpoint.txid → (KeepsLimits (unsigned_transaction t) → ⊥) → IsLedgerOf keys [] (w ∷ []) (with_it t) → ⊥
  made_past_the_limits e n l = n (l.limits w (0, lit< tt, refl) 1 t (stands_there t) e)

  -- no: IsLedgerOf
  another_coin : (coin : Coin) (output : Output) → Makes t w.place.outpoint output → coin_at (with_it t) w.place.outpoint ≡ Some coin → coin.output.value ≡ 7 → output.value ≡ 8 → IsLedgerOf keys [] (w ∷ []) (with_it t) → ⊥
  another_coin coin output m c e f l =
      let made = l.coins w (0, lit< tt, refl) 1 t (stands_there t) output m in
      let same : made.0 ≡ coin = same_Some made.0 coin (sym made.1 ∙ c) in
      let g : coin.output.value ≡ output.value = sym (ap (λ (x : Coin). x.output.value) same) ∙ ap (λ (x : Output). x.value) made.2 in
      omega (arith, e, f, g)

  -- a transaction twice, with other witnesses
  module _ (u : Transaction) where
    abbrev twice : List Block
    twice = record { transactions = t ∷ u ∷ []; granted = [] } ∷ []

    either : (P : Transaction → Type 0) → P t → P u → (v : Transaction) → Contains (t ∷ u ∷ []) v → P v
    either P p q v (zero, l, e) = subst P e p
    either P p q v (suc zero, l, e) = subst P e q
    either P p q v (suc (suc n), l, e) = absurd (omega (arith, l))

    one_of_two : (P : Transaction → Type 0) → P t → P u → (height : ℕ) (v : Transaction) → StandsAt twice height v → P v
    one_of_two P p q zero v s = either P p q v (subst (λ (b : Block). Contains b.transactions v) (sym (same_Some (record { transactions = t ∷ u ∷ []; granted = [] }) s.block s.there)) s.within)
    one_of_two P p q (suc n) v s = absurd (none_some s.block (sym (slice_get_past (record { transactions = t ∷ u ∷ []; granted = [] } ∷ []) (suc n) (omega arith)) ∙ s.there))

    -- with whatever witnesses the second has
    -- yes: IsLedgerOf
    but_for_witnesses : unsigned_transaction t ≡ unsigned_transaction u → KeepsLimits (unsigned_transaction t)
        → ((output : Output) → slice_get t.outputs w.place.outpoint.index ≡ Some output → (coin : Coin) × (coin_at twice w.place.outpoint ≡ Some coin) × (coin.output ≡ output))
        → IsLedgerOf keys [] (w ∷ []) twice
    but_for_witnesses same k coins = record {
      named = λ v i coin c height x input s within names. absurd (contains_none v i);
      limits = λ v i height x s id. one_of_two (λ (z : Transaction). KeepsLimits (unsigned_transaction z)) k (subst KeepsLimits same k) height x s;
      one = λ v i height earlier x y s r id rival. one_of_two (λ (z : Transaction). unsigned_transaction z ≡ unsigned_transaction t) refl (sym same) height x s
          ∙ sym (one_of_two (λ (z : Transaction). unsigned_transaction z ≡ unsigned_transaction t) refl (sym same) earlier y r);
      coins = λ v i height x s output makes. subst (λ (z : LockedOutput). (coin : Coin) × (coin_at twice z.place.outpoint ≡ Some coin) × (coin.output ≡ output)) (only w v i)
          (coins output (subst (λ (os : List Output). slice_get os w.place.outpoint.index ≡ Some output) (one_of_two (λ (z : Transaction). z.outputs ≡ t.outputs) refl (ap (λ (z : Transaction). z.outputs) (sym same)) height x s)
          (ap (λ (z : LockedOutput). slice_get x.outputs z.place.outpoint.index) (only w v i) ∙ makes.there)));
    }

  -- two transactions of one id, in one block
  -- no: IsLedgerOf
  two_of_one_id : (u : Transaction) → transaction_id t ≡ w.place.outpoint.txid → transaction_id u ≡ w.place.outpoint.txid → t.lock_time ≡ 500 → u.lock_time ≡ 501
      → IsLedgerOf keys [] (w ∷ []) (record { transactions = t ∷ u ∷ []; granted = [] } ∷ []) → ⊥
  two_of_one_id u e f l m k =
      let b : Block = record { transactions = t ∷ u ∷ []; granted = [] } in
      let same = k.one w (0, lit< tt, refl) 0 0 t u (record { block = b; there = refl; within = (0, lit< tt, refl) }) (record { block = b; there = refl; within = (1, lit< tt, refl) }) e f in
      let g : t.lock_time ≡ u.lock_time = ap (λ (x : Transaction). x.lock_time) same in
      omega (arith, l, m, g)

-- ---- funded

-- no: IsFunded
not_yet_funded : (terms : Terms) → IsFunded [] terms → ⊥
not_yet_funded terms f = none_some f.0 f.1.there

module _ (terms : Terms) (out : Output) (at : terms.funding ≡ grant_outpoint 0) where
  funding_there : coin_at (granting out) terms.funding ≡ Some (coin_from out 1)
  funding_there = ap (coin_at (granting out)) at ∙ granted_there out

  -- yes: IsFunded
  funded : out ≡ output_at (funding_lock terms).place → IsFunded (granting out) terms
  funded e = (coin_from out 1, record { there = funding_there; output = e })

  its_output : IsFunded (granting out) terms → out ≡ output_at (funding_lock terms).place
  its_output i = ap (λ (x : Coin). x.output) (same_Some (coin_from out 1) i.0 (sym funding_there ∙ i.1.there)) ∙ i.1.output

  -- no: IsFunded
  a_satoshi_short : terms.capacity_sat ≡ 100000 → out.value ≡ 99999 → IsFunded (granting out) terms → ⊥
  a_satoshi_short e f i = let g : out.value ≡ terms.capacity_sat = ap (λ (x : Output). x.value) (its_output i) in omega (arith, e, f, g)

  -- no: IsFunded
  with_another_script : length out.script ≡ 22 → length (funding_lock terms).place.program ≡ 34 → IsFunded (granting out) terms → ⊥
  with_another_script e f i = let g : length out.script ≡ length (funding_lock terms).place.program = ap (λ (x : Output). length x.script) (its_output i) in omega (arith, e, f, g)

-- ---- watched

module _ (hs : List Holding) where
  -- yes: IsLedger
  no_blocks : IsLedger hs []
  no_blocks = ledger_of_nothing (secret_keys hs) (locks_by hs) (outputs_by hs)

  -- an output of the node's is taken by a transaction whose fields do not fit
  -- no: IsLedger
  taken_by_none_that_fits : (blocks : List Block) (w : LockedOutput) → Contains (locks_by hs) w → (coin : Coin) → IsCoinAt blocks w coin
      → (height : ℕ) (t : Transaction) (input : TxIn) → StandsAt blocks height t → Contains t.inputs input → input.outpoint ≡ w.place.outpoint → (FieldsFit t → ⊥) → IsLedger hs blocks → ⊥
  taken_by_none_that_fits blocks w i coin there height t input stands within names n l = n (l.named w i coin there height t input stands within names).0

  -- yes: IsWatched
  before_any_block : EachKeepsRules hs → IsWatched hs []
  before_any_block k = record { kept = k; ledger = no_blocks; own = refl }

  -- no: IsWatched
  rules_not_kept : (EachKeepsRules hs → ⊥) → IsWatched hs [] → ⊥
  rules_not_kept n v = n v.kept

  -- no: IsWatched
  on_no_ledger : (blocks : List Block) → (IsLedger hs blocks → ⊥) → IsWatched hs blocks → ⊥
  on_no_ledger blocks n v = n v.ledger

  -- an input names an output of the node's, with a token of the node's over that spend, which the node did not give out
  -- no: IsWatched
  forged : (t : Transaction) (input : TxIn) → t.inputs ≡ input ∷ [] → (w : LockedOutput) → Contains (locks_by hs) w → input.outpoint ≡ w.place.outpoint
      → (key : List ℕ) → Contains (keys_by hs) key → Contains input.witness (token_of key (digest_of (spend w t input)))
      → (Contains (map token_bytes (given_by hs)) (token_of key (digest_of (spend w t input))) → ⊥) → IsWatched hs (with_it t) → ⊥
  forged t input inputs w l names key k shown not_given v =
      let given = map token_bytes (given_by hs) in
      let digest = digest_of (spend w t input) in
      let among : Contains t.inputs input = subst (λ (is : List TxIn). Contains is input) (sym inputs) (0, lit< tt, refl) in
      let each : each_spend (shows_given given (keys_by hs)) (locks_by hs) t input ≡ true = on_input (each_spend (shows_given given (keys_by hs)) (locks_by hs)) (with_it t) v.own 1 t input (stands_there t) among in
      let shows : shows_given given (keys_by hs) input.witness digest ≡ true = on_spend (shows_given given (keys_by hs)) (locks_by hs) t input each w l names in
      let mine = all_hold (λ (x : List ℕ). not (has_item input.witness (token_of x digest)) || has_item given (token_of x digest)) (keys_by hs) shows key k in
      not_given (has_one given (token_of key digest) (or_then (has_item input.witness (token_of key digest)) (has_item given (token_of key digest)) (has input.witness (token_of key digest) shown) mine))
