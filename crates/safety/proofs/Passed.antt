-- What is known of inputs on a chain that passed its tests.
use Rattle.std.proofs.Common.{◌≡◌, ℕ, zero, suc, Bool, true, false, not, List, [], ◌∷◌, ◌++◌, length, reverse, Option, Some, None, option_map, sym, ap, ◌∙◌, refl, subst, inl, inr, ⊎_elim, append_assoc, append-nil, arith}
use Rattle.std.specs.Prelude.{◌⊎◌, slice_get}
use Rattle.std.specs.List.{Contains, find}
use Rattle.std.specs.Option.{option_or}
use Rattle.std.proofs.lemmas.Bool.{false≢true, and_parts}
use Rattle.std.proofs.lemmas.List.{length-reverse}
use Rattle.std.proofs.lemmas.Option.{slice_get_past}
use Rattle.std.proofs.lemmas.List.Folds.{find-append}
use Rattle.std.proofs.lemmas.Grind.{reverse_onto}
use Rattle.tx.specs.declared.input.OutPoint.{OutPoint}
use Rattle.tx.specs.declared.input.TxIn.{TxIn}
use Rattle.tx.specs.Fields.{Transaction, same_outpoint}
use Rattle.chain.specs.declared.errors.ChainError.{ChainError}
use Rattle.chain.specs.Blocks.{Contents, Creation, Coin, height_of, created_by, created_by_all, granted_at, grants_in, created_of, is_named, created_at}
use Rattle.chain.specs.Indexing.{new_coin}
use Rattle.chain.specs.Checks.{first_of, coin_refusal, input_refusal, inputs_refusal, transaction_refusal}
use Rattle.chain.specs.Checked.{have_passed, is_checked}
use Rattle.chain.proofs.Passing.{passed as transaction_passed, next_passed}
use Rattle.safety.specs.Standing.{StandsAt, HavePassed}
use Rattle.safety.proofs.Slots.{contains_cases}
use Rattle.safety.proofs.OnChain.{passed}

some_none : {X : Type 0} (x : X) → Some x ≡ None → ⊥
some_none x e = cc

none_some : {X : Type 0} (x : X) → None ≡ Some x → ⊥
none_some x e = cc

some_is : {X : Type 0} (x y : X) → Some x ≡ Some y → x ≡ y
some_is x y e = cc

both_passed : (a b : Option ChainError) → first_of a b ≡ None → (a ≡ None) × (b ≡ None)
both_passed None b e = (refl, e)
both_passed (Some r) b e = absurd (some_none r e)

not_true : (b : Bool) → not b ≡ true → b ≡ false
not_true true e = absurd (false≢true e)
not_true false e = refl

-- one of these creations is what the input names, and the input passed the test of it before it was spent
record IsFound (cs : List Creation) (height : ℕ) (t : Transaction) (input : TxIn) : Type 0 where
  creation : Creation
  there : find (λ c. same_outpoint c.outpoint input.outpoint) cs ≡ Some creation
  passes : coin_refusal height t input (Some (new_coin creation)) ≡ None

still_found : (xs ys : List Creation) (height : ℕ) (t : Transaction) (input : TxIn) → IsFound xs height t input → IsFound (xs ++ ys) height t input
still_found xs ys height t input f = record {
  creation = f.creation;
  there = find-append (λ c. same_outpoint c.outpoint input.outpoint) xs ys ∙ ap (λ o. option_or o (find (λ c. same_outpoint c.outpoint input.outpoint) ys)) f.there;
  passes = f.passes;
}

coin_found : (blocks : List Contents) (height : ℕ) (t : Transaction) (input : TxIn) → input_refusal blocks height t input ≡ None → IsFound (created_of blocks) height t input
coin_found blocks height t input e = by (created_at blocks input.outpoint) refl e
  where
    by : (f : Option Creation) → created_at blocks input.outpoint ≡ f
        → coin_refusal height t input (option_map (λ c. record { output = c.output; height = c.height; spent = is_named blocks input.outpoint }) f) ≡ None → IsFound (created_of blocks) height t input
    by None f g = absurd (some_none _ g)
    by (Some c) f g =
        let p = passed height t input (record { output = c.output; height = c.height; spent = is_named blocks input.outpoint }) g in
        record {
          creation = c;
          there = f;
          passes = ap (λ (s : Bool). coin_refusal height t input (Some (record { output = c.output; height = c.height; spent = s }))) (sym (not_true (is_named blocks input.outpoint) p.unspent)) ∙ g;
        }

-- each of the inputs that were tested
input_passed : (blocks : List Contents) (height : ℕ) (t : Transaction) (inputs : List TxIn) → inputs_refusal blocks height t inputs ≡ None → (input : TxIn) → Contains inputs input → input_refusal blocks height t input ≡ None
input_passed blocks height t [] e input (k, l, c) = absurd (omega (arith, l))
input_passed blocks height t (i ∷ is) e input c =
    let b = both_passed (input_refusal blocks height t i) (inputs_refusal blocks height t is) e in
    ⊎_elim (λ (s : i ≡ input). ap (λ x. input_refusal blocks height t x) (sym s) ∙ b.0) (λ (d : Contains is input). input_passed blocks height t is b.1 input d) (contains_cases i is input c)

-- after the transactions before it in its block
next_found : (older : List Contents) (t : Transaction) (ts : List Transaction) → transaction_refusal (record { transactions = ts; granted = [] } ∷ older) t ≡ None
    → (input : TxIn) → Contains t.inputs input → IsFound (created_of older ++ created_by_all (length older) ts) (length older) t input
next_found older t ts e input c =
    let before : List Contents = record { transactions = ts; granted = [] } ∷ older in
    let h : height_of before ≡ length older = omega arith in
    subst (λ n. IsFound (created_of older ++ created_by_all (length older) ts) n t input) h
    (subst (λ cs. IsFound (created_of older ++ cs) (height_of before) t input) (append-nil (created_by_all (length older) ts))
    (coin_found before (height_of before) t input (input_passed before (height_of before) t t.inputs (transaction_passed before t e).inputs input c)))

in_block : (older : List Contents) (ts : List Transaction) → have_passed older ts ≡ true → (t : Transaction) → Contains ts t
    → (input : TxIn) → Contains t.inputs input → IsFound (created_of older ++ created_by_all (length older) ts) (length older) t input
in_block older [] e t (k, l, c) input i = absurd (omega (arith, l))
in_block older (u ∷ us) e t c input i =
    let n = next_passed older u us e in
    subst (λ cs. IsFound cs (length older) t input) (append_assoc (created_of older) (created_by_all (length older) us) (created_by (length older) u))
    (still_found (created_of older ++ created_by_all (length older) us) (created_by (length older) u) (length older) t input
    (⊎_elim
    (λ (s : u ≡ t). subst (λ (x : Transaction). Contains x.inputs input → IsFound (created_of older ++ created_by_all (length older) us) (length older) x input) s (λ j. next_found older u us n.0 input j) i)
    (λ (d : Contains us t). in_block older us n.1 t d input i)
    (contains_cases u us t c)))

-- an element of a list with one more at its end
pub last_cases : {X : Type 0} (xs : List X) (y x : X) (k : ℕ) → slice_get (xs ++ y ∷ []) k ≡ Some x → (slice_get xs k ≡ Some x) ⊎ ((k ≡ length xs) × (y ≡ x))
last_cases [] y x zero e = inr (refl, some_is y x e)
last_cases {X} [] y x (suc k) e = absurd (none_some x (sym (slice_get_past (y ∷ []) (suc k) (omega arith)) ∙ e))
last_cases (z ∷ zs) y x zero e = inl e
last_cases {X} (z ∷ zs) y x (suc k) e = ⊎_elim (λ (f : slice_get zs k ≡ Some x). inl f) (λ (r : (k ≡ length zs) × (y ≡ x)). inr (ap suc r.0, r.1)) (last_cases zs y x k e)

on_chain : (blocks : List Contents) → is_checked blocks ≡ true → (height : ℕ) (t : Transaction) → StandsAt blocks height t → (input : TxIn) → Contains t.inputs input → IsFound (created_of blocks) height t input
on_chain [] e height t s input i = absurd (none_some s.block (sym (slice_get_past [] height (omega arith)) ∙ s.there))
on_chain (b ∷ older) e height t s input i =
    let parts = and_parts (have_passed older b.transactions) (is_checked older) e in
    let created = created_by_all (length older) b.transactions in
    let granted = granted_at (length older) (grants_in older) b.granted in
    let there : slice_get (reverse older ++ b ∷ []) height ≡ Some s.block = ap (λ xs. slice_get xs height) (sym (reverse_onto older b [])) ∙ s.there in
    ⊎_elim
    (λ (f : slice_get (reverse older) height ≡ Some s.block).
    still_found (created_of older) (created ++ granted) height t input (on_chain older parts.1 height t (record { block = s.block; there = f; within = s.within }) input i))
    (λ (r : (height ≡ length (reverse older)) × (b ≡ s.block)).
    let h : length older ≡ height = omega (arith, r.0, length-reverse older) in
    let within : Contains b.transactions t = subst (λ (x : Contents). Contains x.transactions t) (sym r.1) s.within in
    subst (λ n. IsFound (created_of older ++ (created ++ granted)) n t input) h
    (subst (λ cs. IsFound cs (length older) t input) (append_assoc (created_of older) created granted)
    (still_found (created_of older ++ created) granted (length older) t input (in_block older b.transactions parts.0 t within input i))))
    (last_cases (reverse older) b s.block height there)

abbrev coin_from : List Contents → OutPoint → Creation → Coin
coin_from blocks o c = record { output = c.output; height = c.height; spent = is_named blocks o }

pub inputs_have_passed : HavePassed
inputs_have_passed blocks e height t s input i =
    let f = on_chain blocks e height t s input i in (
      coin_from blocks input.outpoint f.creation,
      ap (option_map (coin_from blocks input.outpoint)) f.there,
      f.passes,
    )
