-- What is known of a chain whose transactions passed their tests.
use Rattle.std.proofs.Common.{◌≡◌, ℕ, inl, inr, Bool, true, false, not, ◌||◌, ◌+◌, ◌<◌, List, [], ◌∷◌, ◌++◌, length, drop, get_or, Option, Some, None, option_map, sym, ap, ◌∙◌, refl, append_assoc, append-nil}
use Rattle.std.specs.Prelude.{is_some, nat_le}
use Rattle.std.specs.List.{find, list_any}
use Rattle.std.specs.Option.{option_or, is_none}
use Rattle.std.proofs.lemmas.Bool.{false≢true, and_parts, or_cases}
use Rattle.std.proofs.lemmas.List.Folds.{find-append}
use Rattle.tx.specs.declared.input.OutPoint.{OutPoint}
use Rattle.tx.specs.declared.input.TxIn.{TxIn}
use Rattle.tx.specs.Fields.{Transaction, same_outpoint}
use Rattle.tx.specs.Spelling.{transaction_id}
use Rattle.chain.specs.declared.errors.ChainError.{ChainError}
use Rattle.chain.specs.declared.errors.ChainError.TheVariants.{Spent, Twice, OutputsExceed}
use Rattle.chain.specs.Blocks.{Contents, Creation, Coin, height_of, created_by, created_by_all, granted_at, grants_in, created_of, names, is_named, created_at, coin_at, has_id, paid_in, paid_out}
use Rattle.chain.specs.Checks.{required, first_of, coin_refusal, input_refusal, indexed_refusal, inputs_refusal, names_twice, transaction_refusal}
use Rattle.chain.specs.Checked.{have_passed, is_checked}
use Rattle.chain.proofs.Finding.{head_left}
use Rattle.chain.proofs.Noting.{same_is}

test_passed : (b : Bool) (r : ChainError) (next : Option ChainError) → required b r next ≡ None → (b ≡ true) × (next ≡ None)
test_passed true r next e = (refl, e)
test_passed false r next e = absurd cc

both_passed : (a b : Option ChainError) → first_of a b ≡ None → (a ≡ None) × (b ≡ None)
both_passed None b e = (refl, e)
both_passed (Some r) b e = absurd cc

not_true : (b : Bool) → not b ≡ true → b ≡ false
not_true true e = absurd (false≢true e)
not_true false e = refl

or_false : (a b : Bool) → (a || b) ≡ false → (a ≡ false) × (b ≡ false)
or_false true b e = absurd (false≢true (sym e))
or_false false b e = (refl, e)

-- where an input passes, the refusal is that of those after it
pub input_passed : (blocks : List Contents) (height : ℕ) (t : Transaction) (inputs : List TxIn) (i : ℕ) (x : TxIn) (whole : Option ChainError) → x ≡ get_or inputs i x → i < length inputs → input_refusal blocks height t x ≡ None → inputs_refusal blocks height t (drop i inputs) ≡ whole → inputs_refusal blocks height t (drop (i + 1) inputs) ≡ whole
input_passed blocks height t inputs i x whole e below passes w =
    let rest = drop (i + 1) inputs in
    sym (ap (inputs_refusal blocks height t) (head_left inputs i x e below) ∙ ap (λ r. first_of r (inputs_refusal blocks height t rest)) passes) ∙ w

-- what is asked of an index is asked of the input there
pub asked : (blocks : List Contents) (h height : ℕ) (t : Transaction) (o : Option TxIn) (i : TxIn) → o ≡ Some i → height ≡ h → input_refusal blocks height t i ≡ indexed_refusal blocks h t o
asked blocks h height t o i e f = ap (λ (n : ℕ). input_refusal blocks n t i) f ∙ sym (ap (indexed_refusal blocks h t) e)

-- what a transaction passed
pub record Passed (blocks : List Contents) (t : Transaction) : Type 0 where
  pub once : names_twice t.inputs ≡ false
  pub new_id : has_id blocks (transaction_id t) ≡ false
  pub inputs : inputs_refusal blocks (height_of blocks) t t.inputs ≡ None
  pub covered : nat_le (paid_out t.outputs) (paid_in blocks t.inputs) ≡ true

pub passed : (blocks : List Contents) (t : Transaction) → transaction_refusal blocks t ≡ None → Passed blocks t
unfolding transaction_refusal
passed blocks t e =
    let a = test_passed (not (names_twice t.inputs || has_id blocks (transaction_id t))) Twice _ e in
    let twice = or_false (names_twice t.inputs) (has_id blocks (transaction_id t)) (not_true _ a.0) in
    let b = both_passed (inputs_refusal blocks (height_of blocks) t t.inputs) _ a.1 in
    let d = test_passed (nat_le (paid_out t.outputs) (paid_in blocks t.inputs)) OutputsExceed None b.1 in
    record { once = twice.0; new_id = twice.1; inputs = b.0; covered = d.0 }

-- a coin that is there and unspent
abbrev pub IsFresh : Option Coin → Type 0
IsFresh found = (c : Coin) × (found ≡ Some c) × (c.spent ≡ false)

coin_passed : (height : ℕ) (t : Transaction) (input : TxIn) (found : Option Coin) → coin_refusal height t input found ≡ None → IsFresh found
coin_passed height t input None e = absurd cc
coin_passed height t input (Some c) e = (c, refl, not_true c.spent (test_passed (not c.spent) Spent _ e).0)

-- what an input spends was there and unspent
pub named_fresh : (blocks : List Contents) (height : ℕ) (t : Transaction) (inputs : List TxIn) (q : OutPoint) → inputs_refusal blocks height t inputs ≡ None → list_any (λ i. same_outpoint i.outpoint q) inputs ≡ true → IsFresh (coin_at blocks q)
named_fresh blocks height t [] q e n = absurd (false≢true n)
named_fresh blocks height t (i ∷ is) q e n =
    let b = both_passed (input_refusal blocks height t i) (inputs_refusal blocks height t is) e in
    elim (or_cases (same_outpoint i.outpoint q) (list_any (λ i. same_outpoint i.outpoint q) is) n) [
      | inl s ↦ rw (same_is i.outpoint q s) at (coin_passed height t i (coin_at blocks i.outpoint) b.0)
      | inr r ↦ named_fresh blocks height t is q b.1 r
    ]

some_or : {A : Type 0} (x y : Option A) → is_some x ≡ true → is_some (option_or x y) ≡ true
some_or None y e = absurd (false≢true e)
some_or (Some a) y e = refl

pub found_stays : (p : Creation → Bool) (xs ys : List Creation) → is_some (find p xs) ≡ true → is_some (find p (xs ++ ys)) ≡ true
found_stays p xs ys e = ap is_some (find-append p xs ys) ∙ some_or (find p xs) (find p ys) e

pub coin_created : {A B : Type 0} (f : A → B) (x : Option A) (c : B) → option_map f x ≡ Some c → is_some x ≡ true
coin_created f None c e = absurd cc
coin_created f (Some a) c e = refl

none_passes : (r : Option ChainError) → is_none r ≡ true → r ≡ None
none_passes None e = refl
none_passes (Some r) e = absurd (false≢true e)

-- the next transaction passed after those before it in its block
pub next_passed : (older : List Contents) (t : Transaction) (ts : List Transaction) → have_passed older (t ∷ ts) ≡ true → (transaction_refusal (record { transactions = ts; granted = [] } ∷ older) t ≡ None) × (have_passed older ts ≡ true)
next_passed older t ts e =
    let p = and_parts (is_none (transaction_refusal (record { transactions = ts; granted = [] } ∷ older) t)) (have_passed older ts) e in (
      none_passes (transaction_refusal (record { transactions = ts; granted = [] } ∷ older) t) p.0,
      p.1,
    )

named_in_block : (older : List Contents) (ts : List Transaction) (q : OutPoint) → have_passed older ts ≡ true → list_any (names q) ts ≡ true → is_some (find (λ c. same_outpoint c.outpoint q) (created_of older ++ created_by_all (length older) ts)) ≡ true
named_in_block older [] q e n = absurd (false≢true n)
named_in_block older (t ∷ ts) q e n =
    let p : Creation → Bool = λ c. same_outpoint c.outpoint q in
    let before : List Contents = record { transactions = ts; granted = [] } ∷ older in
    let passes = next_passed older t ts e in
    let whole = append_assoc (created_of older) (created_by_all (length older) ts) (created_by (length older) t) in
    let earlier : is_some (find p (created_of older ++ created_by_all (length older) ts)) ≡ true =
    elim (or_cases (names q t) (list_any (names q) ts) n) [
      | inl s ↦
          let fresh = named_fresh before (height_of before) t t.inputs q (passed before t passes.0).inputs s in
          ap (λ xs. is_some (find p (created_of older ++ xs))) (sym (append-nil (created_by_all (length older) ts))) ∙ coin_created _ (created_at before q) fresh.0 fresh.1
      | inr r ↦ named_in_block older ts q passes.1 r
    ] in
    ap (λ xs. is_some (find p xs)) (sym whole) ∙ found_stays p (created_of older ++ created_by_all (length older) ts) (created_by (length older) t) earlier

-- what an input on the chain spends was created
pub named_created : (blocks : List Contents) (q : OutPoint) → is_checked blocks ≡ true → is_named blocks q ≡ true → is_some (created_at blocks q) ≡ true
named_created [] q e n = absurd (false≢true n)
named_created (b ∷ older) q e n =
    let p : Creation → Bool = λ c. same_outpoint c.outpoint q in
    let h = length older in
    let parts = and_parts (have_passed older b.transactions) (is_checked older) e in
    elim (or_cases (list_any (names q) b.transactions) (is_named older q) n) [
      | inl s ↦
          ap (λ xs. is_some (find p xs)) (sym (append_assoc (created_of older) (created_by_all h b.transactions) (granted_at h (grants_in older) b.granted)))
          ∙ found_stays p (created_of older ++ created_by_all h b.transactions) (granted_at h (grants_in older) b.granted) (named_in_block older b.transactions q parts.0 s)
      | inr r ↦ found_stays p (created_of older) (created_by_all h b.transactions ++ granted_at h (grants_in older) b.granted) (named_created older q parts.1 r)
    ]
