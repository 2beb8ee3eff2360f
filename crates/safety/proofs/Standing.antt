-- What stands on a chain that passed its tests: the outputs of its transactions, and the inputs that name them.
use Rattle.std.proofs.Common.{◌≡◌, ℕ, zero, suc, ◌+◌, true, false, List, [], ◌∷◌, ◌++◌, length, reverse, Option, Some, None, option_map, sym, ap, ◌∙◌, refl, subst, ⊎_elim, arith}
use Rattle.std.specs.Prelude.{slice_get}
use Rattle.std.specs.List.{Contains, find, list_any}
use Rattle.std.proofs.lemmas.List.Elements.{Contains-append_left, Contains-append_right}
use Rattle.std.proofs.lemmas.List.{length-reverse}
use Rattle.std.proofs.lemmas.Option.{slice_get_past}
use Rattle.std.proofs.lemmas.Grind.{reverse_onto}
use Rattle.tx.specs.declared.input.OutPoint.{OutPoint}
use Rattle.tx.specs.declared.input.TxIn.{TxIn}
use Rattle.tx.specs.Parts.{Output}
use Rattle.tx.specs.Fields.{Transaction, same_outpoint}
use Rattle.tx.specs.Spelling.{transaction_id}
use Rattle.chain.specs.Blocks.{Contents as Block, Creation, Coin, creations_from, created_by, created_by_all, granted_at, grants_in, created_of, names, is_named, created_at, coin_at}
use Rattle.chain.specs.Checked.{is_checked}
use Rattle.chain.specs.Conserving.{GrantsAreApart}
use Rattle.chain.proofs.Apart.{Differ, are_apart}
use Rattle.chain.proofs.Noting.{same_is, itself, swapped}
use Rattle.safety.specs.Standing.{StandsAt, CoinsHaveHeights}
use Rattle.safety.proofs.Slots.{contains_cases, contains_later, contains_reverse}
use Rattle.safety.proofs.Passed.{last_cases}
use Rattle.safety.proofs.Lists.{none_some, some_is, contains_none, contained, at_reversed, any_found, none_holds}

-- the block of a transaction is one of the chain's
pub block_in : (blocks : List Block) (height : ℕ) (t : Transaction) (s : StandsAt blocks height t) → Contains blocks s.block
block_in blocks height t s = contains_reverse blocks s.block (contained (reverse blocks) height s.block s.there)

-- ---- what names an outpoint

-- an input on the chain names it
pub record IsNaming (blocks : List Block) (o : OutPoint) : Type 0 where
  pub height : ℕ
  pub transaction : Transaction
  pub input : TxIn
  pub stands : StandsAt blocks height transaction
  pub within : Contains transaction.inputs input
  pub named : input.outpoint ≡ o

pub naming : (blocks : List Block) (o : OutPoint) → is_named blocks o ≡ true → IsNaming blocks o
naming blocks o e =
    let b = any_found (λ (x : Block). list_any (names o) x.transactions) blocks e in
    let t = any_found (names o) b.0.transactions b.2 in
    let i = any_found (λ (x : TxIn). same_outpoint x.outpoint o) t.0.inputs t.2 in
    let h = at_reversed blocks b.0 b.1 in
    record {
      height = h.0;
      transaction = t.0;
      input = i.0;
      stands = record { block = b.0; there = h.1; within = t.1 };
      within = i.1;
      named = same_is i.0.outpoint o i.2;
    }

-- ---- what stands at an outpoint

abbrev creation : List ℕ → ℕ → Output → ℕ → Creation
creation id index output height = record { outpoint = record { txid = id; index = index }; output = output; height = height }

from_index : (id : List ℕ) (height index k : ℕ) (os : List Output) (o : Output) → slice_get os k ≡ Some o → Contains (creations_from id height index os) (creation id (index + k) o height)
from_index id height index k [] o e = absurd (none_some o (sym (slice_get_past [] k (omega arith)) ∙ e))
from_index id height index zero (x ∷ xs) o e =
    let at : index ≡ index + 0 = omega arith in
    (0, omega arith, ap (λ (y : Output). creation id index y height) (some_is x o e) ∙ ap (λ n. creation id n o height) at)
from_index id height index (suc k) (x ∷ xs) o e =
    let at : index + 1 + k ≡ index + suc k = omega arith in
    contains_later (creation id index x height) (creations_from id height (index + 1) xs) (creation id (index + suc k) o height)
    (subst (λ n. Contains (creations_from id height (index + 1) xs) (creation id n o height)) at (from_index id height (index + 1) k xs o e))

by_transaction : (height : ℕ) (t : Transaction) (index : ℕ) (o : Output) → slice_get t.outputs index ≡ Some o → Contains (created_by height t) (creation (transaction_id t) index o height)
by_transaction height t index o e =
    let at : 0 + index ≡ index = omega arith in
    subst (λ n. Contains (creations_from (transaction_id t) height 0 t.outputs) (creation (transaction_id t) n o height)) at (from_index (transaction_id t) height 0 index t.outputs o e)

by_transactions : (height : ℕ) (ts : List Transaction) (t : Transaction) (c : Creation) → Contains ts t → Contains (created_by height t) c → Contains (created_by_all height ts) c
by_transactions height [] t c i own = absurd (contains_none t i)
by_transactions height (x ∷ xs) t c i own =
    ⊎_elim {C = Contains (created_by_all height (x ∷ xs)) c}
    (λ (e : x ≡ t). Contains-append_right (created_by_all height xs) (created_by height x) c (subst (λ (y : Transaction). Contains (created_by height y) c) (sym e) own))
    (λ (j : Contains xs t). Contains-append_left (created_by_all height xs) (created_by height x) c (by_transactions height xs t c j own))
    (contains_cases x xs t i)

by_blocks : (blocks : List Block) (height : ℕ) (b : Block) (t : Transaction) (index : ℕ) (o : Output) → slice_get (reverse blocks) height ≡ Some b → Contains b.transactions t → slice_get t.outputs index ≡ Some o
    → Contains (created_of blocks) (creation (transaction_id t) index o height)
by_blocks [] height b t index o i j e = absurd (none_some b (sym (slice_get_past [] height (omega arith)) ∙ i))
by_blocks (x ∷ older) height b t index o i j e =
    let h = length older in
    let created = created_by_all h x.transactions in
    let granted = granted_at h (grants_in older) x.granted in
    let c = creation (transaction_id t) index o h in
    let there : slice_get (reverse older ++ x ∷ []) height ≡ Some b = ap (λ xs. slice_get xs height) (sym (reverse_onto older x [])) ∙ i in
    ⊎_elim {C = Contains (created_of (x ∷ older)) (creation (transaction_id t) index o height)}
    (λ (k : slice_get (reverse older) height ≡ Some b). Contains-append_left (created_of older) (created ++ granted) (creation (transaction_id t) index o height) (by_blocks older height b t index o k j e))
    (λ (s : (height ≡ length (reverse older)) × (x ≡ b)).
    let at : h ≡ height = omega (arith, s.0, length-reverse older) in
    let within : Contains x.transactions t = subst (λ (y : Block). Contains y.transactions t) (sym s.1) j in
    subst (λ n. Contains (created_of (x ∷ older)) (creation (transaction_id t) index o n)) at
    (Contains-append_right (created_of older) (created ++ granted) c (Contains-append_left created granted c (by_transactions h x.transactions t c within (by_transaction h t index o e)))))
    (last_cases (reverse older) x b height there)

-- whoever is there is found, where none stands at the outpoint of another
found_one : (list : List Creation) (c : Creation) → Differ list → Contains list c → find (λ d. same_outpoint d.outpoint c.outpoint) list ≡ Some c
found_one [] c apart i = absurd (contains_none c i)
found_one (x ∷ xs) c apart i =
    ⊎_elim {C = find (λ d. same_outpoint d.outpoint c.outpoint) (x ∷ xs) ≡ Some c}
    (λ (e : x ≡ c).
    let here : same_outpoint x.outpoint c.outpoint ≡ true = ap (λ (d : Creation). same_outpoint d.outpoint c.outpoint) e ∙ itself c.outpoint in
    rw here (ap Some e))
    (λ (j : Contains xs c).
    let other : same_outpoint x.outpoint c.outpoint ≡ false = swapped x.outpoint c.outpoint ∙ none_holds (λ (d : Creation). same_outpoint d.outpoint x.outpoint) xs c apart.0 j in
    rw other (found_one xs c apart.1 j))
    (contains_cases x xs c i)

abbrev coin_from : List Block → OutPoint → Creation → Coin
coin_from blocks o c = record { output = c.output; height = c.height; spent = is_named blocks o }

pub coins_have_heights : CoinsHaveHeights
coins_have_heights blocks checked grants height t s o id output e =
    let c = creation (transaction_id t) o.index output height in
    let same : (record { txid = transaction_id t; index = o.index }) ≡ o = ap (λ (i : List ℕ). let p : OutPoint = record { txid = i; index = o.index } in p) id in
    subst (λ (p : OutPoint). coin_at blocks p ≡ Some (coin_from blocks p c)) same
    (ap (option_map (coin_from blocks c.outpoint)) (found_one (created_of blocks) c (are_apart blocks checked grants) (by_blocks blocks height s.block t o.index output s.there s.within e)))

-- the coin of an output
pub record IsThere (blocks : List Block) (o : OutPoint) (output : Output) : Type 0 where
  pub coin : Coin
  pub at : coin_at blocks o ≡ Some coin
  pub is : coin.output ≡ output

pub coin_there : (blocks : List Block) → is_checked blocks ≡ true → GrantsAreApart blocks → (height : ℕ) (t : Transaction) → StandsAt blocks height t → (index : ℕ) (o : Output) → slice_get t.outputs index ≡ Some o
    → IsThere blocks (record { txid = transaction_id t; index = index }) o
coin_there blocks checked grants height t s index o e =
    let point : OutPoint = record { txid = transaction_id t; index = index } in
    record { coin = coin_from blocks point (creation (transaction_id t) index o height); at = coins_have_heights blocks checked grants height t s point refl o e; is = refl }

-- a coin is spent where an input names it
pub spent_is : (blocks : List Block) (o : OutPoint) (coin : Coin) → coin_at blocks o ≡ Some coin → coin.spent ≡ is_named blocks o
spent_is blocks o coin e = by (created_at blocks o) e
  where
    by : (f : Option Creation) → option_map (coin_from blocks o) f ≡ Some coin → coin.spent ≡ is_named blocks o
    by None g = absurd (none_some coin g)
    by (Some c) g = sym (ap (λ (x : Coin). x.spent) (some_is (coin_from blocks o c) coin g))
