-- How an index follows the blocks.
use Rattle.std.proofs.Common.{◌≡◌, ℕ, zero, suc, ◌+◌, ◌<◌, ◌≤◌, Bool, true, false, not, ◌&&◌, ◌||◌, cond, List, [], ◌∷◌, ◌++◌, length, Option, Some, None, option_map, sym, ap, ◌∙◌, refl, arith, append_assoc, append-nil, ne_eqb, eq-eqb}
use Rattle.std.specs.Prelude.{is_some, nat_lt, IfSome, slice_get}
use Rattle.std.specs.Ordering.{is_eq, nat_cmp}
use Rattle.std.specs.Cmp.Lexicographic.{slice_cmp}
use Rattle.std.specs.List.{find, list_any}
use Rattle.std.specs.Option.{option_or}
use Rattle.std.specs.Str.{bytes_eq}
use Rattle.std.proofs.lemmas.Bool.{false≢true, and_parts}
use Rattle.std.proofs.lemmas.Bool.Decides.{nat_tests}
use Rattle.std.proofs.lemmas.List.Folds.{find-append}
use Rattle.std.proofs.lemmas.Map.Text.{is_eq-slice_cmp}
use Rattle.std.proofs.lemmas.Slice.Eq.{bytes_eq-Decides}
use Rattle.tx.specs.declared.input.OutPoint.{OutPoint}
use Rattle.tx.specs.Parts.{Output}
use Rattle.tx.specs.Fields.{Transaction, same_outpoint}
use Rattle.tx.specs.Spelling.{transaction_id}
use Rattle.chain.specs.Blocks.{Contents, Creation, Coin, empty_block, height_of, grant_outpoint, creations_from, created_by, created_by_all, granted_at, grants_in, created_of, names, is_named, created_at, coin_at, has_id}
use Rattle.chain.specs.Connecting.{with_transaction, with_grant}
use Rattle.chain.specs.Storing.{MayTakeOff}
use Rattle.chain.specs.Checks.{transaction_refusal}
use Rattle.chain.specs.Checked.{have_passed, is_checked}
use Rattle.chain.specs.Indexing.{IsIndex, new_coin, first_new, is_output_below, unless_height, without, with_mark}
use Rattle.chain.specs.Scanning.{spot_of}
use Rattle.chain.proofs.Finding.{none_by_others, found_by_index}
use Rattle.chain.proofs.Noting.{same_is}
use Rattle.chain.proofs.Passing.{passed, named_fresh, named_created, next_passed, IsFresh}

abbrev coin : Bool → Creation → Coin
coin named c = record { output = c.output; height = c.height; spent = named }

seen : (n named : Bool) (x y : Option Creation) → (is_some x ≡ false → named ≡ false) → option_map (coin (n || named)) (option_or x y) ≡ with_mark n true (option_or (option_map (coin named) x) (option_map new_coin y))
seen true named None None h = refl
seen true named None (Some y) h = refl
seen true named (Some x) y h = refl
seen false named None None h = refl
seen false named None (Some y) h = ap (λ s. Some (coin s y)) (h refl)
seen false named (Some x) y h = refl

or_shift : (a b c : Bool) → ((a || b) || c) ≡ (a || (b || c))
or_shift true b c = refl
or_shift false b c = refl

abbrev at_end : Transaction → List Transaction → List Contents → List Contents
at_end t ts older = record { transactions = t ∷ ts; granted = [] } ∷ older

abbrev behind : List Transaction → List Contents → List Contents
behind ts older = record { transactions = ts; granted = [] } ∷ older

created_next : (t : Transaction) (ts : List Transaction) (older : List Contents) → created_of (at_end t ts older) ≡ created_of (behind ts older) ++ created_by (length older) t
created_next t ts older =
    let h = length older in
    ap (λ xs. created_of older ++ xs) (append-nil (created_by_all h ts ++ created_by h t))
    ∙ sym (append_assoc (created_of older) (created_by_all h ts) (created_by h t))
    ∙ ap (λ xs. (created_of older ++ xs) ++ created_by h t) (sym (append-nil (created_by_all h ts)))

none_named : (blocks : List Contents) (q : OutPoint) (named : Bool) → is_checked blocks ≡ true → is_named blocks q ≡ named → is_some (created_at blocks q) ≡ false → named ≡ false
none_named blocks q false checked e none = refl
none_named blocks q true checked e none = absurd (false≢true (sym none ∙ named_created blocks q checked e))

-- what one more transaction leaves at an outpoint
pub coin_next : (t : Transaction) (ts : List Transaction) (older : List Contents) (q : OutPoint) → is_checked (behind ts older) ≡ true → coin_at (at_end t ts older) q ≡ with_mark (names q t) true (option_or (coin_at (behind ts older) q) (first_new (created_by (length older) t) q))
coin_next t ts older q checked =
    let p : Creation → Bool = λ c. same_outpoint c.outpoint q in
    let before = behind ts older in
    ap (option_map (coin (is_named (at_end t ts older) q))) (ap (find p) (created_next t ts older) ∙ find-append p (created_of before) (created_by (length older) t))
    ∙ ap (λ s. option_map (coin s) (option_or (created_at before q) (find p (created_by (length older) t)))) (or_shift (names q t) (list_any (names q) ts) (is_named older q))
    ∙ seen (names q t) (is_named before q) (created_at before q) (find p (created_by (length older) t)) (none_named before q (is_named before q) checked refl)

pub id_next : (t : Transaction) (ts : List Transaction) (older : List Contents) (id : List ℕ) → has_id (at_end t ts older) id ≡ (bytes_eq (transaction_id t) id || has_id (behind ts older) id)
id_next t ts older id = or_shift (bytes_eq (transaction_id t) id) (list_any (λ t. bytes_eq (transaction_id t) id) ts) (has_id older id)

checked_next : (t : Transaction) (ts : List Transaction) (older : List Contents) → is_checked (behind ts older) ≡ true → transaction_refusal (behind ts older) t ≡ None → is_checked (at_end t ts older) ≡ true
checked_next t ts older checked passes = rw passes checked

plain : (b : Contents) → b.granted ≡ [] → b ≡ record { transactions = b.transactions; granted = [] }
plain b e = ap (λ g. let c : Contents = record { transactions = b.transactions; granted = g } in c) e

-- one more transaction, where the index follows it
pub follows : (blocks : List Contents) (t : Transaction) (coins coins' : OutPoint → Option Coin) (ids ids' : List ℕ → Bool) (height : ℕ) → MayTakeOff blocks → height ≡ height_of blocks → transaction_refusal blocks t ≡ None
    → ((q : OutPoint) → coins' q ≡ with_mark (names q t) true (option_or (coins q) (first_new (created_by height t) q)))
    → ((id : List ℕ) → ids' id ≡ (bytes_eq (transaction_id t) id || ids id))
    → IsIndex blocks coins ids → IsIndex (with_transaction blocks t) coins' ids'
follows [] t coins coins' ids ids' height may h passes more named i = absurd may
follows (b ∷ older) t coins coins' ids ids' height may h passes more named i =
    let e = plain b may in
    let checked : is_checked (behind b.transactions older) ≡ true = ap (λ (c : Contents). is_checked (c ∷ older)) (sym e) ∙ i.checked in
    let new : with_transaction (b ∷ older) t ≡ at_end t b.transactions older = ap (λ (c : Contents). with_transaction (c ∷ older) t) e in
    rw new (record {
      coins_are = λ q.
          more q
          ∙ ap (λ x. with_mark (names q t) true (option_or x (first_new (created_by height t) q))) (i.coins_are q ∙ ap (λ (c : Contents). coin_at (c ∷ older) q) e)
          ∙ ap (λ n. with_mark (names q t) true (option_or (coin_at (behind b.transactions older) q) (first_new (created_by n t) q))) (h ∙ omega arith)
          ∙ sym (coin_next t b.transactions older q checked);
      ids_are = λ id. named id ∙ ap (λ x. bytes_eq (transaction_id t) id || x) (i.ids_are id ∙ ap (λ (c : Contents). has_id (c ∷ older) id) e) ∙ sym (id_next t b.transactions older id);
      checked = checked_next t b.transactions older checked (ap (λ (c : Contents). transaction_refusal (c ∷ older) t) (sym e) ∙ passes);
    })

-- the same index, as contracts see it
pub same_index : (blocks : List Contents) (coins coins' : OutPoint → Option Coin) (ids ids' : List ℕ → Bool) → ((q : OutPoint) → coins' q ≡ coins q) → ((id : List ℕ) → ids' id ≡ ids id) → IsIndex blocks coins ids → IsIndex blocks coins' ids'
same_index blocks coins coins' ids ids' c d i = record {
  coins_are = λ q. c q ∙ i.coins_are q;
  ids_are = λ id. d id ∙ i.ids_are id;
  checked = i.checked;
}

AreLow : ℕ → List Creation → Type 0
AreLow n [] = Unit {0}
AreLow n (c ∷ cs) = (c.height < n) × AreLow n cs

low_both : (n : ℕ) (xs ys : List Creation) → AreLow n xs → AreLow n ys → AreLow n (xs ++ ys)
unfolding AreLow
low_both n [] ys l m = m
low_both n (c ∷ xs) ys l m = (l.0, low_both n xs ys l.1 m)

low_next : (n : ℕ) (xs : List Creation) → AreLow n xs → AreLow (suc n) xs
unfolding AreLow
low_next n [] l = tt
low_next n (c ∷ xs) l = (omega (arith, l.0), low_next n xs l.1)

low_creations : (id : List ℕ) (height index : ℕ) (outputs : List Output) → AreLow (suc height) (creations_from id height index outputs)
unfolding AreLow
low_creations id height index [] = tt
low_creations id height index (o ∷ os) = (omega arith, low_creations id height (index + 1) os)

low_block : (height : ℕ) (ts : List Transaction) → AreLow (suc height) (created_by_all height ts)
unfolding AreLow
low_block height [] = tt
low_block height (t ∷ ts) = low_both (suc height) (created_by_all height ts) (created_by height t) (low_block height ts) (low_creations (transaction_id t) height 0 t.outputs)

low_grants : (height before : ℕ) (os : List Output) → AreLow (suc height) (granted_at height before os)
unfolding AreLow
low_grants height before [] = tt
low_grants height before (o ∷ os) = low_both (suc height) (granted_at height before os) _ (low_grants height before os) (omega arith, tt)

-- what blocks created has a height below their number
low_created : (blocks : List Contents) → AreLow (length blocks) (created_of blocks)
unfolding AreLow
low_created [] = tt
low_created (b ∷ older) =
    low_both (suc (length older)) (created_of older) _ (low_next (length older) (created_of older) (low_created older))
    (low_both (suc (length older)) (created_by_all (length older) b.transactions) _ (low_block (length older) b.transactions) (low_grants (length older) (grants_in older) b.granted))

low_by : (t : Bool) (n : ℕ) (c : Creation) (x : Option Creation) → c.height < n → IfSome x (λ c. c.height < n) → IfSome (cond t (Some c) x) (λ c. c.height < n)
low_by true n c x l m = l
low_by false n c x l m = m

low_found : (p : Creation → Bool) (n : ℕ) (xs : List Creation) → AreLow n xs → IfSome (find p xs) (λ c. c.height < n)
unfolding AreLow
low_found p n [] l = tt
low_found p n (c ∷ xs) l = low_by (p c) n c (find p xs) l.0 (low_found p n xs l.1)

nothing_mapped : {A B : Type 0} (f : A → B) (x : Option A) → option_map f x ≡ None → x ≡ None
nothing_mapped f None e = refl
nothing_mapped f (Some a) e = absurd cc

or_parts : (a b : Bool) → (a || b) ≡ false → (a ≡ false) × (b ≡ false)
or_parts true b e = absurd (false≢true (sym e))
or_parts false b e = (refl, e)

-- transactions of other ids created nothing at the outpoint
none_of_others : (height : ℕ) (ts : List Transaction) (id : List ℕ) (q : OutPoint) → list_any (λ t. bytes_eq (transaction_id t) id) ts ≡ false → q.txid ≡ id → find (λ c. same_outpoint c.outpoint q) (created_by_all height ts) ≡ None
none_of_others height [] id q other e = refl
none_of_others height (t ∷ ts) id q other e =
    let p : Creation → Bool = λ c. same_outpoint c.outpoint q in
    let parts = or_parts (bytes_eq (transaction_id t) id) (list_any (λ t. bytes_eq (transaction_id t) id) ts) other in
    let here : find p (created_by height t) ≡ None = nothing_mapped spot_of (find p (created_by height t)) (none_by_others q (transaction_id t) height 0 t.outputs (ap (bytes_eq (transaction_id t)) e ∙ parts.0)) in
    find-append p (created_by_all height ts) (created_by height t)
    ∙ ap (λ x. option_or x (find p (created_by height t))) (none_of_others height ts id q parts.1 e) ∙ here

or_none : {A : Type 0} (x y : Option A) → y ≡ None → option_or x y ≡ x
or_none None y e = e
or_none (Some a) y e = refl

low_coin : (named : Bool) (n : ℕ) (x : Option Creation) → IfSome x (λ c. c.height < n) → IfSome (option_map (coin named) x) (λ c. c.height < n)
low_coin named n None l = tt
low_coin named n (Some c) l = l

-- before a new transaction, what is at its outpoints was created at a lower height
lower_behind : (ts : List Transaction) (older : List Contents) (id : List ℕ) (q : OutPoint) → has_id (behind ts older) id ≡ false → q.txid ≡ id → IfSome (coin_at (behind ts older) q) (λ c. c.height < length older)
lower_behind ts older id q new e =
    let p : Creation → Bool = λ c. same_outpoint c.outpoint q in
    let h = length older in
    let parts = or_parts (list_any (λ t. bytes_eq (transaction_id t) id) ts) (has_id older id) new in
    let same : created_at (behind ts older) q ≡ find p (created_of older) =
    ap (λ xs. find p (created_of older ++ xs)) (append-nil (created_by_all h ts))
    ∙ find-append p (created_of older) (created_by_all h ts)
    ∙ or_none (find p (created_of older)) (find p (created_by_all h ts)) (none_of_others h ts id q parts.0 e) in
    low_coin (is_named (behind ts older) q) h (created_at (behind ts older) q) (rw same (low_found p h (created_of older) (low_created older)))

pub lower : (blocks : List Contents) (t : Transaction) (f : OutPoint → Option Coin) (ids : List ℕ → Bool) (height : ℕ) (q : OutPoint) → MayTakeOff blocks → height ≡ height_of blocks → transaction_refusal blocks t ≡ None → IsIndex blocks f ids → q.txid ≡ transaction_id t → IfSome (f q) (λ c. c.height < height)
lower [] t f ids height q may h passes i e = absurd may
lower (b ∷ older) t f ids height q may h passes i e =
    let p = plain b may in
    let same : f q ≡ coin_at (behind b.transactions older) q = i.coins_are q ∙ ap (λ (c : Contents). coin_at (c ∷ older) q) p in
    let at : height ≡ length older = h ∙ omega arith in
    let new : has_id (behind b.transactions older) (transaction_id t) ≡ false = (passed (behind b.transactions older) t (ap (λ (c : Contents). transaction_refusal (c ∷ older) t) (sym p) ∙ passes)).new_id in
    rw (same, at) (lower_behind b.transactions older (transaction_id t) q new e)

by_spot : (x : Option Creation) → option_map new_coin x ≡ option_map (λ (s : Output × ℕ). let c : Coin = record { output = s.0; height = s.1; spent = false } in c) (option_map spot_of x)
by_spot None = refl
by_spot (Some c) = refl

new_at : (height : ℕ) (x : Option Output) → option_map (λ (s : Output × ℕ). let c : Coin = record { output = s.0; height = s.1; spent = false } in c) (option_map (λ o. (o, height)) x) ≡ option_map (λ (o : Output). let c : Coin = record { output = o; height = height; spent = false } in c) x
new_at height None = refl
new_at height (Some o) = refl

slice_past : {X : Type 0} (xs : List X) (k : ℕ) → length xs ≤ k → slice_get xs k ≡ None
slice_past [] k past = refl
slice_past (x ∷ xs) zero past = absurd (omega arith)
slice_past (x ∷ xs) (suc k) past = slice_past xs k (omega arith)

not_below : (k n : ℕ) → nat_lt k n ≡ false → n ≤ k
not_below k n h = grind (arith, nat_tests)

-- the new output at an outpoint with this id
new_here : (id : List ℕ) (height : ℕ) (outputs : List Output) (q : OutPoint) → bytes_eq id q.txid ≡ true → first_new (creations_from id height 0 outputs) q ≡ option_map (λ (o : Output). let c : Coin = record { output = o; height = height; spent = false } in c) (slice_get outputs q.index)
new_here id height outputs q same =
    by_spot (find (λ c. same_outpoint c.outpoint q) (creations_from id height 0 outputs))
    ∙ ap (option_map (λ (s : Output × ℕ). let c : Coin = record { output = s.0; height = s.1; spent = false } in c)) (found_by_index q id height 0 q.index outputs same (omega arith))
    ∙ new_at height (slice_get outputs q.index)

new_elsewhere : (id : List ℕ) (height : ℕ) (outputs : List Output) (q : OutPoint) → bytes_eq id q.txid ≡ false → first_new (creations_from id height 0 outputs) q ≡ None
new_elsewhere id height outputs q other =
    by_spot (find (λ c. same_outpoint c.outpoint q) (creations_from id height 0 outputs))
    ∙ ap (option_map (λ (s : Output × ℕ). let c : Coin = record { output = s.0; height = s.1; spent = false } in c)) (none_by_others q id height 0 outputs other)

kept_low : (height : ℕ) (c : Coin) → c.height < height → unless_height height (Some c) ≡ Some c
kept_low height c low = ap (λ t. cond t None (Some c)) (ne_eqb c.height height (λ e. omega (arith, e)))

forgets_new : (height : ℕ) (x : Option Coin) (o : Option Output) → IfSome x (λ c. c.height < height) → unless_height height (option_or x (option_map (λ (o : Output). let c : Coin = record { output = o; height = height; spent = false } in c) o)) ≡ x
forgets_new height None None low = refl
forgets_new height None (Some o) low = ap (λ t. let c : Coin = record { output = o; height = height; spent = false } in cond t None (Some c)) (eq-eqb height height refl)
forgets_new height (Some c) o low = kept_low height c low

forgotten_by : (id : List ℕ) (height : ℕ) (outputs : List Output) (x : Option Coin) (q : OutPoint) (b l : Bool) → (q.txid ≡ id → IfSome x (λ c. c.height < height)) → bytes_eq id q.txid ≡ b → nat_lt q.index (length outputs) ≡ l → without (b && l) height (option_or x (first_new (creations_from id height 0 outputs) q)) ≡ x
forgotten_by id height outputs x q false l low e m = or_none x _ (new_elsewhere id height outputs q e)
forgotten_by id height outputs x q true false low e m =
    or_none x _ (new_here id height outputs q e ∙ ap (option_map (λ (o : Output). let c : Coin = record { output = o; height = height; spent = false } in c)) (slice_past outputs q.index (not_below q.index (length outputs) m)))
forgotten_by id height outputs x q true true low e m =
    ap (λ y. unless_height height (option_or x y)) (new_here id height outputs q e)
    ∙ forgets_new height x (slice_get outputs q.index) (low (sym ((bytes_eq-Decides id q.txid).0 e)))

-- the outputs of a transaction, recorded and removed again
pub forgotten : (id : List ℕ) (height : ℕ) (outputs : List Output) (x : Option Coin) (q : OutPoint) → (q.txid ≡ id → IfSome x (λ c. c.height < height)) → without (is_output_below id (length outputs) q) height (option_or x (first_new (creations_from id height 0 outputs) q)) ≡ x
forgotten id height outputs x q low = forgotten_by id height outputs x q (bytes_eq id q.txid) (nat_lt q.index (length outputs)) low refl refl

or_by : (t a : Bool) → cond t true a ≡ (t || a)
or_by true a = refl
or_by false a = refl

pub id_added : (key id : List ℕ) (a b : Bool) → b ≡ cond (is_eq (slice_cmp nat_cmp key id)) true a → b ≡ (bytes_eq key id || a)
id_added key id a b e = e ∙ ap (λ t. cond t true a) (is_eq-slice_cmp key id) ∙ or_by (bytes_eq key id) a

id_by : (key id : List ℕ) (t : Bool) (f : List ℕ → Bool) → bytes_eq key id ≡ t → f key ≡ false → cond t false (t || f id) ≡ f id
id_by key id true f e none = sym (ap f (sym ((bytes_eq-Decides key id).0 e)) ∙ none)
id_by key id false f e none = refl

unmarked : (n : Bool) (x fresh : Option Coin) → (n ≡ true → IsFresh x) → with_mark n false (with_mark n true (option_or x fresh)) ≡ option_or x fresh
unmarked false x fresh h = refl
unmarked true None fresh h = let f = h refl in absurd (let e = f.1 in cc)
unmarked true (Some c) fresh h =
    let f = h refl in
    let same : c ≡ f.0 = cc in
    ap (λ s. let d : Coin = record c { spent = s } in Some d) (sym (ap (λ (d : Coin). d.spent) same ∙ f.2))

-- one transaction fewer, where the index follows it
pub follows_back : (blocks : List Contents) (t : Transaction) (coins coins' : OutPoint → Option Coin) (ids ids' : List ℕ → Bool) (height : ℕ) → MayTakeOff blocks → height ≡ height_of blocks
    → ((q : OutPoint) → coins' q ≡ without (is_output_below (transaction_id t) (length t.outputs) q) height (with_mark (names q t) false (coins q)))
    → ((id : List ℕ) → ids' id ≡ cond (is_eq (slice_cmp nat_cmp (transaction_id t) id)) false (ids id))
    → IsIndex (with_transaction blocks t) coins ids → IsIndex blocks coins' ids'
follows_back [] t coins coins' ids ids' height may h less named i = absurd may
follows_back (b ∷ older) t coins coins' ids ids' height may h less named i =
    let e = plain b may in
    let ts = b.transactions in
    let new : with_transaction (b ∷ older) t ≡ at_end t ts older = ap (λ (c : Contents). with_transaction (c ∷ older) t) e in
    let at : height ≡ length older = h ∙ omega arith in
    let checked = and_parts (have_passed older (t ∷ ts)) (is_checked older) (ap is_checked (sym new) ∙ i.checked) in
    let passes = next_passed older t ts checked.0 in
    let facts = passed (behind ts older) t passes.0 in
    let before : is_checked (behind ts older) ≡ true = rw passes.1 checked.1 in
    let same : b ∷ older ≡ behind ts older = ap (λ (c : Contents). c ∷ older) e in
    rw same (record {
      coins_are = λ q.
          less q
          ∙ ap (λ n. without (is_output_below (transaction_id t) (length t.outputs) q) n (with_mark (names q t) false (coins q))) at
          ∙ ap (λ x. without (is_output_below (transaction_id t) (length t.outputs) q) (length older) (with_mark (names q t) false x)) (i.coins_are q ∙ ap (λ bs. coin_at bs q) new ∙ coin_next t ts older q before)
          ∙ ap (without (is_output_below (transaction_id t) (length t.outputs) q) (length older)) (unmarked (names q t) (coin_at (behind ts older) q) (first_new (created_by (length older) t) q) (named_fresh (behind ts older) (height_of (behind ts older)) t t.inputs q facts.inputs))
          ∙ forgotten (transaction_id t) (length older) t.outputs (coin_at (behind ts older) q) q (lower_behind ts older (transaction_id t) q facts.new_id);
      ids_are = λ id.
          named id
          ∙ ap (λ u. cond u false (ids id)) (is_eq-slice_cmp (transaction_id t) id)
          ∙ ap (cond (bytes_eq (transaction_id t) id) false) (i.ids_are id ∙ ap (λ bs. has_id bs id) new ∙ id_next t ts older id)
          ∙ id_by (transaction_id t) id (bytes_eq (transaction_id t) id) (has_id (behind ts older)) refl facts.new_id;
      checked = before;
    })

-- an empty block more or fewer changes nothing
pub begun : (blocks : List Contents) (q : OutPoint) → coin_at (empty_block ∷ blocks) q ≡ coin_at blocks q
begun blocks q = ap (λ xs. option_map (coin (is_named blocks q)) (find (λ c. same_outpoint c.outpoint q) xs)) (append-nil (created_of blocks))

pub index_begun : (blocks : List Contents) (coins : OutPoint → Option Coin) (ids : List ℕ → Bool) → IsIndex blocks coins ids → IsIndex (empty_block ∷ blocks) coins ids
index_begun blocks coins ids i = record { coins_are = λ q. i.coins_are q ∙ sym (begun blocks q); ids_are = i.ids_are; checked = i.checked }

pub index_ended : (blocks : List Contents) (b : Contents) (coins : OutPoint → Option Coin) (ids : List ℕ → Bool) → b.transactions ≡ [] → b.granted ≡ [] → IsIndex (b ∷ blocks) coins ids → IsIndex blocks coins ids
index_ended blocks b coins ids none nor i =
    let e : b ≡ empty_block = plain b nor ∙ ap (λ ts. let c : Contents = record { transactions = ts; granted = [] } in c) none in
    record {
      coins_are = λ q. i.coins_are q ∙ ap (λ (c : Contents). coin_at (c ∷ blocks) q) e ∙ begun blocks q;
      ids_are = λ id. i.ids_are id ∙ ap (λ (c : Contents). has_id (c ∷ blocks) id) e;
      checked = ap (λ (c : Contents). is_checked (c ∷ blocks)) (sym e) ∙ i.checked;
    }

spent_by : (named : Bool) (x : Option Creation) (c : Coin) → Some c ≡ option_map (coin named) x → c.spent ≡ named
spent_by named None c e = absurd cc
spent_by named (Some x) c e = let same : c ≡ coin named x = cc in ap (λ (d : Coin). d.spent) same

-- a coin knows whether an input spends it
pub spent_named : (blocks : List Contents) (o : OutPoint) (c : Coin) → Some c ≡ coin_at blocks o → c.spent ≡ is_named blocks o
spent_named blocks o c e = spent_by (is_named blocks o) (created_at blocks o) c e

no_coin : (named : Bool) (x : Option Creation) → None ≡ option_map (coin named) x → is_some x ≡ false
no_coin named None e = refl
no_coin named (Some x) e = absurd cc

-- where there is no coin, no input spends it
pub none_spent : (blocks : List Contents) (o : OutPoint) → is_checked blocks ≡ true → None ≡ coin_at blocks o → false ≡ is_named blocks o
none_spent blocks o checked e = sym (none_named blocks o (is_named blocks o) checked refl (no_coin (is_named blocks o) (created_at blocks o) e))

coin_granted : (b : Contents) (older : List Contents) (o : Output) (q : OutPoint) → is_checked (b ∷ older) ≡ true → coin_at (with_grant (b ∷ older) o) q ≡ option_or (coin_at (b ∷ older) q) (first_new (record { outpoint = grant_outpoint (grants_in (b ∷ older)); output = o; height = length older } ∷ []) q)
coin_granted b older o q checked =
    let p : Creation → Bool = λ c. same_outpoint c.outpoint q in
    let h = length older in
    let one : List Creation = record { outpoint = grant_outpoint (grants_in older + length b.granted); output = o; height = h } ∷ [] in
    let ts = created_by_all h b.transactions in
    let gs = granted_at h (grants_in older) b.granted in
    let whole : created_of older ++ (ts ++ (gs ++ one)) ≡ (created_of older ++ (ts ++ gs)) ++ one =
    ap (λ xs. created_of older ++ xs) (sym (append_assoc ts gs one)) ∙ sym (append_assoc (created_of older) (ts ++ gs) one) in
    ap (option_map (coin (is_named (b ∷ older) q))) (ap (find p) whole ∙ find-append p (created_of (b ∷ older)) one)
    ∙ seen false (is_named (b ∷ older) q) (created_at (b ∷ older) q) (find p one) (none_named (b ∷ older) q (is_named (b ∷ older) q) checked refl)

-- one more grant, where the index follows it
pub follows_grant : (blocks blocks' : List Contents) (o : Output) (coins coins' : OutPoint → Option Coin) (ids : List ℕ → Bool) (outpoint : OutPoint) (height : ℕ) → 0 < length blocks → blocks' ≡ with_grant blocks o → outpoint ≡ grant_outpoint (grants_in blocks) → height ≡ height_of blocks
    → ((q : OutPoint) → coins' q ≡ option_or (coins q) (first_new (record { outpoint = outpoint; output = o; height = height } ∷ []) q))
    → IsIndex blocks coins ids → IsIndex blocks' coins' ids
follows_grant [] blocks' o coins coins' ids outpoint height some new at h more i = absurd (omega arith)
follows_grant (b ∷ older) blocks' o coins coins' ids outpoint height some new at h more i =
    rw new (record {
      coins_are = λ q.
          more q
          ∙ ap (λ x. option_or x (first_new (record { outpoint = outpoint; output = o; height = height } ∷ []) q)) (i.coins_are q)
          ∙ ap (λ a. option_or (coin_at (b ∷ older) q) (first_new (record { outpoint = a; output = o; height = height } ∷ []) q)) at
          ∙ ap (λ n. option_or (coin_at (b ∷ older) q) (first_new (record { outpoint = grant_outpoint (grants_in (b ∷ older)); output = o; height = n } ∷ []) q)) (h ∙ omega arith)
          ∙ sym (coin_granted b older o q i.checked);
      ids_are = i.ids_are;
      checked = i.checked;
    })

nothing : (x : Option Coin) → true ≡ not (is_some x) → x ≡ None
nothing None e = refl
nothing (Some c) e = absurd (false≢true (sym e))

something : (x y : Option Coin) → false ≡ not (is_some x) → option_or x y ≡ x
something None y e = absurd (false≢true e)
something (Some c) y e = refl

taken_by : (f : OutPoint → Option Coin) (c : Creation) (added : Bool) (q : OutPoint) (t : Bool) → same_outpoint c.outpoint q ≡ t → added ≡ not (is_some (f c.outpoint)) → cond (added && t) None (option_or (f q) (option_map new_coin (cond t (Some c) None))) ≡ f q
taken_by f c true q false s e = or_none (f q) None refl
taken_by f c false q false s e = or_none (f q) None refl
taken_by f c true q true s e = sym (ap f (sym (same_is c.outpoint q s)) ∙ nothing (f c.outpoint) e)
taken_by f c false q true s e = something (f q) (Some (new_coin c)) (e ∙ ap (λ o. not (is_some (f o))) (same_is c.outpoint q s))

-- a grant that was recorded and removed again
pub grant_undone : (blocks : List Contents) (coins coins' coins'' : OutPoint → Option Coin) (ids : List ℕ → Bool) (c : Creation) (added : Bool) → added ≡ not (is_some (coins c.outpoint)) → ((q : OutPoint) → coins' q ≡ option_or (coins q) (first_new (c ∷ []) q)) → ((q : OutPoint) → coins'' q ≡ cond (added && same_outpoint c.outpoint q) None (coins' q)) → IsIndex blocks coins ids → IsIndex blocks coins'' ids
grant_undone blocks coins coins' coins'' ids c added e more less i =
    same_index blocks coins coins'' ids ids (λ q. less q ∙ ap (cond (added && same_outpoint c.outpoint q) None) (more q) ∙ taken_by coins c added q (same_outpoint c.outpoint q) refl e) (λ id. refl) i
