-- Conservation of value, transaction by transaction and grant by grant.
use Rattle.std.proofs.Common.{◌≡◌, ℕ, zero, suc, ◌+◌, ◌-◌, ◌≤◌, Bool, true, false, not, ◌||◌, cond, List, [], ◌∷◌, ◌++◌, length, filter, drop, sum_by, Option, Some, None, option_map, Result, Ok, Err, sym, ap, ◌∙◌, refl, arith, append_assoc, append-nil, zero-add, eq-eqb}
use Rattle.std.specs.Prelude.{is_some, nat_le, unwrap_or}
use Rattle.std.specs.List.{find, list_any}
use Rattle.std.specs.Option.{option_or}
use Rattle.std.proofs.lemmas.Bool.{false≢true, and_parts}
use Rattle.std.proofs.lemmas.Bool.Decides.{nat_tests}
use Rattle.std.proofs.lemmas.List.Folds.{find-append, list_any-append}
use Rattle.std.proofs.lemmas.List.Elements.{filter-append}
use Rattle.std.proofs.lemmas.List.Sums.{sum_by-append}
use Rattle.std.proofs.lemmas.Slice.Eq.{bytes_eq-Decides}
use Rattle.tx.specs.declared.input.OutPoint.{OutPoint}
use Rattle.tx.specs.declared.input.TxIn.{TxIn}
use Rattle.tx.specs.Parts.{Output}
use Rattle.tx.specs.Fields.{Transaction, same_outpoint}
use Rattle.tx.specs.Spelling.{transaction_id}
use Rattle.chain.specs.Blocks.{Contents, Standing, Creation, Coin, empty_block, height_of, grant_outpoint, creations_from, created_by, created_by_all, granted_at, grants_in, created_of, names, is_named, created_at, coin_at, unspent_of, transactions_of, value_at, paid_in, paid_out, fee_of, fees_of, granted_of}
use Rattle.chain.specs.Checks.{names_twice, transaction_refusal}
use Rattle.chain.specs.Checked.{have_passed, is_checked}
use Rattle.chain.specs.Connecting.{with_grant, unless_refused, added}
use Rattle.chain.specs.declared.errors.ChainError.{ChainError}
use Rattle.chain.specs.declared.errors.BlockError.{BlockError}
use Rattle.chain.specs.declared.commands.Command.{Command}
use Rattle.chain.specs.declared.commands.Command.TheVariants as command
use Rattle.chain.specs.declared.commands.Answer.{Answer}
use Rattle.chain.specs.declared.commands.Answer.TheVariants as answer
use Rattle.chain.specs.Replays.{Answered, Replays}
use Rattle.chain.specs.Conserving.{GrantsAreApart}
use Rattle.chain.proofs.Apart.{Differ, AreApart, or_parts, both_false, are_apart}
use Rattle.chain.proofs.Noting.{same_is, itself, swapped}
use Rattle.chain.proofs.Passing.{passed, named_fresh, named_created, next_passed}

-- the sum of the values of creations
abbrev worth : List Creation → ℕ
worth list = sum_by (λ c. c.output.value) list

-- those at outpoints that fail a test
abbrev left : (OutPoint → Bool) → List Creation → List Creation
left named list = filter (λ c. not (named c.outpoint)) list

abbrev found : OutPoint → List Creation → Option Creation
found o list = find (λ c. same_outpoint c.outpoint o) list

-- the value of the first at an outpoint
abbrev worth_at : List Creation → OutPoint → ℕ
worth_at list o = unwrap_or (option_map (λ c. c.output.value) (found o list)) 0

sum_head : {X : Type 0} (f : X → ℕ) (x : X) (xs : List X) → sum_by f (x ∷ xs) ≡ f x + sum_by f xs
sum_head f x xs = sum_by-append f (x ∷ []) xs ∙ ap (λ n. n + sum_by f xs) (zero-add (f x))

worth_head : (c : Creation) (cs : List Creation) → worth (c ∷ cs) ≡ c.output.value + worth cs
worth_head c cs = sum_head (λ c. c.output.value) c cs

two_sums : (a b c d s s' : ℕ) → s ≡ a + b → s' ≡ c + d → a ≡ c → b ≡ d → s ≡ s'
two_sums a b c d s s' e f g h = omega arith

kept_here : (v a b w s s' : ℕ) → s ≡ v + a → s' ≡ v + b → a + w ≡ b → s + w ≡ s'
kept_here v a b w s s' e f g = omega arith

dropped_here : (v a b s' : ℕ) → s' ≡ v + b → a ≡ b → a + v ≡ s'
dropped_here v a b s' e f = omega arith

one_and_all : (a b v d vs f s : ℕ) → a ≡ b → b + v ≡ d → d + vs ≡ f → s ≡ v + vs → a + s ≡ f
one_and_all a b v d vs f s e g h i = omega arith

left_same : (P Q : OutPoint → Bool) (list : List Creation) → ((q : OutPoint) → P q ≡ Q q) → left P list ≡ left Q list
left_same P Q [] e = refl
left_same P Q (c ∷ cs) e = ap (λ b. cond (not b) (c ∷ left P cs) (left P cs)) (e c.outpoint) ∙ ap (λ xs. cond (not (Q c.outpoint)) (c ∷ xs) xs) (left_same P Q cs e)

-- none of them has the outpoint
nobody : (list : List Creation) (Q : OutPoint → Bool) (o : OutPoint) → list_any (λ d. same_outpoint d.outpoint o) list ≡ false → left (λ q. same_outpoint o q || Q q) list ≡ left Q list
nobody [] Q o none = refl
nobody (c ∷ cs) Q o none =
    let parts = or_parts (same_outpoint c.outpoint o) (list_any (λ d. same_outpoint d.outpoint o) cs) none in
    ap (λ b. cond (not (b || Q c.outpoint)) (c ∷ left (λ q. same_outpoint o q || Q q) cs) (left (λ q. same_outpoint o q || Q q) cs)) (swapped o c.outpoint ∙ parts.0)
    ∙ ap (λ xs. cond (not (Q c.outpoint)) (c ∷ xs) xs) (nobody cs Q o parts.1)

one_by : (s u : Bool) (c : Creation) (rest rest' : List Creation) (w : ℕ) → (s ≡ true → u ≡ false) → (s ≡ true → rest ≡ rest') → (s ≡ false → worth rest + w ≡ worth rest') → worth (cond (not (s || u)) (c ∷ rest) rest) + cond s c.output.value w ≡ worth (cond (not u) (c ∷ rest') rest')
one_by true true c rest rest' w f g h = absurd (false≢true (sym (f refl)))
one_by true false c rest rest' w f g h = dropped_here c.output.value (worth rest) (worth rest') (worth (c ∷ rest')) (worth_head c rest') (ap worth (g refl))
one_by false true c rest rest' w f g h = h refl
one_by false false c rest rest' w f g h = kept_here c.output.value (worth rest) (worth rest') w (worth (c ∷ rest)) (worth (c ∷ rest')) (worth_head c rest) (worth_head c rest') (h refl)

value_by : (s : Bool) (c : Creation) (x : Option Creation) → unwrap_or (option_map (λ c. c.output.value) (cond s (Some c) x)) 0 ≡ cond s c.output.value (unwrap_or (option_map (λ c. c.output.value) x) 0)
value_by true c x = refl
value_by false c x = refl

some_by : (s : Bool) (c : Creation) (x : Option Creation) → is_some (cond s (Some c) x) ≡ true → s ≡ false → is_some x ≡ true
some_by true c x e f = absurd (false≢true (sym f))
some_by false c x e f = e

-- one output that was unspent is spent
spend_one : (list : List Creation) (Q : OutPoint → Bool) (o : OutPoint) → Differ list → is_some (found o list) ≡ true → Q o ≡ false → worth (left (λ q. same_outpoint o q || Q q) list) + worth_at list o ≡ worth (left Q list)
spend_one [] Q o apart there free = absurd (false≢true there)
spend_one (c ∷ cs) Q o apart there free =
    let rest = left (λ q. same_outpoint o q || Q q) cs in
    let s = same_outpoint c.outpoint o in
    ap (λ b. worth (cond (not (b || Q c.outpoint)) (c ∷ rest) rest) + worth_at (c ∷ cs) o) (swapped o c.outpoint)
    ∙ ap (λ n. worth (cond (not (s || Q c.outpoint)) (c ∷ rest) rest) + n) (value_by s c (found o cs))
    ∙ one_by s (Q c.outpoint) c rest (left Q cs) (worth_at cs o)
    (λ e. ap Q (same_is c.outpoint o e) ∙ free)
    (λ e. nobody cs Q o (ap (λ p. list_any (λ d. same_outpoint d.outpoint p) cs) (sym (same_is c.outpoint o e)) ∙ apart.0))
    (λ e. spend_one cs Q o apart.1 (some_by s c (found o cs) there e) free)

or_moved : (a b c : Bool) → ((a || b) || c) ≡ (a || (b || c))
or_moved true b c = refl
or_moved false b c = refl

or_true : (a b : Bool) → b ≡ true → (a || b) ≡ true
or_true true b e = refl
or_true false b e = e

-- the outputs that inputs refer to are spent
spend_all : (list : List Creation) (Q : OutPoint → Bool) (inputs : List TxIn) → Differ list → names_twice inputs ≡ false → ((q : OutPoint) → list_any (λ i. same_outpoint i.outpoint q) inputs ≡ true → (is_some (found q list) ≡ true) × (Q q ≡ false)) → worth (left (λ q. list_any (λ i. same_outpoint i.outpoint q) inputs || Q q) list) + sum_by (λ i. worth_at list i.outpoint) inputs ≡ worth (left Q list)
spend_all list Q [] apart once free = omega arith
spend_all list Q (i ∷ is) apart once free =
    let others : OutPoint → Bool = λ q. list_any (λ i. same_outpoint i.outpoint q) is || Q q in
    let parts = or_parts (list_any (λ j. same_outpoint j.outpoint i.outpoint) is) (names_twice is) once in
    let here = free i.outpoint (ap (λ b. b || list_any (λ j. same_outpoint j.outpoint i.outpoint) is) (itself i.outpoint)) in
    let one = spend_one list others i.outpoint apart here.0 (ap (λ b. b || Q i.outpoint) parts.0 ∙ here.1) in
    let rest = spend_all list Q is apart parts.1 (λ q e. free q (or_true (same_outpoint i.outpoint q) (list_any (λ i. same_outpoint i.outpoint q) is) e)) in
    let same = ap worth (left_same (λ q. (same_outpoint i.outpoint q || list_any (λ i. same_outpoint i.outpoint q) is) || Q q) (λ q. same_outpoint i.outpoint q || others q) list (λ q. or_moved (same_outpoint i.outpoint q) (list_any (λ i. same_outpoint i.outpoint q) is) (Q q))) in
    one_and_all _ _ (worth_at list i.outpoint) _ (sum_by (λ i. worth_at list i.outpoint) is) (worth (left Q list)) (sum_by (λ i. worth_at list i.outpoint) (i ∷ is)) same one rest (sum_head (λ i. worth_at list i.outpoint) i is)

none_at_all : (ys : List Creation) → list_any (λ d. is_some (found d.outpoint [])) ys ≡ false
none_at_all [] = refl
none_at_all (d ∷ ys) = none_at_all ys

some_found : (s : Bool) (c : Creation) (x : Option Creation) → s ≡ false → is_some x ≡ false → is_some (cond s (Some c) x) ≡ false
some_found true c x e f = absurd (false≢true (sym e))
some_found false c x e f = f

neither : (ys : List Creation) (c : Creation) (xs : List Creation) → list_any (λ d. same_outpoint d.outpoint c.outpoint) ys ≡ false → list_any (λ d. is_some (found d.outpoint xs)) ys ≡ false → list_any (λ d. is_some (found d.outpoint (c ∷ xs))) ys ≡ false
neither [] c xs e f = refl
neither (d ∷ ys) c xs e f =
    let a = or_parts (same_outpoint d.outpoint c.outpoint) (list_any (λ d. same_outpoint d.outpoint c.outpoint) ys) e in
    let b = or_parts (is_some (found d.outpoint xs)) (list_any (λ d. is_some (found d.outpoint xs)) ys) f in
    both_false (is_some (found d.outpoint (c ∷ xs))) (list_any (λ d. is_some (found d.outpoint (c ∷ xs))) ys)
    (some_found (same_outpoint c.outpoint d.outpoint) c (found d.outpoint xs) (swapped c.outpoint d.outpoint ∙ a.0) b.0)
    (neither ys c xs a.1 b.1)

-- no later one has the outpoint of an earlier one
unlike : (xs ys : List Creation) → Differ (xs ++ ys) → list_any (λ d. is_some (found d.outpoint xs)) ys ≡ false
unlike [] ys apart = none_at_all ys
unlike (c ∷ xs) ys apart =
    let parts = or_parts (list_any (λ d. same_outpoint d.outpoint c.outpoint) xs) (list_any (λ d. same_outpoint d.outpoint c.outpoint) ys) (sym (list_any-append (λ d. same_outpoint d.outpoint c.outpoint) xs ys) ∙ apart.0) in
    neither ys c xs parts.1 (unlike xs ys apart.1)

apart_before : (xs ys : List Creation) → Differ (xs ++ ys) → Differ xs
apart_before [] ys apart = tt
apart_before (c ∷ xs) ys apart =
    let parts = or_parts (list_any (λ d. same_outpoint d.outpoint c.outpoint) xs) (list_any (λ d. same_outpoint d.outpoint c.outpoint) ys) (sym (list_any-append (λ d. same_outpoint d.outpoint c.outpoint) xs ys) ∙ apart.0) in
    (parts.0, apart_before xs ys apart.1)

not_implied : (a b : Bool) → (a ≡ true → b ≡ true) → b ≡ false → a ≡ false
not_implied true b f e = absurd (false≢true (sym e ∙ f refl))
not_implied false b f e = refl

-- what is new is unspent
new_left : (P : OutPoint → Bool) (xs ys : List Creation) → ((q : OutPoint) → P q ≡ true → is_some (found q xs) ≡ true) → list_any (λ d. is_some (found d.outpoint xs)) ys ≡ false → left P ys ≡ ys
new_left P xs [] f e = refl
new_left P xs (d ∷ ys) f e =
    let parts = or_parts (is_some (found d.outpoint xs)) (list_any (λ d. is_some (found d.outpoint xs)) ys) e in
    ap (λ b. cond (not b) (d ∷ left P ys) (left P ys)) (not_implied (P d.outpoint) (is_some (found d.outpoint xs)) (f d.outpoint) parts.0)
    ∙ ap (λ zs. d ∷ zs) (new_left P xs ys f parts.1)

worth_new : (id : List ℕ) (height index : ℕ) (outputs : List Output) → worth (creations_from id height index outputs) ≡ paid_out outputs
worth_new id height index [] = refl
worth_new id height index (o ∷ os) =
    two_sums o.value (worth (creations_from id height (index + 1) os)) o.value (paid_out os) (worth (creations_from id height index (o ∷ os))) (paid_out (o ∷ os)) (worth_head (record { outpoint = record { txid = id; index = index }; output = o; height = height }) (creations_from id height (index + 1) os)) (sum_head (λ o. o.value) o os) refl (worth_new id height (index + 1) os)

coin_worth : (named : Bool) (x : Option Creation) → option_map (λ (c : Coin). c.output.value) (option_map (λ (c : Creation). let d : Coin = record { output = c.output; height = c.height; spent = named } in d) x) ≡ option_map (λ (c : Creation). c.output.value) x
coin_worth named None = refl
coin_worth named (Some c) = refl

value_worth : (blocks : List Contents) (o : OutPoint) → value_at blocks o ≡ worth_at (created_of blocks) o
value_worth blocks o = ap (λ x. unwrap_or x 0) (coin_worth (is_named blocks o) (created_at blocks o))

worth_or : (x y : Option Creation) → is_some x ≡ true → unwrap_or (option_map (λ c. c.output.value) (option_or x y)) 0 ≡ unwrap_or (option_map (λ c. c.output.value) x) 0
worth_or None y e = absurd (false≢true e)
worth_or (Some c) y e = refl

-- what was created remains
worth_stays : (xs ys : List Creation) (o : OutPoint) → is_some (found o xs) ≡ true → worth_at (xs ++ ys) o ≡ worth_at xs o
worth_stays xs ys o e = ap (λ x. unwrap_or (option_map (λ c. c.output.value) x) 0) (find-append (λ c. same_outpoint c.outpoint o) xs ys) ∙ worth_or (found o xs) (found o ys) e

-- blocks that created these and more
abbrev Extends : List Contents → List Contents → List Creation → Type 0
Extends before after new = created_of after ≡ created_of before ++ new

value_stays : (before after : List Contents) (new : List Creation) (o : OutPoint) → Extends before after new → is_some (found o (created_of before)) ≡ true → value_at after o ≡ value_at before o
value_stays before after new o e there =
    value_worth after o ∙ ap (λ xs. worth_at xs o) e ∙ worth_stays (created_of before) new o there ∙ sym (value_worth before o)

paid_stays : (before after : List Contents) (new : List Creation) (inputs : List TxIn) → Extends before after new → ((q : OutPoint) → list_any (λ i. same_outpoint i.outpoint q) inputs ≡ true → is_some (found q (created_of before)) ≡ true) → paid_in after inputs ≡ paid_in before inputs
paid_stays before after new [] e there = refl
paid_stays before after new (i ∷ is) e there =
    let first = value_stays before after new i.outpoint e (there i.outpoint (ap (λ b. b || list_any (λ j. same_outpoint j.outpoint i.outpoint) is) (itself i.outpoint))) in
    let others = paid_stays before after new is e (λ q n. there q (or_true (same_outpoint i.outpoint q) (list_any (λ i. same_outpoint i.outpoint q) is) n)) in
    two_sums (value_at after i.outpoint) (paid_in after is) (value_at before i.outpoint) (paid_in before is) (paid_in after (i ∷ is)) (paid_in before (i ∷ is)) (sum_head (λ i. value_at after i.outpoint) i is) (sum_head (λ i. value_at before i.outpoint) i is) first others

or_first : (a b : Bool) → a ≡ true → (a || b) ≡ true
or_first true b e = refl
or_first false b e = absurd (false≢true e)

fees_stay : (before after : List Contents) (new : List Creation) (ts : List Transaction) → Extends before after new → ((q : OutPoint) → list_any (names q) ts ≡ true → is_some (found q (created_of before)) ≡ true) → sum_by (fee_of after) ts ≡ sum_by (fee_of before) ts
fees_stay before after new [] e there = refl
fees_stay before after new (t ∷ ts) e there =
    let here : fee_of after t ≡ fee_of before t = ap (λ n. n - paid_out t.outputs) (paid_stays before after new t.inputs e (λ q n. there q (or_first (names q t) (list_any (names q) ts) n))) in
    let others = fees_stay before after new ts e (λ q n. there q (or_true (names q t) (list_any (names q) ts) n)) in
    two_sums (fee_of after t) (sum_by (fee_of after) ts) (fee_of before t) (sum_by (fee_of before) ts) (sum_by (fee_of after) (t ∷ ts)) (sum_by (fee_of before) (t ∷ ts)) (sum_head (fee_of after) t ts) (sum_head (fee_of before) t ts) here others

named_flat : (q : OutPoint) (blocks : List Contents) → list_any (names q) (transactions_of blocks) ≡ is_named blocks q
named_flat q [] = refl
named_flat q (b ∷ older) = list_any-append (names q) b.transactions (transactions_of older) ∙ ap (λ x. list_any (names q) b.transactions || x) (named_flat q older)

-- the fees of the transactions on the chain do not change with what is added
same_fees : (before after : List Contents) (new : List Creation) → Extends before after new → is_checked before ≡ true → sum_by (fee_of after) (transactions_of before) ≡ fees_of before
same_fees before after new e checked = fees_stay before after new (transactions_of before) e (λ q n. named_created before q checked (sym (named_flat q before) ∙ n))

worth_split : (P : OutPoint → Bool) (xs ys : List Creation) → worth (left P (xs ++ ys)) ≡ worth (left P xs) + worth (left P ys)
worth_split P xs ys = ap worth (filter-append (λ c. not (P c.outpoint)) xs ys) ∙ sum_by-append (λ c. c.output.value) (left P xs) (left P ys)

Conserves : List Contents → Type 0
Conserves blocks = worth (unspent_of blocks) + fees_of blocks ≡ granted_of blocks

abbrev behind : List Transaction → List Contents → List Contents
behind ts older = record { transactions = ts; granted = [] } ∷ older

abbrev at_end : Transaction → List Transaction → List Contents → List Contents
at_end t ts older = record { transactions = t ∷ ts; granted = [] } ∷ older

extends_transaction : (t : Transaction) (ts : List Transaction) (older : List Contents) → Extends (behind ts older) (at_end t ts older) (created_by (length older) t)
extends_transaction t ts older =
    let h = length older in
    ap (λ xs. created_of older ++ xs) (append-nil (created_by_all h ts ++ created_by h t))
    ∙ sym (append_assoc (created_of older) (created_by_all h ts) (created_by h t))
    ∙ ap (λ xs. (created_of older ++ xs) ++ created_by h t) (sym (append-nil (created_by_all h ts)))

fresh_there : (x : Option Coin) (named : Bool) (y : Option Creation) → (c : Coin) × (x ≡ Some c) × (c.spent ≡ false) → x ≡ option_map (λ (c : Creation). let d : Coin = record { output = c.output; height = c.height; spent = named } in d) y → (is_some y ≡ true) × (named ≡ false)
fresh_there x named None f e = absurd (let a = f.1 in cc)
fresh_there x named (Some y) f e = let same : f.0 ≡ record { output = y.output; height = y.height; spent = named } = (let a = f.1 in cc) in (refl, sym (ap (λ (c : Coin). c.spent) same) ∙ f.2)

sum_same : (blocks : List Contents) (inputs : List TxIn) → paid_in blocks inputs ≡ sum_by (λ i. worth_at (created_of blocks) i.outpoint) inputs
sum_same blocks [] = refl
sum_same blocks (i ∷ is) =
    two_sums (value_at blocks i.outpoint) (paid_in blocks is) (worth_at (created_of blocks) i.outpoint) (sum_by (λ i. worth_at (created_of blocks) i.outpoint) is) (paid_in blocks (i ∷ is)) (sum_by (λ i. worth_at (created_of blocks) i.outpoint) (i ∷ is)) (sum_head (λ i. value_at blocks i.outpoint) i is) (sum_head (λ i. worth_at (created_of blocks) i.outpoint) i is) (value_worth blocks i.outpoint) (sum_same blocks is)

balanced : (u' u l new fees fee total paid out : ℕ) → u' ≡ l + new → new ≡ out → l + paid ≡ u → out ≤ paid → fee ≡ paid - out → u + fees ≡ total → u' + (fee + fees) ≡ total
balanced u' u l new fees fee total paid out a b c d e f = omega arith

le_true : (a b : ℕ) → nat_le a b ≡ true → a ≤ b
le_true a b h = grind (arith, nat_tests)

named_before : (b : List Contents) (q : OutPoint) (n m : Bool) → (n || m) ≡ true → (n ≡ true → is_some (found q (created_of b)) ≡ true) → (m ≡ true → is_some (found q (created_of b)) ≡ true) → is_some (found q (created_of b)) ≡ true
named_before b q true m e f g = f refl
named_before b q false m e f g = g e

conserves_transaction : (t : Transaction) (ts : List Transaction) (older : List Contents) → is_checked (at_end t ts older) ≡ true → AreApart (at_end t ts older) → Conserves (behind ts older) → Conserves (at_end t ts older)
unfolding Conserves
conserves_transaction t ts older checked apart before =
    let b = behind ts older in
    let a = at_end t ts older in
    let h = length older in
    let new = created_by h t in
    let e = extends_transaction t ts older in
    let parts = and_parts (have_passed older (t ∷ ts)) (is_checked older) checked in
    let passes = next_passed older t ts parts.0 in
    let facts = passed b t passes.0 in
    let checked_before : is_checked b ≡ true = rw passes.1 parts.1 in
    let apart_all : Differ (created_of b ++ new) = rw e at apart in
    let there : (q : OutPoint) → names q t ≡ true → (is_some (found q (created_of b)) ≡ true) × (is_named b q ≡ false) = λ q n. fresh_there (coin_at b q) (is_named b q) (created_at b q) (named_fresh b (height_of b) t t.inputs q facts.inputs n) refl in
    let shift : (q : OutPoint) → is_named a q ≡ (names q t || is_named b q) = λ q. or_moved (names q t) (list_any (names q) ts) (is_named older q) in
    let spent = spend_all (created_of b) (is_named b) t.inputs (apart_before (created_of b) new apart_all) facts.once there in
    let old : worth (left (is_named a) (created_of b)) ≡ worth (left (λ q. names q t || is_named b q) (created_of b)) = ap worth (left_same (is_named a) (λ q. names q t || is_named b q) (created_of b) shift) in
    let fresh : left (is_named a) new ≡ new = new_left (is_named a) (created_of b) new (λ q n. named_before b q (names q t) (is_named b q) (sym (shift q) ∙ n) (λ m. (there q m).0) (named_created b q checked_before)) (unlike (created_of b) new apart_all) in
    let whole : worth (unspent_of a) ≡ worth (left (is_named a) (created_of b)) + worth new = ap (λ xs. worth (left (is_named a) xs)) e ∙ worth_split (is_named a) (created_of b) new ∙ ap (λ xs. worth (left (is_named a) (created_of b)) + worth xs) fresh in
    let paid : paid_in a t.inputs ≡ paid_in b t.inputs = paid_stays b a new t.inputs e (λ q n. (there q n).0) in
    ap (λ n. worth (unspent_of a) + n) (sum_head (fee_of a) t (transactions_of b))
    ∙ balanced (worth (unspent_of a)) (worth (unspent_of b)) (worth (left (is_named a) (created_of b))) (worth new) _ (fee_of a t) (granted_of a) (paid_in b t.inputs) (paid_out t.outputs)
    whole (worth_new (transaction_id t) h 0 t.outputs)
    (ap (λ n. n + paid_in b t.inputs) old ∙ ap (λ n. worth (left (λ q. names q t || is_named b q) (created_of b)) + n) (sum_same b t.inputs) ∙ spent)
    (le_true (paid_out t.outputs) (paid_in b t.inputs) facts.covered)
    (ap (λ n. n - paid_out t.outputs) paid)
    (ap (λ n. worth (unspent_of b) + n) (same_fees b a new e checked_before) ∙ before)

extends_grant : (o : Output) (b : Contents) (older : List Contents) → Extends (b ∷ older) (with_grant (b ∷ older) o) (record { outpoint = grant_outpoint (grants_in older + length b.granted); output = o; height = length older } ∷ [])
extends_grant o b older =
    let one : List Creation = record { outpoint = grant_outpoint (grants_in older + length b.granted); output = o; height = length older } ∷ [] in
    let ts = created_by_all (length older) b.transactions in
    let gs = granted_at (length older) (grants_in older) b.granted in
    ap (λ xs. created_of older ++ xs) (sym (append_assoc ts gs one)) ∙ sym (append_assoc (created_of older) (ts ++ gs) one)

sums_moved : (a b c : ℕ) → (a + b) + c ≡ a + (b + c)
sums_moved a b c = omega arith

granted_more : (u' u v fees g' g : ℕ) → u' ≡ u + v → u + fees ≡ g → g' ≡ v + g → u' + fees ≡ g'
granted_more u' u v fees g' g e f h = omega arith

conserves_grant : (o : Output) (b : Contents) (older : List Contents) → is_checked (b ∷ older) ≡ true → AreApart (with_grant (b ∷ older) o) → Conserves (b ∷ older) → Conserves (with_grant (b ∷ older) o)
unfolding Conserves
conserves_grant o b older checked apart before =
    let bs : List Contents = b ∷ older in
    let granted = with_grant bs o in
    let one : List Creation = record { outpoint = grant_outpoint (grants_in older + length b.granted); output = o; height = length older } ∷ [] in
    let e = extends_grant o b older in
    let apart_all : Differ (created_of bs ++ one) = rw e at apart in
    let fresh : left (is_named bs) one ≡ one = new_left (is_named bs) (created_of bs) one (λ q n. named_created bs q checked n) (unlike (created_of bs) one apart_all) in
    let whole : worth (unspent_of granted) ≡ worth (unspent_of bs) + o.value = ap (λ xs. worth (left (is_named bs) xs)) e ∙ worth_split (is_named bs) (created_of bs) one ∙ ap (λ xs. worth (unspent_of bs) + worth xs) fresh ∙ ap (λ n. worth (unspent_of bs) + n) (zero-add o.value) in
    let g : granted_of granted ≡ o.value + granted_of bs =
    sum_head (λ b. paid_out b.granted) (record b { granted = o ∷ b.granted }) older
    ∙ ap (λ n. n + granted_of older) (sum_head (λ o. o.value) o b.granted)
    ∙ sums_moved o.value (paid_out b.granted) (granted_of older)
    ∙ ap (λ n. o.value + n) (sym (sum_head (λ b. paid_out b.granted) b older)) in
    ap (λ n. worth (unspent_of granted) + n) (same_fees bs granted one e checked)
    ∙ granted_more (worth (unspent_of granted)) (worth (unspent_of bs)) o.value (fees_of bs) (granted_of granted) (granted_of bs) whole before g

conserves_grants : (ts : List Transaction) (gs : List Output) (older : List Contents) → is_checked (behind ts older) ≡ true → AreApart (record { transactions = ts; granted = gs } ∷ older) → Conserves (behind ts older) → Conserves (record { transactions = ts; granted = gs } ∷ older)
conserves_grants ts [] older checked apart before = before
conserves_grants ts (o ∷ os) older checked apart before =
    let b : Contents = record { transactions = ts; granted = os } in
    let fewer : AreApart (b ∷ older) = apart_before (created_of (b ∷ older)) _ (rw (extends_grant o b older) at apart) in
    conserves_grant o b older checked apart (conserves_grants ts os older checked fewer before)

conserves_begun : (older : List Contents) → is_checked older ≡ true → Conserves older → Conserves (empty_block ∷ older)
unfolding Conserves
conserves_begun older checked before =
    ap (λ xs. worth (left (is_named older) xs) + fees_of (empty_block ∷ older)) (append-nil (created_of older))
    ∙ ap (λ n. worth (unspent_of older) + n) (same_fees older (empty_block ∷ older) [] refl checked) ∙ before

conserves_block : (ts : List Transaction) (older : List Contents) → is_checked (behind ts older) ≡ true → AreApart (behind ts older) → Conserves older → Conserves (behind ts older)
conserves_block [] older checked apart before = conserves_begun older checked before
conserves_block (t ∷ ts) older checked apart before =
    let parts = and_parts (have_passed older (t ∷ ts)) (is_checked older) checked in
    let checked_before : is_checked (behind ts older) ≡ true = rw (next_passed older t ts parts.0).1 parts.1 in
    let fewer : AreApart (behind ts older) = apart_before (created_of (behind ts older)) _ (rw (extends_transaction t ts older) at apart) in
    conserves_transaction t ts older checked apart (conserves_block ts older checked_before fewer before)

conserves_all : (blocks : List Contents) → is_checked blocks ≡ true → AreApart blocks → Conserves blocks
unfolding Conserves
conserves_all [] checked apart = refl
conserves_all (b ∷ older) checked apart =
    let h = length older in
    let cs = created_by_all h b.transactions in
    let parts = and_parts (have_passed older b.transactions) (is_checked older) checked in
    let gs = granted_at h (grants_in older) b.granted in
    let whole : Differ ((created_of older ++ cs) ++ gs) = rw (append_assoc (created_of older) cs gs) apart in
    let first : Differ (created_of older ++ cs) = apart_before (created_of older ++ cs) gs whole in
    let fewer : AreApart (behind b.transactions older) = rw (append-nil cs) first in
    conserves_grants b.transactions b.granted older checked apart (conserves_block b.transactions older checked fewer (conserves_all older parts.1 (apart_before (created_of older) cs first)))

tested_by : (index : ℕ) (older : List Contents) (t : Transaction) (ts : List Transaction) (r : Option ChainError) (rest : Result (List Contents) BlockError) (new : List Contents) → transaction_refusal (behind ts older) t ≡ r → unless_refused index r rest ≡ Ok new → is_checked (behind ts older) ≡ true → (rest ≡ Ok new) × (is_checked (at_end t ts older) ≡ true)
tested_by index older t ts None rest new e a checked = (a, rw e checked)
tested_by index older t ts (Some r) rest new e a checked = absurd cc

same_blocks : (a b : List Contents) (x y : Result (List Contents) BlockError) → x ≡ Ok a → y ≡ Ok b → x ≡ y → a ≡ b
same_blocks a b x y e f g = cc

checked_added : (index : ℕ) (older : List Contents) (ts txs : List Transaction) (new : List Contents) → added index (behind ts older) txs ≡ Ok new → is_checked (behind ts older) ≡ true → is_checked new ≡ true
checked_added index older ts [] new e checked = ap is_checked (sym (same_blocks (behind ts older) new (Ok (behind ts older)) (Ok new) refl refl e)) ∙ checked
checked_added index older ts (t ∷ txs) new e checked =
    let n = tested_by index older t ts (transaction_refusal (behind ts older) t) (added (index + 1) (at_end t ts older) txs) new refl e checked in
    checked_added (index + 1) older (t ∷ ts) txs new n.0 n.1

checked_grant : (blocks : List Contents) (o : Output) → is_checked blocks ≡ true → is_checked (with_grant blocks o) ≡ true
checked_grant [] o e = e
checked_grant (b ∷ older) o e = e

checked_drop : (blocks : List Contents) (k : ℕ) → is_checked blocks ≡ true → is_checked (drop k blocks) ≡ true
checked_drop blocks zero e = e
checked_drop [] (suc k) e = e
checked_drop (b ∷ older) (suc k) e = checked_drop older k (and_parts (have_passed older b.transactions) (is_checked older) e).1

checked_call : (old : Standing) (c : Command) (a : Answer) (new : Standing) → Answered old c a new → is_checked old.blocks ≡ true → is_checked new.blocks ≡ true
checked_call old (command.Grant o) (answer.Grant (Ok p)) new h t = rw h.2 (checked_grant old.blocks o t)
checked_call old (command.Grant o) (answer.Grant (Err e)) new h t = rw h.0 t
checked_call old (command.CheckInput x i) (answer.CheckInput r) new h t = rw h.0 t
checked_call old (command.Connect txs) (answer.Connect (Ok n)) new h t = checked_added 0 old.blocks [] txs.items new.blocks h.0 t
checked_call old (command.Connect txs) (answer.Connect (Err e)) new h t = rw h.0 t
checked_call old (command.Disconnect k) (answer.Disconnect (Ok txs)) new h t = rw h.2 (checked_drop old.blocks k t)
checked_call old (command.Disconnect k) (answer.Disconnect (Err e)) new h t = rw h.0 t
checked_call old command.Unspent (answer.Unspent u) new h t = rw h.0 t
checked_call old command.Height (answer.Height n) new h t = rw h.0 t
checked_call old command.Fees (answer.Fees n) new h t = rw h.0 t
checked_call old c a new h t = absurd h

pub checked_replay : (old : Standing) (cs : List Command) (answers : List Answer) (new : Standing) → Replays old cs answers new → is_checked old.blocks ≡ true → is_checked new.blocks ≡ true
checked_replay old [] [] new r t = rw r t
checked_replay old [] (a ∷ answers) new r t = absurd r
checked_replay old (c ∷ cs) [] new r t = absurd r
checked_replay old (c ∷ cs) (a ∷ answers) new r t = checked_replay r.0 cs answers new r.2 (checked_call old c a r.0 r.1 t)

pub conserved_there : (blocks : List Contents) → is_checked blocks ≡ true → GrantsAreApart blocks → sum_by (λ c. c.output.value) (unspent_of blocks) + fees_of blocks ≡ granted_of blocks
unfolding Conserves
conserved_there blocks checked grants = conserves_all blocks checked (are_apart blocks checked grants)

pub conserved : (commands : List Command) (answers : List Answer) (s : Standing) → Replays (record { blocks = empty_block ∷ []; greatest = 0 }) commands answers s → GrantsAreApart s.blocks → sum_by (λ c. c.output.value) (unspent_of s.blocks) + fees_of s.blocks ≡ granted_of s.blocks
conserved commands answers s r grants = conserved_there s.blocks (checked_replay (record { blocks = empty_block ∷ []; greatest = 0 }) commands answers s r refl) grants
