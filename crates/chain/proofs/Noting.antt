-- What a map from outpoints holds after a change.
use Rattle.std.proofs.Common.{◌≡◌, ℕ, ◌+◌, ◌<◌, ◌≤◌, Bool, true, false, ◌&&◌, ◌||◌, cond, ◌==◌, List, [], ◌∷◌, length, drop, get_or, Option, Some, None, option_map, sym, ap, ◌∙◌, refl, arith, ne_eqb, eq-eqb}
use Rattle.std.specs.Prelude.{nat_lt, IfSome, is_some}
use Rattle.std.specs.declared.cmp.Ordering.{Ordering}
use Rattle.std.specs.declared.cmp.Ordering.TheVariants.{Less, Equal, Greater}
use Rattle.std.specs.Ordering.{is_eq, ordering_then, nat_cmp}
use Rattle.std.specs.Cmp.Lexicographic.{slice_cmp}
use Rattle.std.specs.List.{find}
use Rattle.std.specs.Option.{option_or}
use Rattle.std.specs.BTreeMap.{BTreeMap, get}
use Rattle.std.specs.Str.{bytes_eq}
use Rattle.std.proofs.lemmas.Bool.{false≢true, and_parts}
use Rattle.std.proofs.lemmas.Bool.Decides.{nat_tests}
use Rattle.std.proofs.lemmas.Map.Text.{is_eq-slice_cmp}
use Rattle.std.proofs.lemmas.Slice.Eq.{bytes_eq-Decides}
use Rattle.tx.specs.declared.input.OutPoint.{OutPoint}
use Rattle.tx.specs.Parts.{Output}
use Rattle.tx.specs.Fields.{same_outpoint}
use Rattle.chain.specs.declared.coin_map.IndexedCoin.{IndexedCoin}
use Rattle.chain.specs.Blocks.{Creation, Coin, creations_from}
use Rattle.chain.specs.Indexing.{outpoint_cmp, indexed_coin, noted, new_coin, first_new, is_output_below, unless_height, without, marked, with_mark}
use Rattle.chain.proofs.Finding.{head_left, drop-past}

both_equal : (a b : Ordering) → is_eq (ordering_then a b) ≡ (is_eq a && is_eq b)
both_equal Less b = refl
both_equal Equal b = refl
both_equal Greater b = refl

by_tests : (t e : Bool) → (t ≡ true → e ≡ false) → is_eq (cond t Less (cond e Equal Greater)) ≡ e
by_tests true e h = sym (h refl)
by_tests false true h = refl
by_tests false false h = refl

apart : (x y : ℕ) → nat_lt x y ≡ true → (x == y) ≡ false
apart x y h = grind (arith, nat_tests)

equal_numbers : (x y : ℕ) → is_eq (nat_cmp x y) ≡ (x == y)
equal_numbers x y = by_tests (nat_lt x y) (x == y) (apart x y)

-- outpoints compare as equal exactly where they are the same
pub ties : (o p : OutPoint) → is_eq (outpoint_cmp o p) ≡ same_outpoint o p
ties o p =
    both_equal (slice_cmp nat_cmp o.txid p.txid) (nat_cmp o.index p.index)
    ∙ ap (λ b. b && is_eq (nat_cmp o.index p.index)) (is_eq-slice_cmp o.txid p.txid)
    ∙ ap (λ b. bytes_eq o.txid p.txid && b) (equal_numbers o.index p.index)

same_number : (x y : ℕ) → (x == y) ≡ true → x ≡ y
same_number x y h = grind (arith, nat_tests)

pub same_is : (o p : OutPoint) → same_outpoint o p ≡ true → o ≡ p
same_is o p h =
    let parts = and_parts (bytes_eq o.txid p.txid) (o.index == p.index) h in
    let id : o.txid ≡ p.txid = (bytes_eq-Decides o.txid p.txid).0 parts.0 in
    let index : o.index ≡ p.index = same_number o.index p.index parts.1 in
    ap (λ t. record { txid = t; index = o.index }) id ∙ ap (λ i. record { txid = p.txid; index = i }) index

pub itself : (o : OutPoint) → same_outpoint o o ≡ true
itself o = rw ((bytes_eq-Decides o.txid o.txid).1 refl, eq-eqb o.index o.index refl) refl

either_way : (a b : Bool) → (a ≡ true → b ≡ true) → (b ≡ true → a ≡ true) → a ≡ b
either_way true b f g = sym (f refl)
either_way false true f g = g refl
either_way false false f g = refl

pub swapped : (o p : OutPoint) → same_outpoint o p ≡ same_outpoint p o
swapped o p = either_way (same_outpoint o p) (same_outpoint p o) (λ e. ap (λ x. same_outpoint p x) (same_is o p e) ∙ itself p) (λ e. ap (λ x. same_outpoint o x) (same_is p o e) ∙ itself o)

mapped : (t : Bool) (e : IndexedCoin) (x : Option IndexedCoin) → option_map indexed_coin (cond t (Some e) x) ≡ cond t (Some (indexed_coin e)) (option_map indexed_coin x)
mapped true e x = refl
mapped false e x = refl

-- a map with one more entry, as contracts see it
pub noted_with : (m n : BTreeMap OutPoint IndexedCoin) (k : OutPoint) (e : IndexedCoin) → ((q : OutPoint) → get outpoint_cmp n q ≡ cond (is_eq (outpoint_cmp k q)) (Some e) (get outpoint_cmp m q)) → (q : OutPoint) → noted n q ≡ cond (same_outpoint k q) (Some (indexed_coin e)) (noted m q)
noted_with m n k e u q =
    ap (option_map indexed_coin) (u q) ∙ mapped (is_eq (outpoint_cmp k q)) e (get outpoint_cmp m q)
    ∙ ap (λ t. cond t (Some (indexed_coin e)) (noted m q)) (ties k q)

emptied : (t : Bool) (x : Option IndexedCoin) → option_map indexed_coin (cond t None x) ≡ cond t None (option_map indexed_coin x)
emptied true x = refl
emptied false x = refl

pub noted_less : (m n : BTreeMap OutPoint IndexedCoin) (k : OutPoint) → ((q : OutPoint) → get outpoint_cmp n q ≡ cond (is_eq (outpoint_cmp k q)) None (get outpoint_cmp m q)) → (q : OutPoint) → noted n q ≡ cond (same_outpoint k q) None (noted m q)
noted_less m n k u q =
    ap (option_map indexed_coin) (u q) ∙ emptied (is_eq (outpoint_cmp k q)) (get outpoint_cmp m q)
    ∙ ap (λ t. cond t None (noted m q)) (ties k q)

none_mapped : (x : Option IndexedCoin) → is_some x ≡ false → option_map indexed_coin x ≡ None
none_mapped None h = refl
none_mapped (Some e) h = absurd (false≢true (sym h))

pub none_noted : (m : BTreeMap OutPoint IndexedCoin) (k : OutPoint) → is_some (get outpoint_cmp m k) ≡ false → noted m k ≡ None
none_noted m k h = none_mapped (get outpoint_cmp m k) h

some_mapped : (x : Option IndexedCoin) → is_some x ≡ true → is_some (option_map indexed_coin x) ≡ true
some_mapped None h = absurd (false≢true h)
some_mapped (Some e) h = refl

pub some_noted : (m : BTreeMap OutPoint IndexedCoin) (k : OutPoint) → is_some (get outpoint_cmp m k) ≡ true → is_some (noted m k) ≡ true
some_noted m k h = some_mapped (get outpoint_cmp m k) h

or_nothing : (x : Option Coin) → x ≡ option_or x None
or_nothing None = refl
or_nothing (Some c) = refl

more_here : (f : OutPoint → Option Coin) (c : Creation) (q : OutPoint) (t : Bool) → f c.outpoint ≡ None → same_outpoint c.outpoint q ≡ t → cond t (Some (new_coin c)) (f q) ≡ option_or (f q) (option_map new_coin (cond t (Some c) None))
more_here f c q true none e = ap (λ x. option_or x (Some (new_coin c))) (sym none ∙ ap f (same_is c.outpoint q e))
more_here f c q false none e = or_nothing (f q)

-- one more output, where there was none
pub one_more : (f g : OutPoint → Option Coin) (c : Creation) (x : Coin) → f c.outpoint ≡ None → x ≡ new_coin c → ((q : OutPoint) → g q ≡ cond (same_outpoint c.outpoint q) (Some x) (f q)) → (q : OutPoint) → g q ≡ option_or (f q) (first_new (c ∷ []) q)
one_more f g c x none new u q = u q ∙ ap (λ y. cond (same_outpoint c.outpoint q) (Some y) (f q)) new ∙ more_here f c q (same_outpoint c.outpoint q) none refl

or_some : (x y : Option Coin) → is_some x ≡ true → x ≡ option_or x y
or_some None y h = absurd (false≢true h)
or_some (Some c) y h = refl

already_here : (f : OutPoint → Option Coin) (c : Creation) (q : OutPoint) (t : Bool) → is_some (f c.outpoint) ≡ true → same_outpoint c.outpoint q ≡ t → f q ≡ option_or (f q) (option_map new_coin (cond t (Some c) None))
already_here f c q true some e = or_some (f q) (Some (new_coin c)) (ap (λ o. is_some (f o)) (sym (same_is c.outpoint q e)) ∙ some)
already_here f c q false some e = or_nothing (f q)

-- and where there is one already, the first remains
pub one_already : (f : OutPoint → Option Coin) (c : Creation) → is_some (f c.outpoint) ≡ true → (q : OutPoint) → f q ≡ option_or (f q) (first_new (c ∷ []) q)
one_already f c some q = already_here f c q (same_outpoint c.outpoint q) some refl

taken : (f : OutPoint → Option Coin) (k : OutPoint) (height : ℕ) (c : Coin) (q : OutPoint) (t : Bool) → f k ≡ Some c → (c.height == height) ≡ true → same_outpoint k q ≡ t → cond t None (f q) ≡ without t height (f q)
taken f k height c q true e h s = sym (ap (unless_height height) (sym (ap f (same_is k q s)) ∙ e) ∙ ap (λ t. cond t None (Some c)) h)
taken f k height c q false e h s = refl

-- what is at an outpoint is removed, if it was created at this height
pub taken_away : (f g : OutPoint → Option Coin) (k : OutPoint) (height : ℕ) (c : Coin) → f k ≡ Some c → (c.height == height) ≡ true → ((q : OutPoint) → g q ≡ cond (same_outpoint k q) None (f q)) → (q : OutPoint) → g q ≡ without (same_outpoint k q) height (f q)
taken_away f g k height c e h u q = u q ∙ taken f k height c q (same_outpoint k q) e h refl

pub number_below : (k i : ℕ) → nat_lt k i ≡ true → (i == k) ≡ false
number_below k i h = grind (arith, nat_tests)

pub next_below : (k i : ℕ) → nat_lt k (i + 1) ≡ (nat_lt k i || (i == k))
next_below k i = grind (arith, nat_tests)

pub none_below : (k : ℕ) → nat_lt k 0 ≡ false
none_below k = grind (arith, nat_tests)

none_first : (b : Bool) (height : ℕ) (x : Option Coin) → without (b && false) height x ≡ x
none_first true height x = refl
none_first false height x = refl

-- nothing is removed yet
pub forget_none : (id : List ℕ) (height : ℕ) (x : Option Coin) (q : OutPoint) → x ≡ without (is_output_below id 0 q) height x
forget_none id height x q =
    sym (ap (λ t. without (bytes_eq id q.txid && t) height x) (none_below q.index) ∙ none_first (bytes_eq id q.txid) height x)

one_of_two : (b e l : Bool) (height : ℕ) (x : Option Coin) → (l ≡ true → e ≡ false) → without (b && e) height (without (b && l) height x) ≡ without (b && (l || e)) height x
one_of_two false e l height x h = refl
one_of_two true true true height x h = absurd (false≢true (sym (h refl)))
one_of_two true true false height x h = refl
one_of_two true false true height x h = refl
one_of_two true false false height x h = refl

-- one more output is removed
pub forget_next : (id : List ℕ) (i height : ℕ) (f0 f g : OutPoint → Option Coin) (q : OutPoint) → f q ≡ without (is_output_below id i q) height (f0 q) → g q ≡ without (same_outpoint (record { txid = id; index = i }) q) height (f q) → g q ≡ without (is_output_below id (i + 1) q) height (f0 q)
forget_next id i height f0 f g q e u =
    let b = bytes_eq id q.txid in
    u
    ∙ ap (without (b && (i == q.index)) height) e
    ∙ one_of_two b (i == q.index) (nat_lt q.index i) height (f0 q) (number_below q.index i)
    ∙ ap (λ t. without (b && t) height (f0 q)) (sym (next_below q.index i))

or_assoc : (x y z : Option Coin) → option_or (option_or x y) z ≡ option_or x (option_or y z)
or_assoc None y z = refl
or_assoc (Some c) y z = refl

first_by : (t : Bool) (c : Creation) (x : Option Creation) → option_map new_coin (cond t (Some c) x) ≡ option_or (option_map new_coin (cond t (Some c) None)) (option_map new_coin x)
first_by true c x = refl
first_by false c x = refl

first_cons : (c : Creation) (cs : List Creation) (q : OutPoint) → first_new (c ∷ cs) q ≡ option_or (first_new (c ∷ []) q) (first_new cs q)
first_cons c cs q = first_by (same_outpoint c.outpoint q) c (find (λ c. same_outpoint c.outpoint q) cs)

-- one more output is recorded, and then the rest
pub note_next : (id : List ℕ) (height i : ℕ) (outputs : List Output) (x : Output) (f g : OutPoint → Option Coin) (whole : Option Coin) (q : OutPoint) → x ≡ get_or outputs i x → i < length outputs → g q ≡ option_or (f q) (first_new (record { outpoint = record { txid = id; index = i }; output = x; height = height } ∷ []) q) → option_or (f q) (first_new (creations_from id height i (drop i outputs)) q) ≡ whole → option_or (g q) (first_new (creations_from id height (i + 1) (drop (i + 1) outputs)) q) ≡ whole
note_next id height i outputs x f g whole q e below u w =
    let c : Creation = record { outpoint = record { txid = id; index = i }; output = x; height = height } in
    let rest = creations_from id height (i + 1) (drop (i + 1) outputs) in
    ap (λ y. option_or y (first_new rest q)) u
    ∙ or_assoc (f q) (first_new (c ∷ []) q) (first_new rest q)
    ∙ ap (option_or (f q)) (sym (first_cons c rest q) ∙ sym (ap (λ xs. first_new (creations_from id height i xs) q) (head_left outputs i x e below)))
    ∙ w

-- all are recorded
pub note_last : (id : List ℕ) (height i : ℕ) (outputs : List Output) (x whole : Option Coin) (q : OutPoint) → length outputs ≤ i → option_or x (first_new (creations_from id height i (drop i outputs)) q) ≡ whole → x ≡ whole
note_last id height i outputs x whole q past w = or_nothing x ∙ sym (ap (λ xs. option_or x (first_new (creations_from id height i xs) q)) (drop-past outputs i past)) ∙ w

lower_stays : (height : ℕ) (c : Coin) → c.height < height → unless_height height (Some c) ≡ Some c
lower_stays height c low = ap (λ t. cond t None (Some c)) (ne_eqb c.height height (λ e. omega (arith, e)))

lower_first : (height : ℕ) (x : Option Coin) (c : Creation) → c.height ≡ height → IfSome x (λ c. c.height < height) → unless_height height (option_or x (Some (new_coin c))) ≡ x
lower_first height None c e low = ap (λ t. cond t None (Some (new_coin c))) (eq-eqb c.height height e)
lower_first height (Some y) c e low = lower_stays height y low

undo_by : (b e l : Bool) (height : ℕ) (c : Creation) (x old : Option Coin) → (l ≡ true → e ≡ false) → c.height ≡ height → (b ≡ true → IfSome old (λ c. c.height < height)) → without (b && l) height x ≡ old → without (b && (l || e)) height (option_or x (option_map new_coin (cond (b && e) (Some c) None))) ≡ old
undo_by false e l height c x old h n low p = sym (or_nothing x) ∙ p
undo_by true true true height c x old h n low p = absurd (false≢true (sym (h refl)))
undo_by true false true height c x old h n low p = ap (unless_height height) (sym (or_nothing x)) ∙ p
undo_by true false false height c x old h n low p = sym (or_nothing x) ∙ p
undo_by true true false height c x old h n low p = lower_first height x c n (rw p (low refl)) ∙ p

-- removing what was recorded so far would leave what was there before
pub undo_next : (id : List ℕ) (height i : ℕ) (x : Output) (f0 f g : OutPoint → Option Coin) (q : OutPoint) → (q.txid ≡ id → IfSome (f0 q) (λ c. c.height < height)) → g q ≡ option_or (f q) (first_new (record { outpoint = record { txid = id; index = i }; output = x; height = height } ∷ []) q) → without (is_output_below id i q) height (f q) ≡ f0 q → without (is_output_below id (i + 1) q) height (g q) ≡ f0 q
undo_next id height i x f0 f g q low u p =
    let b = bytes_eq id q.txid in
    let c : Creation = record { outpoint = record { txid = id; index = i }; output = x; height = height } in
    ap (λ t. without (b && t) height (g q)) (next_below q.index i)
    ∙ ap (without (b && (nat_lt q.index i || (i == q.index))) height) u
    ∙ undo_by b (i == q.index) (nat_lt q.index i) height c (f q) (f0 q) (number_below q.index i) refl (λ s. low (sym ((bytes_eq-Decides id q.txid).0 s))) p

marks_both : (a b : Bool) (spent : Bool) (x : Option Coin) → with_mark b spent (with_mark a spent x) ≡ with_mark (a || b) spent x
marks_both false b spent x = refl
marks_both true true spent None = refl
marks_both true true spent (Some c) = refl
marks_both true false spent x = refl

-- what is marked input by input
pub mark_next : (a b : Bool) (spent : Bool) (x y z : Option Coin) → y ≡ with_mark a spent x → z ≡ with_mark b spent y → z ≡ with_mark (a || b) spent x
mark_next a b spent x y z e u = u ∙ ap (with_mark b spent) e ∙ marks_both a b spent x

marks : (f : OutPoint → Option Coin) (k : OutPoint) (spent : Bool) (c : Coin) (q : OutPoint) (t : Bool) → f k ≡ Some c → same_outpoint k q ≡ t → cond t (Some (marked spent c)) (f q) ≡ with_mark t spent (f q)
marks f k spent c q true e s = sym (ap (option_map (marked spent)) (sym (ap f (same_is k q s)) ∙ e))
marks f k spent c q false e s = refl

-- what is at an outpoint is marked
pub marks_one : (f g : OutPoint → Option Coin) (k : OutPoint) (spent : Bool) (c : Coin) → f k ≡ Some c → ((q : OutPoint) → g q ≡ cond (same_outpoint k q) (Some (marked spent c)) (f q)) → (q : OutPoint) → g q ≡ with_mark (same_outpoint k q) spent (f q)
marks_one f g k spent c e u q = u q ∙ marks f k spent c q (same_outpoint k q) e refl

marks_nothing : (f : OutPoint → Option Coin) (k : OutPoint) (spent : Bool) (q : OutPoint) (t : Bool) → f k ≡ None → same_outpoint k q ≡ t → f q ≡ with_mark t spent (f q)
marks_nothing f k spent q true e s = let n : f q ≡ None = sym (ap f (same_is k q s)) ∙ e in n ∙ sym (ap (option_map (marked spent)) n)
marks_nothing f k spent q false e s = refl

-- where there is nothing, nothing is marked
pub marks_none : (f g : OutPoint → Option Coin) (k : OutPoint) (spent : Bool) → f k ≡ None → ((q : OutPoint) → g q ≡ f q) → (q : OutPoint) → g q ≡ with_mark (same_outpoint k q) spent (f q)
marks_none f g k spent e u q = u q ∙ marks_nothing f k spent q (same_outpoint k q) e refl

abbrev single : List ℕ → ℕ → Output → ℕ → List Creation
single id index x height = record { outpoint = record { txid = id; index = index }; output = x; height = height } ∷ []

-- the same under an equal id
pub one_at : (id given : List ℕ) (i height : ℕ) (x : Output) (a b : Option Coin) (q : OutPoint) → given ≡ id → b ≡ option_or a (first_new (single given i x height) q) → b ≡ option_or a (first_new (single id i x height) q)
one_at id given i height x a b q e u = u ∙ ap (λ t. option_or a (first_new (single t i x height) q)) e
