-- Symbols that are taken, and facts that are asked.
use Rattle.std.proofs.Common.{◌≡◌, ℕ, ◌≤◌, Bool, true, false, List, [], ◌∷◌, ◌++◌, length, map, drop, Result, Ok, Err, add-one, sym, ap, ◌∙◌, refl, arith}
use Rattle.std.proofs.Math.Seq.{drop-cons}
use Rattle.script.specs.declared.opcode.Op.{Op}
use Rattle.script.specs.declared.spending.Spend.{Spend}
use Rattle.script.specs.Step.{Elements, effect, plain, result_if, ◌>>=◌}
use Rattle.facts.specs.Symbols.{Fact}
use Rattle.facts.specs.Symbols.{Stated}
use Rattle.facts.specs.Symbols.{Sym}
use Rattle.facts.specs.Meaning.{slot_of, item_for, holds_of, AllStated}
use Rattle.paths.specs.Plain.{State}
use Rattle.paths.specs.declared.state.SymbolicJumpOver.TheVariants.{Next}
use Rattle.paths.specs.Rules.{pop_of, pop, push, ask}
use Rattle.paths.proofs.SoundWords.{Gives, entries_of, IsShort, Grows, Asks, Follows}

pub gives_then : {A B E : Type 0} (Q : A → Type 0) (P : B → Type 0) (r : Result A E) (f : A → Result B E) → Gives Q r → ((x : A) → Q x → Gives P (f x)) → Gives P (r >>= f)
gives_then Q P (Ok x) f q h = h x q
gives_then Q P (Err e) f q h = tt

pub gives_map : {A E : Type 0} (Q P : A → Type 0) (r : Result A E) → Gives Q r → ((x : A) → Q x → P x) → Gives P r
gives_map Q P (Ok x) q h = h x q
gives_map Q P (Err e) q h = tt

pub gives_same : {A E : Type 0} (r : Result A E) → Gives (λ x. r ≡ Ok x) r
gives_same (Ok x) = refl
gives_same (Err e) = tt

pub gives_result_if : {A E : Type 0} (P : A → Type 0) (b : Bool) (e : E) (r : Result A E) → (b ≡ true → Gives P r) → Gives P (result_if b e r)
gives_result_if P true e r h = h refl
gives_result_if P false e r h = tt

pub result_if-true : {A E : Type 0} (b : Bool) (e : E) (r : Result A E) → b ≡ true → result_if b e r ≡ r
result_if-true true e r h = refl
result_if-true false e r h = absurd (cc)

-- facts in two parts
pub stated_parts : (spend : Spend) (w : Elements) (xs ys : List Stated) → AllStated spend w (xs ++ ys) → AllStated spend w xs × AllStated spend w ys
stated_parts spend w [] ys h = (tt, h)
stated_parts spend w (x ∷ xs) ys h = let r = stated_parts spend w xs ys h.1 in ((h.0, r.0), r.1)

pub stated_join : (spend : Spend) (w : Elements) (xs ys : List Stated) → AllStated spend w xs → AllStated spend w ys → AllStated spend w (xs ++ ys)
stated_join spend w [] ys h k = k
stated_join spend w (x ∷ xs) ys h k = (h.0, stated_join spend w xs ys h.1 k)

pub asked_now : (spend : Spend) (w : Elements) (fact : Fact) (b : Bool) (s : State) → AllStated spend w (ask fact b s).facts → holds_of spend w fact ≡ b
asked_now spend w fact b s h = (stated_parts spend w s.facts (record { fact = fact; holds = b } ∷ []) h).1.0

pub grows_refl : (s : State) → Grows s s
grows_refl s = record { ahead = refl; excess = refl; keys = refl; more = omega arith; facts = λ spend w h. h }

pub grows_trans : (s t u : State) → Grows s t → Grows t u → Grows s u
grows_trans s t u g h = record {
  ahead = h.ahead ∙ g.ahead;
  excess = h.excess ∙ g.excess;
  keys = h.keys ∙ g.keys;
  more = let a = g.more in let b = h.more in omega arith;
  facts = λ spend w k. g.facts spend w (h.facts spend w k);
}

pub push_grows : (s t : State) (x : Sym) → Grows s t → Grows s (push x t)
push_grows s t x g = record { ahead = g.ahead; excess = g.excess; keys = g.keys; more = g.more; facts = g.facts }

pub pop_grows : (s : State) → Grows s (pop s).1
pop_grows s = go s.stack
  where
    go : (xs : List Sym) → Grows s (pop_of xs s).1
    go [] = record { ahead = refl; excess = refl; keys = refl; more = omega arith; facts = λ spend w h. h }
    go (x ∷ xs) = record { ahead = refl; excess = refl; keys = refl; more = omega arith; facts = λ spend w h. h }

pub asks_refl : (s : State) → Asks s s
asks_refl s = record { same = refl; facts = λ spend w h. h }

pub asks_trans : (s t u : State) → Asks s t → Asks t u → Asks s u
asks_trans s t u a b = record {
  same = b.same ∙ ap {A = State} {B = State} (λ v. record v { facts = u.facts }) a.same;
  facts = λ spend w h. a.facts spend w (b.facts spend w h);
}

pub ask_asks : (fact : Fact) (b : Bool) (s : State) → Asks s (ask fact b s)
ask_asks fact b s = record { same = refl; facts = λ spend w h. (stated_parts spend w s.facts _ h).0 }

pub asks_grows : (s t : State) → Asks s t → Grows s t
asks_grows s t a = record {
  ahead = ap (λ x. x.ahead) a.same;
  excess = ap (λ x. x.excess) a.same;
  keys = ap (λ x. x.keys) a.same;
  more = let e = ap (λ x. x.slots) a.same in omega arith;
  facts = a.facts;
}

pub asks_entries : (spend : Spend) (w : Elements) (s t : State) → Asks s t → entries_of spend w t ≡ entries_of spend w s
asks_entries spend w s t a = ap (entries_of spend w) a.same

-- the top of the elements is the item of the symbol
pub pop_entries : (spend : Spend) (w : Elements) (s : State) → (pop s).1.slots ≤ length w → entries_of spend w s ≡ item_for spend w (pop s).0 ∷ entries_of spend w (pop s).1
pop_entries spend w s l = go s.stack l
  where
    go : (xs : List Sym) → (pop_of xs s).1.slots ≤ length w → map (item_for spend w) xs ++ drop s.slots w ≡ item_for spend w (pop_of xs s).0 ∷ entries_of spend w (pop_of xs s).1
    go [] l = drop-cons w s.slots [] (omega arith) ∙ ap (λ k. slot_of w s.slots ∷ drop k w) (sym (add-one s.slots))
    go (x ∷ xs) l = refl

pub pop_entries-2 : (spend : Spend) (w : Elements) (s : State) → (pop (pop s).1).1.slots ≤ length w → entries_of spend w s ≡ item_for spend w (pop s).0 ∷ item_for spend w (pop (pop s).1).0 ∷ entries_of spend w (pop (pop s).1).1
pop_entries-2 spend w s l =
    let g = (pop_grows (pop s).1).more in
    pop_entries spend w s (omega arith) ∙ ap (λ r. item_for spend w (pop s).0 ∷ r) (pop_entries spend w (pop s).1 l)

-- an opcode of no branch that counts no keys
pub plain_follows : (counted : ℕ) (op : Op) (s s' : State) → Grows s s' → ((spend : Spend) (w : Elements) (c : ℕ) → IsShort w → s'.slots ≤ length w → AllStated spend w s'.facts → effect spend c op (entries_of spend w s) ≡ plain (entries_of spend w s')) → Follows counted op s Next s'
plain_follows counted op s s' g st = record {
  ahead = g.ahead;
  excess = g.excess;
  more = g.more;
  facts = g.facts;
  used = 0;
  keys = let e = g.keys in omega arith;
  few = λ l. let e = g.keys in omega arith;
  step = λ spend w c l sh en h. st spend w c sh en h;
}
