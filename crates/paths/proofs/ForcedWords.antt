-- What a rule owes where a run passes the opcode.
use Rattle.std.proofs.Common.{◌≡◌, ℕ, ◌≤◌, Bool, true, false, List, [], ◌∷◌, ◌++◌, ◌<◌, length, map, drop, Result, Ok, Err, sym, ap, ◌∙◌, refl, arith, inl, inr, subst, ⊎_elim}
use Rattle.std.specs.Prelude.{◌⊎◌}
use Rattle.std.proofs.lemmas.Bool.{cases_lt, true≢false}
use Rattle.std.proofs.lemmas.List.{drop_all}
use Rattle.script.specs.declared.spending.Spend.{Spend}
use Rattle.script.specs.declared.stops.Cause.{Cause}
use Rattle.script.specs.Step.{Elements, result_if, ◌>>=◌}
use Rattle.facts.specs.Symbols.{Fact}
use Rattle.facts.specs.Symbols.{Sym}
use Rattle.facts.specs.Meaning.{item_for, holds_of, AllStated}
use Rattle.paths.specs.Plain.{State}
use Rattle.paths.specs.declared.state.Halt.{Halt}
use Rattle.paths.specs.declared.state.Halt.TheVariants.{NoMemory, Dead, Undecided, TooManyOps}
use Rattle.paths.specs.Plain.{SymbolicJump}
use Rattle.paths.specs.Rules.{pop_of, pop, push, ask}
use Rattle.paths.proofs.SoundWords.{Gives, entries_of}
use Rattle.paths.proofs.SoundPops.{stated_join, pop_entries}

-- a rule's answer where a run passes: it does not die, and what it leaves has this property; any other halt is a refusal of the script
abbrev pub Forced : {A : Type 0} → (A → Type 0) → Result A Halt → Type 0
Forced P (Ok x) = P x
Forced P (Err NoMemory) = Unit {0}
Forced P (Err Dead) = ⊥
Forced P (Err Undecided) = Unit {0}
Forced P (Err TooManyOps) = Unit {0}

-- the rule does not die here
abbrev pub Lives : {A : Type 0} → Result A Halt → Type 0
Lives {A} r = Forced (λ (x : A). Unit {0}) r

pub forced_then : {A B : Type 0} (Q : A → Type 0) (P : B → Type 0) (r : Result A Halt) (f : A → Result B Halt) → Forced Q r → ((x : A) → Q x → Forced P (f x)) → Forced P (r >>= f)
forced_then Q P (Ok x) f q h = h x q
forced_then Q P (Err NoMemory) f q h = tt
forced_then Q P (Err Dead) f q h = q
forced_then Q P (Err Undecided) f q h = tt
forced_then Q P (Err TooManyOps) f q h = tt

pub forced_map : {A : Type 0} (Q P : A → Type 0) (r : Result A Halt) → Forced Q r → ((x : A) → Q x → P x) → Forced P r
forced_map Q P (Ok x) q h = h x q
forced_map Q P (Err NoMemory) q h = tt
forced_map Q P (Err Dead) q h = q
forced_map Q P (Err Undecided) q h = tt
forced_map Q P (Err TooManyOps) q h = tt

pub forced_is : {A B : Type 0} (P : B → Type 0) (x : A) (r : Result A Halt) (f : A → Result B Halt) → Forced (λ y. y ≡ x) r → Forced P (f x) → Forced P (r >>= f)
forced_is P x (Ok y) f e h = subst (λ z. Forced P (f z)) (sym e) h
forced_is P x (Err NoMemory) f e h = tt
forced_is P x (Err Dead) f e h = e
forced_is P x (Err Undecided) f e h = tt
forced_is P x (Err TooManyOps) f e h = tt

-- too many opcodes are a refusal
pub forced_unless : {A B : Type 0} (P : B → Type 0) (b : Bool) (x : A) (f : A → Result B Halt) → Forced P (f x) → Forced P (result_if b TooManyOps (Ok x) >>= f)
forced_unless P true x f h = h
forced_unless P false x f h = tt

pub forced_checked : {A : Type 0} (P : A → Type 0) (b : Bool) (r : Result A Halt) → b ≡ true → Forced P r → Forced P (result_if b Dead r)
forced_checked P true r e h = h
forced_checked P false r e h = absurd (true≢false (sym e))

pub forced_gives : {A : Type 0} (P : A → Type 0) (r : Result A Halt) → Lives r → Gives P r → Forced P r
forced_gives P (Ok x) q h = h
forced_gives P (Err NoMemory) q h = tt
forced_gives P (Err Dead) q h = q
forced_gives P (Err Undecided) q h = tt
forced_gives P (Err TooManyOps) q h = tt

-- a step that has a result, in its parts
pub ok_checked : {A E : Type 0} (b : Bool) (c : E) (r : Result A E) (x : A) → result_if b c r ≡ Ok x → (b ≡ true) × (r ≡ Ok x)
ok_checked true c r x e = (refl, e)
ok_checked false c r x e = absurd (cc)

pub ok_then : {A B E : Type 0} (r : Result A E) (f : A → Result B E) (y : B) → (r >>= f) ≡ Ok y → (x : A) × (r ≡ Ok x) × (f x ≡ Ok y)
ok_then (Ok x) f y e = (x, refl, e)
ok_then (Err c) f y e = absurd (cc)

-- the items and the spend are as the state says so far
pub record IsMet (spend : Spend) (w : Elements) (s : State) : Type 0 where
  pub enough : s.slots ≤ length w
  pub facts : AllStated spend w s.facts

abbrev pub IsMetBy : Spend → Elements → SymbolicJump × State → Type 0
IsMetBy spend w r = IsMet spend w r.1

pub push_met : (spend : Spend) (w : Elements) (x : Sym) (s : State) → IsMet spend w s → IsMet spend w (push x s)
push_met spend w x s m = record { enough = m.enough; facts = m.facts }

pub ask_met : (spend : Spend) (w : Elements) (fact : Fact) (b : Bool) (s : State) → holds_of spend w fact ≡ b → IsMet spend w s → IsMet spend w (ask fact b s)
ask_met spend w fact b s e m = record {
  enough = m.enough;
  facts = stated_join spend w s.facts (record { fact = fact; holds = b } ∷ []) m.facts (e, tt);
}

pub pop_facts : (spend : Spend) (w : Elements) (s : State) → AllStated spend w s.facts → AllStated spend w (pop s).1.facts
pop_facts spend w s h = go s.stack
  where
    go : (xs : List Sym) → AllStated spend w (pop_of xs s).1.facts
    go [] = h
    go (x ∷ xs) = h

-- there is an item for the symbol that is taken, or there are no elements
pub pop_reaches : (spend : Spend) (w : Elements) (s : State) → s.slots ≤ length w → ((pop s).1.slots ≤ length w) ⊎ (entries_of spend w s ≡ [])
pop_reaches spend w s l = go s.stack
  where
    go : (xs : List Sym) → ((pop_of xs s).1.slots ≤ length w) ⊎ (map (item_for spend w) xs ++ drop s.slots w ≡ [])
    go [] = ⊎_elim (λ (a : s.slots < length w). inl (omega arith)) (λ (a : length w ≤ s.slots). inr (drop_all s.slots w a)) (cases_lt s.slots (length w))
    go (x ∷ xs) = inl l

-- what has a result on the elements, and no result on none, has an item for the symbol
pub pop_met : {B : Type 0} (spend : Spend) (w : Elements) (s : State) (f : Elements → Result B Cause) (c : Cause) (e : B) → f [] ≡ Err c → f (entries_of spend w s) ≡ Ok e → IsMet spend w s → IsMet spend w (pop s).1
pop_met spend w s f c e none some m = record {
  enough = ⊎_elim (λ (l : (pop s).1.slots ≤ length w). l) (λ (z : entries_of spend w s ≡ []). absurd (missing z)) (pop_reaches spend w s m.enough);
  facts = pop_facts spend w s m.facts;
}
  where
    missing : entries_of spend w s ≡ [] → ⊥
    missing z = let a : f (entries_of spend w s) ≡ f [] = ap f z in cc

pub pop_met-2 : {B : Type 0} (spend : Spend) (w : Elements) (s : State) (f : Elements → Result B Cause) (c : Cause) (e : B) → f [] ≡ Err c → ((x : List ℕ) → f (x ∷ []) ≡ Err c) → f (entries_of spend w s) ≡ Ok e → IsMet spend w s → IsMet spend w (pop (pop s).1).1
pop_met-2 spend w s f c e none one some m =
    let m' : IsMet spend w (pop s).1 = pop_met spend w s f c e none some m in
    pop_met spend w (pop s).1 (λ st. f (item_for spend w (pop s).0 ∷ st)) c e (one (item_for spend w (pop s).0)) (sym (ap f (pop_entries spend w s m'.enough)) ∙ some) m'
