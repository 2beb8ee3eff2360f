-- A walk over some constants, and the walk over those that stand in their place.
use Rattle.std.proofs.Common.{◌≡◌, ℕ, zero, suc, ◌+◌, ◌-◌, max, Bool, true, false, not, List, [], ◌∷◌, ◌++◌, map, Result, Ok, Err, sym, ap, subst, ◌∙◌, refl, ◌⊎◌, inl, inr}
use Rattle.std.specs.Prelude.{nat_lt}
use Rattle.std.proofs.lemmas.List.{map-append, length-map}
use Rattle.script.specs.declared.opcode.Op.{Op}
use Rattle.script.specs.declared.opcode.Op.TheVariants.{If, NotIf, Else, EndIf}
use Rattle.script.specs.Step.{◌>>=◌, result_if}
use Rattle.script.specs.Run.{skip_length, open_ifs_after, op_count}
use Rattle.facts.specs.declared.symbols.SymOver.{SymOver}
use Rattle.paths.specs.declared.errors.CheckError.{CheckError}
use Rattle.paths.specs.declared.errors.CheckError.TheVariants.{NoMemory as OutOfMemory, OpenBranch, TooManyOps as TooMany, Undecided as NoRule, TooManyPaths, TooTall}
use Rattle.paths.specs.declared.state.StateOver.{StateOver}
use Rattle.paths.specs.declared.state.Halt.{Halt}
use Rattle.paths.specs.declared.state.Halt.TheVariants.{NoMemory, Dead, Undecided, TooManyOps}
use Rattle.paths.specs.declared.state.SymbolicJumpOver.{SymbolicJumpOver}
use Rattle.paths.specs.declared.state.SymbolicJumpOver.TheVariants.{Next, AfterElse, AfterEndIf, Splits}
use Rattle.paths.specs.declared.state.ListedOver.{ListedOver}
use Rattle.paths.specs.Table.{pop, ask}
use Rattle.paths.specs.Walk.{Guide, refusal_at, with_excess, is_low, ahead_by, states_after_jump, states_after_rule, states_after, path_at_end, end_of, paths_at_end, with_paths, begins, walk_along, walk, walk_all, beginning}
use Rattle.paths.specs.Maps.{Replacing, in_fact, in_sym, in_state, in_jump, in_condition}
use Rattle.paths.proofs.MapWords.{Agrees, Stands, halts, agrees_then}
use Rattle.paths.proofs.MapRules.{in_step, popped, ask-replaced, insist_agrees}

-- a refusal stands; where no rule decides, it stands only where all must agree
abbrev pub Refuses : {B : Type 0} → Bool → CheckError → Result B CheckError → Type 0
Refuses true e r = r ≡ Err e
Refuses false (NoRule at) r = Unit {0}
Refuses false OutOfMemory r = r ≡ Err OutOfMemory
Refuses false OpenBranch r = r ≡ Err OpenBranch
Refuses false TooMany r = r ≡ Err TooMany
Refuses false TooManyPaths r = r ≡ Err TooManyPaths
Refuses false TooTall r = r ≡ Err TooTall

-- the second listing is the first one's
abbrev pub Follows : {A B : Type 0} → Bool → (A → B) → Result A CheckError → Result B CheckError → Type 0
Follows exact f (Ok x) r = r ≡ Ok (f x)
Follows exact f (Err e) r = Refuses exact e r

pub refuses : {B : Type 0} (exact : Bool) (e : CheckError) (r : Result B CheckError) → r ≡ Err e → Refuses exact e r
refuses true e r h = h
refuses false (NoRule at) r h = tt
refuses false OutOfMemory r h = h
refuses false OpenBranch r h = h
refuses false TooMany r h = h
refuses false TooManyPaths r h = h
refuses false TooTall r h = h

-- a refusal goes through whatever keeps refusals
pub refuses_on : {A B : Type 0} (exact : Bool) (e : CheckError) (r : Result A CheckError) (k : Result A CheckError → Result B CheckError) → ((c : CheckError) → k (Err c) ≡ Err c) → Refuses exact e r → Refuses exact e (k r)
refuses_on true e r k n h = ap k h ∙ n e
refuses_on false (NoRule at) r k n h = tt
refuses_on false OutOfMemory r k n h = ap k h ∙ n OutOfMemory
refuses_on false OpenBranch r k n h = ap k h ∙ n OpenBranch
refuses_on false TooMany r k n h = ap k h ∙ n TooMany
refuses_on false TooManyPaths r k n h = ap k h ∙ n TooManyPaths
refuses_on false TooTall r k n h = ap k h ∙ n TooTall

pub follows_then : {A A' B B' : Type 0} (exact : Bool) (f : A → A') (g : B → B') (r : Result A CheckError) (r' : Result A' CheckError) (k : A → Result B CheckError) (k' : A' → Result B' CheckError) → Follows exact f r r' → ((x : A) → Follows exact g (k x) (k' (f x))) → Follows exact g (r >>= k) (r' >>= k')
follows_then exact f g (Ok x) r' k k' e h = subst (λ v. Follows exact g (k x) (v >>= k')) (sym e) (h x)
follows_then exact f g (Err c) r' k k' e h = refuses_on exact c r' (λ v. v >>= k') (λ d. refl) e

pub follows_if : {A B : Type 0} (exact : Bool) (f : A → B) (b b' : Bool) (e : CheckError) (r : Result A CheckError) (r' : Result B CheckError) → b ≡ b' → Follows exact f r r' → Follows exact f (result_if b e r) (result_if b' e r')
follows_if exact f true b' e r r' h a = subst (λ v. Follows exact f r (result_if v e r')) h a
follows_if {A} {B} exact f false b' e r r' h a = subst (λ v. Refuses {B = B} exact e (result_if v e r')) h (refuses exact e (Err e) refl)

-- a halt at an opcode stands, or the refusal
pub refusal_follows : {A B S : Type 0} (exact : Bool) (f : A → B) (none : A) (none' : B) (at : ℕ) (h : Halt) (at_halt : Result S Halt) (k : Result S Halt → Result B CheckError) → f none ≡ none' → ((c : Halt) → k (Err c) ≡ refusal_at at none' c) → Stands exact h at_halt → Follows exact f (refusal_at at none h) (k at_halt)
refusal_follows true f none none' at NoMemory r k e n s = ap k s ∙ n NoMemory
refusal_follows true f none none' at Dead r k e n s = ap k s ∙ n Dead ∙ ap Ok (sym e)
refusal_follows true f none none' at Undecided r k e n s = ap k s ∙ n Undecided
refusal_follows true f none none' at TooManyOps r k e n s = ap k s ∙ n TooManyOps
refusal_follows false f none none' at NoMemory r k e n s = ap k s ∙ n NoMemory
refusal_follows false f none none' at Dead r k e n s = ap k s ∙ n Dead ∙ ap Ok (sym e)
refusal_follows false f none none' at Undecided r k e n s = tt
refusal_follows false f none none' at TooManyOps r k e n s = ap k s ∙ n TooManyOps

-- an opcode that pushes, and does nothing else
pub record IsPush (op : Op) : Type 0 where
  pub skips : (stop : Bool) (depth : ℕ) (rest : List Op) → skip_length stop depth (op ∷ rest) ≡ suc (skip_length stop depth rest)
  pub opens : (ifs : List Bool) → open_ifs_after op ifs ≡ Ok ifs
  pub weighs : op_count op ≡ 0

-- two opcodes are the same, or both push
abbrev pub IsSame : Op → Op → Type 0
IsSame op op' = (op ≡ op') ⊎ (IsPush op × IsPush op')

skip_on : (op : Op) (stop : Bool) (depth : ℕ) (rest rest' : List Op) → ((stop : Bool) (depth : ℕ) → skip_length stop depth rest ≡ skip_length stop depth rest') → skip_length stop depth (op ∷ rest) ≡ skip_length stop depth (op ∷ rest')
skip_on If stop depth rest rest' h = ap suc (h stop (suc depth))
skip_on NotIf stop depth rest rest' h = ap suc (h stop (suc depth))
skip_on EndIf stop zero rest rest' h = refl
skip_on EndIf stop (suc depth) rest rest' h = ap suc (h stop depth)
skip_on Else true zero rest rest' h = refl
skip_on Else true (suc depth) rest rest' h = ap suc (h true (suc depth))
skip_on op stop depth rest rest' h = ap suc (h stop depth)

same_skips : (op op' : Op) (rest rest' : List Op) → IsSame op op' → ((stop : Bool) (depth : ℕ) → skip_length stop depth rest ≡ skip_length stop depth rest') → (stop : Bool) (depth : ℕ) → skip_length stop depth (op ∷ rest) ≡ skip_length stop depth (op' ∷ rest')
same_skips op op' rest rest' (inl e) h stop depth = skip_on op stop depth rest rest' h ∙ ap (λ o. skip_length stop depth (o ∷ rest')) e
same_skips op op' rest rest' (inr p) h stop depth = p.0.skips stop depth rest ∙ ap suc (h stop depth) ∙ sym (p.1.skips stop depth rest')

module _ {C L A P C' L' A' P' : Type 0} (exact : Bool) (m : Replacing C L A C' L' A') (f : P → P') (g : Guide C L A P) (g' : Guide C' L' A' P') (counted : ℕ) where
  -- the guides agree on ends
  pub record EndsAlike : Type 0 where
    pub condition : (x : SymOver C L A) → Agrees exact (in_condition m) (g.condition x) (g'.condition (in_sym m x))
    pub path : (s : StateOver C L A) → g'.path counted (in_state m s) ≡ f (g.path counted s)

  -- and on opcodes, one by one
  abbrev pub Alike : ℕ → List Op → List Op → Type 0
  Alike at [] [] = Unit {0}
  Alike at (op ∷ ops) (op' ∷ ops') = IsSame op op' × ((s : StateOver C L A) → Agrees exact (in_step m) (g.rule counted at op s) (g'.rule counted at op' (in_state m s))) × Alike (at + 1) ops ops'
  Alike at ops ops' = ⊥

  alike_skips : (at : ℕ) (ops ops' : List Op) → Alike at ops ops' → (stop : Bool) (depth : ℕ) → skip_length stop depth ops ≡ skip_length stop depth ops'
  alike_skips at [] [] a stop depth = refl
  alike_skips at [] (op' ∷ ops') a stop depth = absurd a
  alike_skips at (op ∷ ops) [] a stop depth = absurd a
  alike_skips at (op ∷ ops) (op' ∷ ops') a stop depth = same_skips op op' ops ops' a.0 (alike_skips (at + 1) ops ops' a.2) stop depth

  excess-replaced : (s : StateOver C L A) → with_excess (in_state m s) ≡ in_state m (with_excess s)
  excess-replaced s = ap {A = ℕ} {B = StateOver C' L' A'} (λ n. record (in_state m s) { excess = max s.excess (n - s.slots) }) (length-map s.stack (in_sym m))

  jumps-replaced : (turn : SymbolicJumpOver C L A) (rest rest' : List Op) (s : StateOver C L A) → ((stop : Bool) (depth : ℕ) → skip_length stop depth rest ≡ skip_length stop depth rest') → states_after_jump (in_jump m turn) rest' (in_state m s) ≡ map (in_state m) (states_after_jump turn rest s)
  jumps-replaced Next rest rest' s h = refl
  jumps-replaced AfterElse rest rest' s h = ap (λ n. ahead_by n (in_state m s) ∷ []) (sym (h true 0))
  jumps-replaced AfterEndIf rest rest' s h = ap (λ n. ahead_by n (in_state m s) ∷ []) (sym (h false 0))
  jumps-replaced (Splits fact first) rest rest' s h =
      ap (λ t. t ∷ ahead_by (skip_length true 0 rest') (ask (in_fact m fact) (not first) (in_state m s)) ∷ []) (ask-replaced m fact first s)
      ∙ ap (λ t. in_state m (ask fact first s) ∷ ahead_by (skip_length true 0 rest') t ∷ []) (ask-replaced m fact (not first) s)
      ∙ ap (λ n. in_state m (ask fact first s) ∷ ahead_by n (in_state m (ask fact (not first) s)) ∷ []) (sym (h true 0))

  after_rule : (at : ℕ) (rest rest' : List Op) (r : Result (SymbolicJumpOver C L A × StateOver C L A) Halt) (r' : Result (SymbolicJumpOver C' L' A' × StateOver C' L' A') Halt) → ((stop : Bool) (depth : ℕ) → skip_length stop depth rest ≡ skip_length stop depth rest') → Agrees exact (in_step m) r r' → Follows exact (map (in_state m)) (states_after_rule at rest r) (states_after_rule at rest' r')
  after_rule at rest rest' (Ok (turn, s)) r' h a =
      subst (λ v. Follows exact (map (in_state m)) (states_after_rule at rest (Ok (turn, s))) (states_after_rule at rest' v)) (sym a) (
      subst (λ (t : StateOver C' L' A'). Follows exact (map (in_state m)) (states_after_rule at rest (Ok (turn, s))) (result_if (is_low t) TooTall (Ok (states_after_jump (in_jump m turn) rest' t)))) (sym (excess-replaced s)) (
      follows_if exact (map (in_state m)) (is_low (with_excess s)) (is_low (with_excess s)) TooTall (Ok (states_after_jump turn rest (with_excess s))) (Ok (states_after_jump (in_jump m turn) rest' (in_state m (with_excess s)))) refl (ap Ok (jumps-replaced turn rest rest' (with_excess s) h))))
  after_rule at rest rest' (Err c) r' h a = refusal_follows exact (map (in_state m)) [] [] at c r' (states_after_rule at rest') refl (λ d. refl) a

  after : (at : ℕ) (op op' : Op) (rest rest' : List Op) (s : StateOver C L A) (n : ℕ) → ((stop : Bool) (depth : ℕ) → skip_length stop depth rest ≡ skip_length stop depth rest') → Agrees exact (in_step m) (g.rule counted at op s) (g'.rule counted at op' (in_state m s)) → Follows exact (map (in_state m)) (states_after g counted at op rest s n) (states_after g' counted at op' rest' (in_state m s) n)
  after at op op' rest rest' s (suc n) h a = refl
  after at op op' rest rest' s zero h a = after_rule at rest rest' (g.rule counted at op s) (g'.rule counted at op' (in_state m s)) h a

  abbrev in_listed : ListedOver P → ListedOver P'
  in_listed l = record { begun = l.begun; paths = map f l.paths }

  end_agrees : EndsAlike → (stack : List (SymOver C L A)) (x : SymOver C L A) (s : StateOver C L A) → Agrees exact (in_state m) (end_of g stack x s) (end_of g' (map (in_sym m) stack) (in_sym m x) (in_state m s))
  end_agrees a [] x s = agrees_then exact (in_condition m) (in_state m) (g.condition x) (g'.condition (in_sym m x)) _ _ (a.condition x) (λ c. insist_agrees m exact c s)
  end_agrees a (y ∷ ys) x s = halts exact Dead (Err Dead) refl

  at_end : EndsAlike → (at : ℕ) (r : Result (StateOver C L A) Halt) (r' : Result (StateOver C' L' A') Halt) → Agrees exact (in_state m) r r' → Follows exact (map f) (path_at_end g counted at r) (path_at_end g' counted at r')
  at_end a at (Ok s) r' e =
      subst (λ v. Follows exact (map f) (path_at_end g counted at (Ok s)) (path_at_end g' counted at v)) (sym e) (
      follows_if exact (map f) (is_low s) (is_low s) TooTall (Ok (g.path counted s ∷ [])) (Ok (g'.path counted (in_state m s) ∷ [])) refl (ap (λ p. Ok (p ∷ [])) (a.path s)))
  at_end a at (Err c) r' e = refusal_follows exact (map f) [] [] at c r' (path_at_end g' counted at) refl (λ d. refl) e

  ends : EndsAlike → (at : ℕ) (s : StateOver C L A) → Follows exact (map f) (paths_at_end g counted at s) (paths_at_end g' counted at (in_state m s))
  ends a at s =
      popped m (λ x t. Follows exact (map f) (paths_at_end g counted at s) (path_at_end g' counted at (end_of g' t.stack x t))) s (
      at_end a at (end_of g (pop s).1.stack (pop s).0 (pop s).1) (end_of g' (map (in_sym m) (pop s).1.stack) (in_sym m (pop s).0) (in_state m (pop s).1)) (end_agrees a (pop s).1.stack (pop s).0 (pop s).1))

  listed : (l : ListedOver P) (r : Result (List P) CheckError) (r' : Result (List P') CheckError) → Follows exact (map f) r r' → Follows exact in_listed (with_paths l r) (with_paths (in_listed l) r')
  listed l (Ok paths) r' e = subst (λ v. with_paths (in_listed l) v ≡ Ok (in_listed (record l { paths = l.paths ++ paths }))) (sym e) (ap {A = List P'} {B = Result (ListedOver P') CheckError} (λ ps. Ok (record (in_listed l) { paths = ps })) (sym (map-append f l.paths paths)))
  listed l (Err c) r' e = refuses_on exact c r' (with_paths (in_listed l)) (λ d. refl) e

  begun : (l : ListedOver P) → Follows exact in_listed (begins l) (begins (in_listed l))
  begun l = follows_if exact in_listed (nat_lt l.begun 64) (nat_lt l.begun 64) TooManyPaths (Ok (record l { begun = l.begun + 1 })) (Ok (record (in_listed l) { begun = l.begun + 1 })) refl refl

  along : (go : StateOver C L A → ListedOver P → Result (ListedOver P) CheckError) (go' : StateOver C' L' A' → ListedOver P' → Result (ListedOver P') CheckError) → ((s : StateOver C L A) (l : ListedOver P) → Follows exact in_listed (go s l) (go' (in_state m s) (in_listed l))) → (r : Result (List (StateOver C L A)) CheckError) (r' : Result (List (StateOver C' L' A')) CheckError) (l : ListedOver P) → Follows exact (map (in_state m)) r r' → Follows exact in_listed (walk_along go r l) (walk_along go' r' (in_listed l))
  along go go' h (Err c) r' l e = refuses_on exact c r' (λ v. walk_along go' v (in_listed l)) (λ d. refl) e
  along go go' h (Ok []) r' l e = subst (λ v. walk_along go' v (in_listed l) ≡ Ok (in_listed l)) (sym e) refl
  along go go' h (Ok (s ∷ [])) r' l e = subst (λ v. Follows exact in_listed (go s l) (walk_along go' v (in_listed l))) (sym e) (h s l)
  along go go' h (Ok (s ∷ t ∷ ways)) r' l e =
      subst (λ v. Follows exact in_listed (walk_along go (Ok (s ∷ t ∷ ways)) l) (walk_along go' v (in_listed l))) (sym e) (
      follows_then exact in_listed in_listed (go s l) (go' (in_state m s) (in_listed l)) (λ k. begins k >>= go t) (λ k. begins k >>= go' (in_state m t)) (h s l) (λ k.
      follows_then exact in_listed in_listed (begins k) (begins (in_listed k)) (go t) (go' (in_state m t)) (begun k) (h t)))

  pub walk_follows : EndsAlike → (at : ℕ) (ops ops' : List Op) (s : StateOver C L A) (l : ListedOver P) → Alike at ops ops' → Follows exact in_listed (walk g counted at ops s l) (walk g' counted at ops' (in_state m s) (in_listed l))
  walk_follows a at [] [] s l e = listed l (paths_at_end g counted at s) (paths_at_end g' counted at (in_state m s)) (ends a at s)
  walk_follows a at [] (op' ∷ ops') s l e = absurd e
  walk_follows a at (op ∷ ops) [] s l e = absurd e
  walk_follows a at (op ∷ ops) (op' ∷ ops') s l e =
      along (walk g counted (at + 1) ops) (walk g' counted (at + 1) ops') (λ t k. walk_follows a (at + 1) ops ops' t k e.2) (states_after g counted at op ops s s.ahead) (states_after g' counted at op' ops' (in_state m s) s.ahead) l
      (after at op op' ops ops' s s.ahead (alike_skips (at + 1) ops ops' e.2) (e.1 s))

  pub walk_all-follows : EndsAlike → (ops ops' : List Op) → Alike 0 ops ops' → Follows exact (map f) (walk_all g counted ops) (walk_all g' counted ops')
  walk_all-follows a ops ops' e = follows_then exact in_listed (map f) (walk g counted 0 ops beginning (record { begun = 1; paths = [] })) (walk g' counted 0 ops' beginning (record { begun = 1; paths = [] })) (λ l. Ok l.paths) (λ l. Ok l.paths) (walk_follows a 0 ops ops' beginning (record { begun = 1; paths = [] }) e) (λ l. refl)
