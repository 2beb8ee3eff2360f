-- Where a walk finds that each branch ends as in consensus, no run of consensus ends well.
use Rattle.std.proofs.Common.{◌≡◌, ℕ, zero, suc, ◌+◌, ◌-◌, Bool, true, false, not, ◌&&◌, ◌||◌, ◌==◌, List, [], ◌∷◌, length, reverse, Option, Some, None, sym, ap, ◌∙◌, subst, refl, arith}
use Rattle.std.specs.Prelude.{if◌then◌else◌, nat_le, All, IfOk, Result, Ok, Err}
use mathlib.Core.List.{reverse_aux}
use Rattle.std.specs.List.{list_any}
use Rattle.std.proofs.lemmas.List.Elements.{All-head, All-tail}
use Rattle.std.proofs.lemmas.Bool.{false≢true, true≢false, not-true, ne_eqb, ltb-false}
use Rattle.std.specs.declared.alloc.AllocError.{AllocError}
use Rattle.script.specs.declared.opcode.Op.{Op}
use Rattle.script.specs.declared.opcode.Op.TheVariants.{If, NotIf, Else, EndIf}
use Rattle.script.specs.declared.spending.Spend.{Spend}
use Rattle.script.specs.declared.limits.TheConstants.{MAX_OPS_PER_SCRIPT, MAX_STACK_SIZE, MAX_SCRIPT_ELEMENT_SIZE}
use Rattle.script.specs.Spelling.{IsOp}
use Rattle.script.specs.Step.{Elements, truth}
use Rattle.script.specs.Run.{is_long, op_count}
use Rattle.strictness.specs.Machine.{Oracle, Left, ◌>>=◌, only_if, State, runs, opened, ran, past, if_low, onward, is_clean_end, ends_well, effect, NobodySpends}
use Rattle.strictness.specs.Balance.{is_balanced}
use Rattle.strictness.specs.declared.branches.Mode.{Mode}
use Rattle.strictness.specs.declared.branches.Ends.{Ends}
use Rattle.strictness.specs.declared.branches.Mode.TheVariants.{Running, Skipping, Lost}
use Rattle.strictness.specs.Words.{Word, item, known, hashed, sized, answer, top_of, below, truth_of}
use Rattle.strictness.specs.Turns.{Step, next, stops, if_truth, turn_of}
use Rattle.strictness.specs.Exact.{by_step, is_exact, is_refused_end, ends_as_in_consensus}
use Rattle.strictness.proofs.Steps.{lost_exact}
use Rattle.strictness.proofs.Standing.{AreShort, Stands, Fits, popped, both_hold}
use Rattle.strictness.proofs.Following.{Follows, follows}

abbrev pub state : List Bool → Elements → ℕ → State
state branches stack counted = record { branches = branches; stack = stack; counted = counted }

-- the run does not end well from here on
abbrev pub Never : Option State → (State → Bool) → Type 0
Never None go = Unit {0}
Never (Some p) go = go p ≡ false

low : (o : Option State) (go : State → Bool) → Never o go → onward (o >>= if_low) go ≡ false
low None go n = refl
low (Some p) go n = by_height (nat_le (length p.stack) MAX_STACK_SIZE)
  where
    by_height : (b : Bool) → onward (only_if b (Some p)) go ≡ false
    by_height true = n
    by_height false = refl

pub limited : (b : Bool) (p : State) (f : State → Option State) (go : State → Bool) → Never (f p) go → onward ((only_if b (Some p) >>= f) >>= if_low) go ≡ false
limited true p f go n = low (f p) go n
limited false p f go n = refl

-- each open branch runs; the IFs say whether their ELSE has come
abbrev pub Runs : List Bool → List Bool → Type 0
Runs [] [] = Unit {0}
Runs (e ∷ ifs) (b ∷ branches) = (b ≡ true) × Runs ifs branches
Runs ifs branches = ⊥

-- of the open branches, one below this many others does not run, and those below that do; it has had its ELSE if the walk does not stop there
abbrev pub Skips : ℕ → Bool → List Bool → List Bool → Type 0
Skips zero to_else (e ∷ ifs) (b ∷ branches) = (b ≡ false) × (to_else ≡ false → e ≡ true) × Runs ifs branches
Skips (suc depth) to_else (e ∷ ifs) (b ∷ branches) = Skips depth to_else ifs branches
Skips depth to_else ifs branches = ⊥

abbrev pub IsPlace : Mode → List Bool → List Bool → Type 0
IsPlace Running ifs branches = Runs ifs branches
IsPlace (Skipping depth to_else) ifs branches = Skips depth to_else ifs branches
IsPlace Lost ifs branches = Unit {0}

pub runs_true : (ifs branches : List Bool) → Runs ifs branches → runs branches ≡ true
runs_true [] [] r = refl
runs_true (e ∷ ifs) (b ∷ branches) r = ap (λ (c : Bool). c && runs branches) r.0 ∙ runs_true ifs branches r.1
runs_true [] (b ∷ branches) r = absurd r
runs_true (e ∷ ifs) [] r = absurd r

pub and_false_right : (a b : Bool) → b ≡ false → (a && b) ≡ false
and_false_right true b e = e
and_false_right false b e = refl

pub runs_false : (depth : ℕ) (to_else : Bool) (ifs branches : List Bool) → Skips depth to_else ifs branches → runs branches ≡ false
runs_false zero t (e ∷ ifs) (b ∷ branches) r = ap (λ (c : Bool). c && runs branches) r.0
runs_false (suc d) t (e ∷ ifs) (b ∷ branches) r = and_false_right b (runs branches) (runs_false d t ifs branches r)
runs_false zero t [] branches r = absurd r
runs_false zero t (e ∷ ifs) [] r = absurd r
runs_false (suc d) t [] branches r = absurd r
runs_false (suc d) t (e ∷ ifs) [] r = absurd r

-- at the end
pub end_is : (branches : List Bool) (xs : Elements) (w : List Word) → is_refused_end w ≡ true → Fits w xs → is_clean_end branches xs ≡ false
end_is (b ∷ branches) xs w e f = refl
end_is [] [] w e f = refl
end_is [] (x ∷ y ∷ xs) w e f = refl
end_is [] (x ∷ []) [] e f = absurd (false≢true e)
end_is [] (x ∷ []) (known b ∷ []) e f = ap truth f.0.0 ∙ not-true (truth b) e
end_is [] (x ∷ []) (item ∷ []) e f = absurd (false≢true e)
end_is [] (x ∷ []) (hashed ∷ []) e f = absurd (false≢true e)
end_is [] (x ∷ []) (sized ∷ []) e f = absurd (false≢true e)
end_is [] (x ∷ []) (answer ∷ []) e f = absurd (false≢true e)
end_is [] (x ∷ []) (v ∷ u ∷ w) e f = absurd f.1

skipped_end : (branches : List Bool) (xs : Elements) → runs branches ≡ false → is_clean_end branches xs ≡ false
skipped_end [] xs e = absurd (true≢false e)
skipped_end (b ∷ branches) xs e = refl

-- an IF or NOTIF whose branch runs, or is skipped to its ELSE
abbrev pub mode_if : Bool → Mode
mode_if true = Running
mode_if false = Skipping 0 true

pub opened_place : (t : Bool) (ifs branches : List Bool) → Runs ifs branches → IsPlace (mode_if t) (false ∷ ifs) (t ∷ branches)
opened_place true ifs branches r = (refl, r)
opened_place false ifs branches r = (refl, (λ e. absurd (true≢false e)), r)

either_way : (go : Mode → List Word → Bool) (w : List Word) (t : Bool) → (go Running w && go (Skipping 0 true) w) ≡ true → go (mode_if t) w ≡ true
either_way go w true e = (both_hold (go Running w) (go (Skipping 0 true) w) e).0
either_way go w false e = (both_hold (go Running w) (go (Skipping 0 true) w) e).1

known_if : (go : Mode → List Word → Bool) (w : List Word) (t : Bool) → by_step go (if_truth true (Some t)) w ≡ true → go (mode_if t) w ≡ true
known_if go w true e = e
known_if go w false e = e

known_not_if : (go : Mode → List Word → Bool) (w : List Word) (t : Bool) → by_step go (if_truth false (Some t)) w ≡ true → go (mode_if (not t)) w ≡ true
known_not_if go w true e = e
known_not_if go w false e = e

if_is : (go : Mode → List Word → Bool) (w : List Word) (v : Word) (x : List ℕ) → Stands v x → by_step go (if_truth true (truth_of v)) w ≡ true → go (mode_if (truth x)) w ≡ true
if_is go w (known b) x p e = ap (λ (z : List ℕ). go (mode_if (truth z)) w) p.0 ∙ known_if go w (truth b) e
if_is go w item x p e = either_way go w (truth x) e
if_is go w hashed x p e = either_way go w (truth x) e
if_is go w sized x p e = either_way go w (truth x) e
if_is go w answer x p e = either_way go w (truth x) e

not_if_is : (go : Mode → List Word → Bool) (w : List Word) (v : Word) (x : List ℕ) → Stands v x → by_step go (if_truth false (truth_of v)) w ≡ true → go (mode_if (not (truth x))) w ≡ true
not_if_is go w (known b) x p e = ap (λ (z : List ℕ). go (mode_if (not (truth z))) w) p.0 ∙ known_not_if go w (truth b) e
not_if_is go w item x p e = either_way go w (not (truth x)) e
not_if_is go w hashed x p e = either_way go w (not (truth x)) e
not_if_is go w sized x p e = either_way go w (not (truth x)) e
not_if_is go w answer x p e = either_way go w (not (truth x)) e

pub opened_runs : (test : List ℕ → Bool) (r : Bool) (branches : List Bool) (xs : Elements) (c : ℕ) (w : List Word) (go : State → Bool) → r ≡ true → Fits w xs
    → ((x : List ℕ) (rest : Elements) → Stands (top_of w) x → Fits (below w) rest → go (state (test x ∷ branches) rest c) ≡ false) → Never (opened test r (state branches xs c)) go
opened_runs test false branches xs c w go e f h = absurd (false≢true e)
opened_runs test true branches [] c w go e f h = tt
opened_runs test true branches (x ∷ xs) c w go e f h = let p = popped w x xs f in h x xs p.0 p.1

pub opened_skips : (test : List ℕ → Bool) (r : Bool) (branches : List Bool) (xs : Elements) (c : ℕ) (go : State → Bool) → r ≡ false
    → go (state (false ∷ branches) xs c) ≡ false → Never (opened test r (state branches xs c)) go
opened_skips test true branches xs c go e h = absurd (true≢false e)
opened_skips test false branches xs c go e h = h

-- an opcode that opens, turns and closes no branch
ran_is : (go : Mode → List Word → Bool) (s : Step) (w : List Word) (o : Option Left) (branches : List Bool) (c : ℕ) (last : State → Bool) → Follows (s, w) o → by_step go s w ≡ true
    → ((xs : Elements) (n : ℕ) → go Running w ≡ true → Fits w xs → last (state branches xs (c + n)) ≡ false) → Never (o >>= λ l. Some (state branches l.0 (c + l.1))) last
ran_is go s w None branches c last f e h = tt
ran_is go next w (Some l) branches c last f e h = h l.0 l.1 e f
ran_is go stops w (Some l) branches c last f e h = absurd (false≢true e)
ran_is go s w (Some l) branches c last f e h = absurd f

pub ran_runs : (holds : Oracle) (s : Spend) (op : Op) (r : Bool) (branches : List Bool) (xs : Elements) (c : ℕ) (go : State → Bool) → r ≡ true
    → Never (effect holds s c op xs >>= λ l. Some (state branches l.0 (c + l.1))) go → Never (ran holds s op r (state branches xs c)) go
ran_runs holds s op true branches xs c go e n = n
ran_runs holds s op false branches xs c go e n = absurd (false≢true e)

pub ran_skips : (holds : Oracle) (s : Spend) (op : Op) (r : Bool) (p : State) (go : State → Bool) → r ≡ false → go p ≡ false → Never (ran holds s op r p) go
ran_skips holds s op true p go e n = absurd (true≢false e)
ran_skips holds s op false p go e n = n

next_op : (holds : Oracle) (s : Spend) (op : Op) (ops : List Op) (branches : List Bool) (xs : Elements) (c : ℕ) → Never (past holds s op (state branches xs (c + op_count op))) (ends_well holds s ops) → ends_well holds s (op ∷ ops) (state branches xs c) ≡ false
next_op holds s op ops branches xs c n = limited (nat_le (c + op_count op) MAX_OPS_PER_SCRIPT) (state branches xs (c + op_count op)) (past holds s op) (ends_well holds s ops) n

pub deeper : (d : ℕ) → suc d ≡ d + 1
deeper d = omega arith

pub not_zero : (d : ℕ) → (suc d == 0) ≡ false
not_zero d = ne_eqb (suc d) 0 (λ e. omega (arith, e))

module _ (holds : Oracle) (s : Spend) where
  pub never : (ops : List Op) (mode : Mode) (w : List Word) (ifs branches : List Bool) (xs : Elements) (c : ℕ) → All IsOp ops → is_balanced ops ifs ≡ true → is_exact ops mode w ≡ true
      → IsPlace mode ifs branches → Fits w xs → ends_well holds s ops (state branches xs c) ≡ false
  never [] Running w ifs branches xs c v b e pl f = end_is branches xs w e f
  never [] (Skipping d t) w ifs branches xs c v b e pl f = skipped_end branches xs (runs_false d t ifs branches pl)
  never [] Lost w ifs branches xs c v b e pl f = absurd (false≢true e)
  never (op ∷ ops) Lost w ifs branches xs c v b e pl f = absurd (false≢true (sym (lost_exact ops w) ∙ e))
  never (If ∷ ops) Running w ifs branches xs c v b e pl f = next_op holds s If ops branches xs c (
      opened_runs truth (runs branches) branches xs _ w (ends_well holds s ops) (runs_true ifs branches pl) f (λ x rest p g.
      never ops (mode_if (truth x)) (below w) (false ∷ ifs) (truth x ∷ branches) rest _ (All-tail IsOp If ops v) b (if_is (is_exact ops) (below w) (top_of w) x p e) (opened_place (truth x) ifs branches pl) g))
  never (NotIf ∷ ops) Running w ifs branches xs c v b e pl f = next_op holds s NotIf ops branches xs c (
      opened_runs (λ x. not (truth x)) (runs branches) branches xs _ w (ends_well holds s ops) (runs_true ifs branches pl) f (λ x rest p g.
      never ops (mode_if (not (truth x))) (below w) (false ∷ ifs) (not (truth x) ∷ branches) rest _ (All-tail IsOp NotIf ops v) b (not_if_is (is_exact ops) (below w) (top_of w) x p e) (opened_place (not (truth x)) ifs branches pl) g))
  never (Else ∷ ops) Running w [] branches xs c v b e pl f = absurd (false≢true b)
  never (Else ∷ ops) Running w (true ∷ ifs) branches xs c v b e pl f = absurd (false≢true b)
  never (Else ∷ ops) Running w (false ∷ ifs) [] xs c v b e pl f = absurd pl
  never (Else ∷ ops) Running w (false ∷ ifs) (t ∷ branches) xs c v b e pl f = next_op holds s Else ops (t ∷ branches) xs c (
      never ops (Skipping 0 false) w (true ∷ ifs) (not t ∷ branches) xs _ (All-tail IsOp Else ops v) b e (ap not pl.0, (λ h. refl), pl.1) f)
  never (EndIf ∷ ops) Running w [] branches xs c v b e pl f = absurd (false≢true b)
  never (EndIf ∷ ops) Running w (h ∷ ifs) [] xs c v b e pl f = absurd pl
  never (EndIf ∷ ops) Running w (h ∷ ifs) (t ∷ branches) xs c v b e pl f = next_op holds s EndIf ops (t ∷ branches) xs c (
      never ops Running w ifs branches xs _ (All-tail IsOp EndIf ops v) b e pl.1 f)
  never (op ∷ ops) Running w ifs branches xs c v b e pl f = next_op holds s op ops branches xs c (
      ran_runs holds s op (runs branches) branches xs _ (ends_well holds s ops) (runs_true ifs branches pl) (
      ran_is (is_exact ops) (turn_of op w).0 (turn_of op w).1 (effect holds s (c + op_count op) op xs) branches _ (ends_well holds s ops) (follows holds s (c + op_count op) op w xs (All-head IsOp op ops v) f) e (λ rest n e' f'.
      never ops Running (turn_of op w).1 ifs branches rest _ (All-tail IsOp op ops v) b e' pl f')))
  never (If ∷ ops) (Skipping d t) w ifs branches xs c v b e pl f = next_op holds s If ops branches xs c (
      opened_skips truth (runs branches) branches xs _ (ends_well holds s ops) (runs_false d t ifs branches pl) (
      never ops (Skipping (d + 1) t) w (false ∷ ifs) (false ∷ branches) xs _ (All-tail IsOp If ops v) b e (subst (λ (k : ℕ). Skips k t (false ∷ ifs) (false ∷ branches)) (deeper d) pl) f))
  never (NotIf ∷ ops) (Skipping d t) w ifs branches xs c v b e pl f = next_op holds s NotIf ops branches xs c (
      opened_skips (λ x. not (truth x)) (runs branches) branches xs _ (ends_well holds s ops) (runs_false d t ifs branches pl) (
      never ops (Skipping (d + 1) t) w (false ∷ ifs) (false ∷ branches) xs _ (All-tail IsOp NotIf ops v) b e (subst (λ (k : ℕ). Skips k t (false ∷ ifs) (false ∷ branches)) (deeper d) pl) f))
  never (Else ∷ ops) (Skipping d t) w [] branches xs c v b e pl f = absurd (false≢true b)
  never (Else ∷ ops) (Skipping d t) w (true ∷ ifs) branches xs c v b e pl f = absurd (false≢true b)
  never (Else ∷ ops) (Skipping zero t) w (false ∷ ifs) [] xs c v b e pl f = absurd pl
  never (Else ∷ ops) (Skipping zero false) w (false ∷ ifs) (u ∷ branches) xs c v b e pl f = absurd (false≢true (pl.1 refl))
  never (Else ∷ ops) (Skipping zero true) w (false ∷ ifs) (u ∷ branches) xs c v b e pl f = next_op holds s Else ops (u ∷ branches) xs c (
      never ops Running w (true ∷ ifs) (not u ∷ branches) xs _ (All-tail IsOp Else ops v) b e (ap not pl.0, pl.2) f)
  never (Else ∷ ops) (Skipping (suc d) t) w (false ∷ ifs) [] xs c v b e pl f = absurd pl
  never (Else ∷ ops) (Skipping (suc d) t) w (false ∷ ifs) (u ∷ branches) xs c v b e pl f = next_op holds s Else ops (u ∷ branches) xs c (
      never ops (Skipping (suc d) t) w (true ∷ ifs) (not u ∷ branches) xs _ (All-tail IsOp Else ops v) b (sym (ap (λ (z : Bool). is_exact ops (if z && t then Running else Skipping (suc d) t) w) (not_zero d)) ∙ e) pl f)
  never (EndIf ∷ ops) (Skipping d t) w [] branches xs c v b e pl f = absurd (false≢true b)
  never (EndIf ∷ ops) (Skipping zero t) w (h ∷ ifs) [] xs c v b e pl f = absurd pl
  never (EndIf ∷ ops) (Skipping zero t) w (h ∷ ifs) (u ∷ branches) xs c v b e pl f = next_op holds s EndIf ops (u ∷ branches) xs c (
      never ops Running w ifs branches xs _ (All-tail IsOp EndIf ops v) b e pl.2 f)
  never (EndIf ∷ ops) (Skipping (suc d) t) w (h ∷ ifs) [] xs c v b e pl f = absurd pl
  never (EndIf ∷ ops) (Skipping (suc d) t) w (h ∷ ifs) (u ∷ branches) xs c v b e pl f = next_op holds s EndIf ops (u ∷ branches) xs c (
      never ops (Skipping d t) w ifs branches xs _ (All-tail IsOp EndIf ops v) b (sym (shallower ops w d t) ∙ e) pl f)
    where
      shallower : (ops : List Op) (w : List Word) (d : ℕ) (t : Bool) → is_exact ops (if suc d == 0 then Running else Skipping (suc d - 1) t) w ≡ is_exact ops (Skipping d t) w
      shallower ops w d t = let k : suc d - 1 ≡ d = omega arith in ap (λ (z : Bool). is_exact ops (if z then Running else Skipping (suc d - 1) t) w) (not_zero d) ∙ ap (λ (n : ℕ). is_exact ops (Skipping n t) w) k
  never (op ∷ ops) (Skipping d t) w ifs branches xs c v b e pl f = next_op holds s op ops branches xs c (
      ran_skips holds s op (runs branches) (state branches xs (c + op_count op)) (ends_well holds s ops) (runs_false d t ifs branches pl) (
      never ops (Skipping d t) w ifs branches xs _ (All-tail IsOp op ops v) b e pl f))

-- the items of a witness, from the top
neither : (a b : Bool) → (a || b) ≡ false → (a ≡ false) × (b ≡ false)
neither true b e = absurd (true≢false e)
neither false b e = (refl, e)

short_onto : (witness below : List (List ℕ)) → list_any is_long witness ≡ false → AreShort below → AreShort (reverse_aux witness below)
short_onto [] below e a = a
short_onto (x ∷ witness) below e a = let n = neither (is_long x) (list_any is_long witness) e in short_onto witness (x ∷ below) n.1 (ltb-false MAX_SCRIPT_ELEMENT_SIZE (length x) n.0, a)

pub short_items : (witness : List (List ℕ)) → list_any is_long witness ≡ false → AreShort (reverse witness)
short_items witness e = short_onto witness [] e tt

pub nobody : (ops : List Op) → All IsOp ops → is_balanced ops [] ≡ true → ends_as_in_consensus ops ≡ true → NobodySpends ops
nobody ops v b e holds s witness = by_length (list_any is_long witness) refl
  where
    by_length : (l : Bool) → list_any is_long witness ≡ l → (not l && ends_well holds s ops (state [] (reverse witness) 0)) ≡ false
    by_length true t = refl
    by_length false t = never holds s ops Running [] [] [] (reverse witness) 0 v b e tt (short_items witness t)

-- what a walk promises
pub promised : (r : Result Ends AllocError) (ops : List Op) → IfOk r (λ ends. ends.is_exact ≡ true → ends_as_in_consensus ops ≡ true) → IfOk r (λ ends. ends.is_exact ≡ true → All IsOp ops → is_balanced ops [] ≡ true → NobodySpends ops)
promised (Ok found) ops h = λ t v b. nobody ops v b (h t)
promised (Err e) ops h = tt
