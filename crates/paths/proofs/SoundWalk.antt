-- From one opcode to all paths of a script.
use Rattle.std.proofs.Common.{◌≡◌, ℕ, zero, suc, ◌+◌, ◌-◌, ◌≤◌, max, Bool, true, false, not, nat_le, nat_lt, leb, List, [], ◌∷◌, ◌++◌, length, map, drop, reverse, Result, Ok, Err, if◌then◌else◌, All, le-leb, leb-true, length-append, length-drop, add-zero, sym, ap, ◌∙◌, refl, arith}
use Rattle.std.specs.List.{list_any}
use Rattle.std.proofs.Math.Seq.{drop-length}
use Rattle.std.proofs.lemmas.List.{length-map, length-reverse}
use Rattle.std.proofs.lemmas.Bool.{or_parts, ltb-false, true≢false}
use Rattle.std.proofs.lemmas.List.Sorted.{list_any-IsPermutation, IsPermutation-reverse}
use Rattle.std.proofs.lemmas.List.Elements.{All-nil, All-cons, All-append, All-head, All-tail}
use Rattle.script.specs.declared.opcode.Op.{Op}
use Rattle.script.specs.declared.spending.Spend.{Spend}
use Rattle.script.specs.declared.stops.Cause.{Cause}
use Rattle.script.specs.declared.stops.Cause.TheVariants.{TooManyOps as ManyCounted, StackTooTall, ItemTooLong, FalseEnd}
use Rattle.script.specs.declared.jumps.Jump.TheVariants.{Next as ToNext, AfterElse as ToElse}
use Rattle.script.specs.Step.{Elements, truth, ◌>>=◌}
use Rattle.script.specs.Run.{RunState, op_count, counted_in, skip_length, jump_length, open_ifs_after, state_after_effect, state_after_skip_or_run, state_after, Clean, Stopped, at_end, onward, outcome_from, start, is_long}
use Rattle.facts.specs.Symbols.{Stated}
use Rattle.facts.specs.Symbols.{Sym}
use Rattle.facts.specs.Meaning.{item_for, holds_of, AllStated}
use Rattle.paths.specs.declared.errors.CheckError.{CheckError}
use Rattle.paths.specs.declared.errors.CheckError.TheVariants.{OpenBranch, TooManyOps as TooMany, TooManyPaths, TooTall}
use Rattle.paths.specs.Plain.{State}
use Rattle.paths.specs.declared.state.Halt.{Halt}
use Rattle.paths.specs.declared.state.Halt.TheVariants.{NoMemory, Dead, Undecided, TooManyOps}
use Rattle.paths.specs.Plain.{SymbolicJump}
use Rattle.paths.specs.declared.state.SymbolicJumpOver.TheVariants.{Next, AfterElse, AfterEndIf, Splits}
use Rattle.paths.specs.Plain.{Condition}
use Rattle.paths.specs.declared.state.Path.{Path}
use Rattle.paths.specs.Plain.{Listed}
use Rattle.paths.specs.Rules.{pop, ask, condition_of, insist, rule_of}
use Rattle.paths.specs.Listing.{balanced_with, is_balanced, with_excess, is_low, ahead_by, states_after_jump, refusal_at, states_after_rule, states_after, path_of, path_at_end, end_of, paths_at_end, with_paths, begins, walk_along, walk, beginning, listing}
use Rattle.paths.specs.Sound.{IsSound}
use Rattle.paths.proofs.SoundWords.{Gives, entries_of, IsShort, move_by, Grows, Follows, run_state_of, Fits, Comes}
use Rattle.paths.proofs.SoundPops.{gives_then, gives_map, gives_result_if, result_if-true, stated_parts, pop_grows, asks_grows, grows_trans, pop_entries}
use Rattle.paths.proofs.SoundRules.{FollowsTo, IsDecided, condition_good, Insists, insist_good}
use Rattle.paths.proofs.SoundFollowed.{rule_of-sound}

-- past one opcode of the list
past_open : (spend : Spend) (op : Op) (rest : List Op) (p : RunState) (ifs : List Bool) → p.counted + op_count op ≤ 201 → open_ifs_after op p.open_ifs ≡ Ok ifs → state_after spend op rest p ≡ state_after_skip_or_run spend op rest p.ahead p (p.counted + op_count op) ifs
unfolding state_after
past_open spend op rest p ifs l e =
    result_if-true (leb (p.counted + op_count op) 201) ManyCounted _ (le-leb _ 201 l)
    ∙ ap (λ o. o >>= state_after_skip_or_run spend op rest p.ahead p (p.counted + op_count op)) e

-- the list is satisfied so
balanced_step : (r : Result (List Bool) Cause) (go : List Bool → Bool) → balanced_with r go ≡ true → (ifs : List Bool) × (r ≡ Ok ifs) × (go ifs ≡ true)
balanced_step (Ok ifs) go e = (ifs, refl, e)
balanced_step (Err c) go e = absurd (true≢false (sym e))

pub balanced_end : (ifs : List Bool) → is_balanced [] ifs ≡ true → ifs ≡ []
balanced_end [] e = refl
balanced_end (b ∷ ifs) e = absurd (true≢false (sym e))

-- the number of elements, against that of the witness
pub length_entries : (spend : Spend) (w : Elements) (s : State) → s.slots ≤ length w → length (entries_of spend w s) + s.slots ≡ length s.stack + length w
length_entries spend w s l = omega (arith, length-append (map (item_for spend w) s.stack) (drop s.slots w), length-map s.stack (item_for spend w), length-drop s.slots w)

same_place : (n n' : ℕ) (stack : Elements) (c c' : ℕ) (ifs : List Bool) (h h' : ℕ) → n ≡ n' → c ≡ c' → h ≡ h' → ◌≡◌ {A = Result RunState Cause} (Ok (record { ahead = n; stack = stack; counted = c; open_ifs = ifs; height = h })) (Ok (record { ahead = n'; stack = stack; counted = c'; open_ifs = ifs; height = h' }))
same_place n n' stack c c' ifs h h' e f g = rw (e, f, g) refl

pub summed : (a b c d : ℕ) → a + (b + c) ≡ d → a + b + c ≡ d
summed a b c d e = omega arith

below : (a k b c d : ℕ) → a + (b + c) ≡ d → d + k ≤ 201 → a + k + b ≤ 201
below a k b c d e l = omega arith

pub turned : (a k b : ℕ) → a + k + b ≡ a + b + k
turned a k b = omega arith

-- jumped over
comes_jump : (ops : List Op) (at : ℕ) (op : Op) (rest : List Op) (s : State) (n : ℕ) → s.ahead ≡ suc n → Comes ops at (op ∷ rest) s → Comes ops (at + 1) rest (ahead_by n s)
comes_jump ops at op rest s n z c =
    let b = balanced_step (open_ifs_after op c.ifs) (is_balanced rest) c.balanced in
    let t : c.before + (op_count op + counted_in rest) ≡ counted_in ops = c.total in
    let f : counted_in ops + s.keys ≤ 201 = c.few in
    record {
      ifs = b.0;
      balanced = b.2;
      before = c.before + op_count op;
      total = summed c.before (op_count op) (counted_in rest) (counted_in ops) t;
      few = c.few;
      reached = λ spend w m.
          c.reached spend w (record { enough = m.enough; facts = m.facts; low = m.low; short = m.short })
          ∙ ap (λ r. onward at r (outcome_from spend (at + 1) rest)) (
          past_open spend op rest (run_state_of spend w c.before c.ifs s) b.0 (below c.before s.keys (op_count op) (counted_in rest) (counted_in ops) t f) b.1
          ∙ ap (λ a. state_after_skip_or_run spend op rest a (run_state_of spend w c.before c.ifs s) (c.before + s.keys + op_count op) b.0) z
          ∙ same_place n n (entries_of spend w s) _ _ b.0 _ _ refl (turned c.before s.keys (op_count op)) refl);
    }

-- where a run goes with these facts
abbrev pub run_to : ℕ → List Stated → State → State
run_to n facts s = record { ahead = n; stack = s.stack; slots = s.slots; facts = facts; keys = s.keys; excess = max s.excess (length s.stack - s.slots) }

pub above : (a k b c d : ℕ) → a + (b + c) ≡ d → a + k + b ≤ d + k
above a k b c d e = omega arith

pub counts : (a k b u k' : ℕ) → k' ≡ k + u → a + k + b + u ≡ a + b + k'
counts a k b u k' e = omega arith

-- run
comes_run : (ops : List Op) (at : ℕ) (op : Op) (rest : List Op) (s : State) (turn : SymbolicJump) (s' : State) (n : ℕ) (facts : List Stated) → s.ahead ≡ 0 → Follows (counted_in ops) op s turn s' → ((spend : Spend) (w : Elements) → AllStated spend w facts → AllStated spend w s'.facts × (jump_length (move_by spend w turn) rest ≡ n)) → Comes ops at (op ∷ rest) s → Comes ops (at + 1) rest (run_to n facts s')
comes_run ops at op rest s turn s' n facts z f h c =
    let b = balanced_step (open_ifs_after op c.ifs) (is_balanced rest) c.balanced in
    let t : c.before + (op_count op + counted_in rest) ≡ counted_in ops = c.total in
    let few : counted_in ops + s.keys ≤ 201 = c.few in
    record {
      ifs = b.0;
      balanced = b.2;
      before = c.before + op_count op;
      total = summed c.before (op_count op) (counted_in rest) (counted_in ops) t;
      few = f.few c.few;
      reached = λ spend w m.
          c.reached spend w (fits spend w m)
          ∙ ap (λ r. onward at r (outcome_from spend (at + 1) rest)) (
          past_open spend op rest (run_state_of spend w c.before c.ifs s) b.0 (below c.before s.keys (op_count op) (counted_in rest) (counted_in ops) t few) b.1
          ∙ ap (λ a. state_after_skip_or_run spend op rest a (run_state_of spend w c.before c.ifs s) (c.before + s.keys + op_count op) b.0) z
          ∙ ap (λ x. x >>= state_after_effect rest (c.before + s.keys + op_count op) b.0 (length w + s.excess)) (f.step spend w (c.before + s.keys + op_count op) (above c.before s.keys (op_count op) (counted_in rest) (counted_in ops) t) m.short m.enough (h spend w m.facts).0)
          ∙ settled_so spend w b.0 m (c.before + s.keys + op_count op) (c.before + op_count op + s'.keys) (counts c.before s.keys (op_count op) f.used s'.keys f.keys));
    }
  where
    fits : (spend : Spend) (w : Elements) → Fits spend w (run_to n facts s') → Fits spend w s
    fits spend w m =
        let e = f.excess in let l = m.low in let k = f.more in let en = m.enough in
        record { enough = omega arith; facts = f.facts spend w (h spend w m.facts).0; low = omega arith; short = m.short }

    settled_so : (spend : Spend) (w : Elements) (ifs : List Bool) → Fits spend w (run_to n facts s') → (k k' : ℕ) → k + f.used ≡ k' → state_after_effect rest k ifs (length w + s.excess) (record { jump = move_by spend w turn; stack = entries_of spend w s'; keys = f.used }) ≡ Ok (record { ahead = n; stack = entries_of spend w s'; counted = k'; open_ifs = ifs; height = length w + max s'.excess (length s'.stack - s'.slots) })
    settled_so spend w ifs m k k' e =
        let x = f.excess in let l = m.low in let en = m.enough in
        let long = length_entries spend w s' m.enough in
        result_if-true (leb (length (entries_of spend w s')) 1000) StackTooTall _ (le-leb _ 1000 (omega arith))
        ∙ same_place _ n (entries_of spend w s') _ k' ifs _ _ (h spend w m.facts).1 e (omega arith)

pub same_runs : (t runs : Bool) → t ≡ runs → (if t then runs else not runs) ≡ true
same_runs true true e = refl
same_runs true false e = sym e
same_runs false true e = e
same_runs false false e = refl

pub other_runs : (t runs : Bool) → t ≡ not runs → (if t then runs else not runs) ≡ false
other_runs true true e = e
other_runs true false e = refl
other_runs false true e = refl
other_runs false false e = sym e

-- the ways on from an opcode that was run
ways_good : (ops : List Op) (at : ℕ) (op : Op) (rest : List Op) (s : State) (turn : SymbolicJump) (s' : State) → s.ahead ≡ 0 → Follows (counted_in ops) op s turn s' → Comes ops at (op ∷ rest) s → All (Comes ops (at + 1) rest) (states_after_jump turn rest (with_excess s'))
ways_good ops at op rest s Next s' z f c =
    All-cons (Comes ops (at + 1) rest) _ [] (comes_run ops at op rest s Next s' s'.ahead s'.facts z f (λ spend w h. (h, sym (f.ahead ∙ z))) c) (All-nil (Comes ops (at + 1) rest))
ways_good ops at op rest s AfterElse s' z f c =
    All-cons (Comes ops (at + 1) rest) _ [] (comes_run ops at op rest s AfterElse s' (skip_length true 0 rest) s'.facts z f (λ spend w h. (h, refl)) c) (All-nil (Comes ops (at + 1) rest))
ways_good ops at op rest s AfterEndIf s' z f c =
    All-cons (Comes ops (at + 1) rest) _ [] (comes_run ops at op rest s AfterEndIf s' (skip_length false 0 rest) s'.facts z f (λ spend w h. (h, refl)) c) (All-nil (Comes ops (at + 1) rest))
ways_good ops at op rest s (Splits fact runs) s' z f c =
    All-cons (Comes ops (at + 1) rest) _ (run_to (skip_length true 0 rest) (ask fact (not runs) s').facts s' ∷ []) (
    comes_run ops at op rest s (Splits fact runs) s' s'.ahead (ask fact runs s').facts z f (λ spend w h.
    let p = stated_parts spend w s'.facts (record { fact = fact; holds = runs } ∷ []) h in
    (p.0, ap (λ t. jump_length (if t then ToNext else ToElse) rest) (same_runs (holds_of spend w fact) runs p.1.0) ∙ sym (f.ahead ∙ z))) c
    ) (
    All-cons (Comes ops (at + 1) rest) _ [] (
    comes_run ops at op rest s (Splits fact runs) s' (skip_length true 0 rest) (ask fact (not runs) s').facts z f (λ spend w h.
    let p = stated_parts spend w s'.facts (record { fact = fact; holds = not runs } ∷ []) h in
    (p.0, ap (λ t. jump_length (if t then ToNext else ToElse) rest) (other_runs (holds_of spend w fact) runs p.1.0))) c
    ) (All-nil (Comes ops (at + 1) rest))
    )

halted_good : {A : Type 0} (P : A → Type 0) (at : ℕ) (none : A) (h : Halt) → P none → Gives P (refusal_at at none h)
halted_good P at none NoMemory p = tt
halted_good P at none Dead p = p
halted_good P at none Undecided p = tt
halted_good P at none TooManyOps p = tt

arrived_good : (ops : List Op) (at : ℕ) (op : Op) (rest : List Op) (s : State) (r : Result (SymbolicJump × State) Halt) → s.ahead ≡ 0 → Gives (FollowsTo (counted_in ops) op s) r → Comes ops at (op ∷ rest) s → Gives (All (Comes ops (at + 1) rest)) (states_after_rule at rest r)
arrived_good ops at op rest s (Ok (turn, s')) z f c =
    gives_result_if (All (Comes ops (at + 1) rest)) (is_low (with_excess s')) TooTall (Ok (states_after_jump turn rest (with_excess s'))) (λ e. ways_good ops at op rest s turn s' z f c)
arrived_good ops at op rest s (Err h) z f c = halted_good (All (Comes ops (at + 1) rest)) at [] h (All-nil (Comes ops (at + 1) rest))

states_after-good : (ops : List Op) (at : ℕ) (op : Op) (rest : List Op) (s : State) → Comes ops at (op ∷ rest) s → Gives (All (Comes ops (at + 1) rest)) (states_after (counted_in ops) at op rest s s.ahead)
states_after-good ops at op rest s c = go s.ahead refl
  where
    go : (n : ℕ) → s.ahead ≡ n → Gives (All (Comes ops (at + 1) rest)) (states_after (counted_in ops) at op rest s n)
    go zero e = arrived_good ops at op rest s (rule_of (counted_in ops) op s) e (rule_of-sound (counted_in ops) op s) c
    go (suc n) e = All-cons (Comes ops (at + 1) rest) (ahead_by n s) [] (comes_jump ops at op rest s n e c) (All-nil (Comes ops (at + 1) rest))

-- the end of a path: one element is left, and it is true
record Closes (s s' : State) : Type 0 where
  pub grows : Grows s s'
  pub item : Spend → Elements → List ℕ
  pub one : (spend : Spend) (w : Elements) → length w ≡ s'.slots → entries_of spend w s ≡ item spend w ∷ []
  pub is_true : (spend : Spend) (w : Elements) → AllStated spend w s'.facts → truth (item spend w) ≡ true

drop_whole : (w : Elements) (n : ℕ) → length w ≡ n → drop n w ≡ []
drop_whole w n e = ap (λ k. drop k w) (sym e) ∙ drop-length w

closes_by : (s : State) (c : Condition) (s' : State) → (pop s).1.stack ≡ [] → IsDecided (pop s).0 c → Insists c (pop s).1 s' → Closes s s'
closes_by s c s' e d i =
    let slots = ap (λ t. t.slots) i.asks.same in
    record {
      grows = grows_trans s (pop s).1 s' (pop_grows s) (asks_grows (pop s).1 s' i.asks);
      item = λ spend w. item_for spend w (pop s).0;
      one = λ spend w l.
          pop_entries spend w s (omega arith)
          ∙ ap (λ st. item_for spend w (pop s).0 ∷ (map (item_for spend w) st ++ drop (pop s).1.slots w)) e
          ∙ ap (λ r. item_for spend w (pop s).0 ∷ r) (drop_whole w (pop s).1.slots (omega arith));
      is_true = λ spend w h. d spend w ∙ i.now spend w h;
    }

end_good : (s : State) → Gives (Closes s) (end_of (pop s).1.stack (pop s).0 (pop s).1)
end_good s = go (pop s).1.stack refl
  where
    go : (xs : List Sym) → (pop s).1.stack ≡ xs → Gives (Closes s) (end_of xs (pop s).0 (pop s).1)
    go [] e = gives_then (IsDecided (pop s).0) (Closes s) (condition_of (pop s).0) (λ c. insist c (pop s).1) (condition_good (pop s).0) (λ c d. gives_map (Insists c (pop s).1) (Closes s) (insist c (pop s).1) (insist_good c (pop s).1) (λ s' i. closes_by s c s' e d i))
    go (x ∷ xs) e = tt

-- items of a witness, whichever end is first
short_at : (xs : Elements) → list_any is_long xs ≡ false → IsShort xs
short_at [] e i = omega arith
short_at (x ∷ xs) e zero = ltb-false 520 (length x) (or_parts (is_long x) (list_any is_long xs) e).0
short_at (x ∷ xs) e (suc i) = short_at xs (or_parts (is_long x) (list_any is_long xs) e).1 i

pub short_reversed : (xs : Elements) → list_any is_long xs ≡ false → IsShort (reverse xs)
short_reversed xs e = short_at (reverse xs) (sym (list_any-IsPermutation is_long xs (reverse xs) (IsPermutation-reverse xs)) ∙ e)

path_sound : (ops : List Op) (at : ℕ) (s s' : State) → Comes ops at [] s → Closes s s' → is_low s' ≡ true → IsSound ops (path_of (counted_in ops) s')
path_sound ops at s s' c k low =
    let l : s'.slots + s'.excess ≤ 1000 = leb-true (s'.slots + s'.excess) 1000 low in
    let few : counted_in ops + s.keys ≤ 201 = c.few in
    let keys = k.grows.keys in
    record {
      clean = λ spend witness m.
          let n : length (reverse witness) ≡ s'.slots = length-reverse witness ∙ m.exact in
          ap (λ b. if b then Stopped 0 ItemTooLong else outcome_from spend 0 ops (start (reverse witness))) m.short
          ∙ c.reached spend (reverse witness) (fits spend (reverse witness) n m.holds (short_reversed witness m.short) l)
          ∙ at_end_clean spend (reverse witness) n m.holds;
      low = l;
      few = omega arith;
      lock = refl;
      age = refl;
    }
  where
    fits : (spend : Spend) (w : Elements) → length w ≡ s'.slots → AllStated spend w s'.facts → IsShort w → s'.slots + s'.excess ≤ 1000 → Fits spend w s
    fits spend w n h sh l =
        let more = k.grows.more in let ex = k.grows.excess in
        record { enough = omega arith; facts = k.grows.facts spend w h; low = omega arith; short = sh }

    at_end_clean : (spend : Spend) (w : Elements) → length w ≡ s'.slots → AllStated spend w s'.facts → at_end at c.ifs (entries_of spend w s) (c.before + s.keys) (length w + s.excess) ≡ Clean (counted_in ops + s'.keys) (s'.slots + s'.excess)
    at_end_clean spend w n h =
        let t : c.before + 0 ≡ counted_in ops = c.total in
        let keys = k.grows.keys in let ex = k.grows.excess in
        let counted : c.before + s.keys ≡ counted_in ops + s'.keys = omega arith in
        let height : length w + s.excess ≡ s'.slots + s'.excess = omega arith in
        ap (λ ifs. at_end at ifs (entries_of spend w s) (c.before + s.keys) (length w + s.excess)) (balanced_end c.ifs c.balanced)
        ∙ ap (λ st. at_end at [] st (c.before + s.keys) (length w + s.excess)) (k.one spend w n)
        ∙ ap (λ b. if b then Clean (c.before + s.keys) (length w + s.excess) else Stopped at FalseEnd) (k.is_true spend w h)
        ∙ rw (counted, height) refl

closed_good : (ops : List Op) (at : ℕ) (s : State) (r : Result State Halt) → Comes ops at [] s → Gives (Closes s) r → Gives (All (IsSound ops)) (path_at_end (counted_in ops) at r)
closed_good ops at s (Ok s') c k =
    gives_result_if (All (IsSound ops)) (is_low s') TooTall (Ok (path_of (counted_in ops) s' ∷ [])) (λ e. All-cons (IsSound ops) _ [] (path_sound ops at s s' c k e) (All-nil (IsSound ops)))
closed_good ops at s (Err h) c k = halted_good (All (IsSound ops)) at [] h (All-nil (IsSound ops))

-- all paths that were listed are sound
abbrev AllSound : List Op → Listed → Type 0
AllSound ops l = All (IsSound ops) l.paths

listed_good : (ops : List Op) (l : Listed) (r : Result (List Path) CheckError) → AllSound ops l → Gives (All (IsSound ops)) r → Gives (AllSound ops) (with_paths l r)
listed_good ops l (Ok paths) h k = All-append (IsSound ops) l.paths paths h k
listed_good ops l (Err e) h k = tt

along_good : (ops : List Op) (P : State → Type 0) (go : State → Listed → Result Listed CheckError) → ((s : State) (l : Listed) → P s → AllSound ops l → Gives (AllSound ops) (go s l)) → (r : Result (List State) CheckError) (l : Listed) → Gives (All P) r → AllSound ops l → Gives (AllSound ops) (walk_along go r l)
along_good ops P go f (Err e) l ways h = tt
along_good ops P go f (Ok []) l ways h = h
along_good ops P go f (Ok (s ∷ [])) l ways h = f s l (All-head P s [] ways) h
along_good ops P go f (Ok (s ∷ t ∷ rest)) l ways h =
    gives_then (AllSound ops) (AllSound ops) (go s l) (λ l'. begins l' >>= go t) (f s l (All-head P s (t ∷ rest) ways) h) (λ l' h'.
    gives_then (AllSound ops) (AllSound ops) (begins l') (go t) (gives_result_if (AllSound ops) (nat_lt l'.begun 64) TooManyPaths (Ok (record l' { begun = l'.begun + 1 })) (λ e. h')) (λ l2 h2. f t l2 (All-head P t rest (All-tail P s (t ∷ rest) ways)) h2))

walk_good : (ops rest : List Op) (at : ℕ) (s : State) (l : Listed) → Comes ops at rest s → AllSound ops l → Gives (AllSound ops) (walk (counted_in ops) at rest s l)
walk_good ops [] at s l c h = listed_good ops l (paths_at_end (counted_in ops) at s) h (closed_good ops at s (end_of (pop s).1.stack (pop s).0 (pop s).1) c (end_good s))
walk_good ops (op ∷ rest) at s l c h =
    along_good ops (Comes ops (at + 1) rest) (walk (counted_in ops) (at + 1) rest) (λ s' l' c' h'. walk_good ops rest (at + 1) s' l' c' h') (states_after (counted_in ops) at op rest s s.ahead) l (states_after-good ops at op rest s c) h

-- where a path begins
comes_beginning : (ops : List Op) → is_balanced ops [] ≡ true → counted_in ops ≤ 201 → Comes ops 0 ops beginning
comes_beginning ops b few = record {
  ifs = [];
  balanced = b;
  before = 0;
  total = omega arith;
  few = omega arith;
  reached = λ spend w m. ap (λ h. outcome_from spend 0 ops (record { ahead = 0; stack = w; counted = 0; open_ifs = []; height = h })) (sym (add-zero (length w)));
}

listing_good : (ops : List Op) → Gives (All (IsSound ops)) (listing ops)
unfolding listing
listing_good ops =
    gives_result_if (All (IsSound ops)) (is_balanced ops []) OpenBranch _ (λ b.
    gives_result_if (All (IsSound ops)) (nat_le (counted_in ops) 201) TooMany _ (λ few.
    gives_then (AllSound ops) (All (IsSound ops)) (walk (counted_in ops) 0 ops beginning (record { begun = 1; paths = [] })) (λ l. Ok l.paths) (
    walk_good ops ops 0 beginning (record { begun = 1; paths = [] }) (comes_beginning ops b (leb-true (counted_in ops) 201 few)) (All-nil (IsSound ops))
    ) (λ l h. h)))

-- whatever meets a listed path runs clean, with its counted opcodes and its height
pub listing-sound : (ops : List Op) (paths : List Path) → listing ops ≡ Ok paths → All (IsSound ops) paths
listing-sound ops paths e = rw e at (listing_good ops)
