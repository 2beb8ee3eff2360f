-- From one opcode to all paths of a script: whatever runs clean meets a listed path.
use Rattle.std.proofs.Common.{◌≡◌, ℕ, zero, suc, ◌+◌, ◌-◌, ◌≤◌, max, Bool, true, false, not, nat_le, nat_lt, List, [], ◌∷◌, ◌++◌, length, reverse, Result, Ok, Err, if◌then◌else◌, add-zero, sym, ap, ◌∙◌, refl, arith, inl, inr, ⊎_elim}
use Rattle.std.specs.Prelude.{◌⊎◌, Any}
use Rattle.std.specs.List.{list_any}
use Rattle.std.proofs.lemmas.List.{length-reverse}
use Rattle.script.specs.declared.opcode.Op.{Op}
use Rattle.script.specs.declared.spending.Spend.{Spend}
use Rattle.script.specs.declared.stops.Cause.{Cause}
use Rattle.script.specs.declared.stops.Cause.TheVariants.{TooManyOps as ManyCounted, StackTooTall, ItemTooLong, FalseEnd}
use Rattle.script.specs.declared.jumps.Jump.TheVariants.{Next as ToNext, AfterElse as ToElse}
use Rattle.script.specs.Step.{Elements, Effect, effect, truth, ◌>>=◌}
use Rattle.script.specs.Run.{RunState, op_count, counted_in, skip_length, jump_length, open_ifs_after, state_after_effect, state_after_skip_or_run, state_after, Outcome, Clean, Stopped, at_end, onward, outcome_from, outcome, start, is_long}
use Rattle.facts.specs.Symbols.{Stated}
use Rattle.facts.specs.Symbols.{Sym}
use Rattle.facts.specs.Meaning.{item_for, holds_of, AllStated}
use Rattle.paths.specs.declared.errors.CheckError.{CheckError}
use Rattle.paths.specs.declared.errors.CheckError.TheVariants.{OpenBranch, TooManyOps as TooMany, TooManyPaths, TooTall}
use Rattle.paths.specs.Plain.{State}
use Rattle.paths.specs.declared.state.Halt.{Halt}
use Rattle.paths.specs.declared.state.Halt.TheVariants.{NoMemory, Dead, Undecided, TooManyOps}
use Rattle.paths.specs.Plain.{SymbolicJump}
use Rattle.paths.specs.declared.state.SymbolicJumpOver.TheVariants.{Next, AfterElse, AfterEndIf, Splits}
use Rattle.paths.specs.declared.state.Path.{Path}
use Rattle.paths.specs.Plain.{Listed}
use Rattle.paths.specs.Rules.{pop_of, pop, ask, condition_of, insist, rule_of}
use Rattle.paths.specs.Listing.{is_balanced, with_excess, is_low, ahead_by, states_after_jump, states_after_rule, states_after, path_of, path_at_end, end_of, paths_at_end, with_paths, begins, walk_along, walk, beginning, listing}
use Rattle.paths.specs.Exhaustive.{SatisfiesBy, IsExhaustive}
use Rattle.paths.proofs.SoundWords.{Gives, entries_of, IsShort, move_by, Asks, Follows, run_state_of}
use Rattle.paths.proofs.SoundPops.{gives_then, gives_map, gives_result_if, stated_join, pop_grows, asks_grows, pop_entries}
use Rattle.paths.proofs.SoundRules.{FollowsTo, IsDecided, condition_good}
use Rattle.paths.proofs.SoundFollowed.{rule_of-sound}
use Rattle.paths.proofs.SoundWalk.{length_entries, turned, counts, summed, above, run_to, short_reversed, same_runs, other_runs}
use Rattle.paths.proofs.ForcedWords.{Forced, forced_then, forced_map, forced_gives, ok_checked, ok_then, IsMet, IsMetBy, pop_facts}
use Rattle.paths.proofs.ForcedRules.{condition_lives, insist_forced}
use Rattle.paths.proofs.ForcedFollowed.{rule_of-forced}

-- the property holds of one of a list
abbrev Among : {A : Type 0} → (A → Type 0) → List A → Type 0
Among P [] = ⊥
Among P (x ∷ xs) = P x ⊎ Among P xs

among_left : {A : Type 0} (P : A → Type 0) (xs ys : List A) → Among P xs → Among P (xs ++ ys)
among_left P [] ys h = absurd h
among_left P (x ∷ xs) ys h = ⊎_elim (λ (p : P x). inl p) (λ (r : Among P xs). inr (among_left P xs ys r)) h

among_right : {A : Type 0} (P : A → Type 0) (xs ys : List A) → Among P ys → Among P (xs ++ ys)
among_right P [] ys h = h
among_right P (x ∷ xs) ys h = inr (among_right P xs ys h)

any_among : {A : Type 0} (P : A → Type 0) (xs : List A) → Among P xs → Any P xs
any_among P [] h = absurd h
any_among {A} P (x ∷ xs) h = ⊎_elim (λ (p : P x). (0, x, omega arith, refl, p)) (λ (r : Among P xs). later (any_among P xs r)) h
  where
    later : Any P xs → Any P (x ∷ xs)
    later (k, y, l, e, p) = (suc k, y, omega arith, e, p)

-- a run that ends clean
clean_onward : (at : ℕ) (r : Result RunState Cause) (go : RunState → Outcome) (counted height : ℕ) → onward at r go ≡ Clean counted height → (p : RunState) × (r ≡ Ok p) × (go p ≡ Clean counted height)
clean_onward at (Ok p) go counted height e = (p, refl, e)
clean_onward at (Err c) go counted height e = absurd (cc)

clean_past : (spend : Spend) (at : ℕ) (op : Op) (rest : List Op) (p : RunState) (go : RunState → Outcome) (counted height : ℕ) → onward at (state_after spend op rest p) go ≡ Clean counted height → (ifs : List Bool) × (open_ifs_after op p.open_ifs ≡ Ok ifs) × (onward at (state_after_skip_or_run spend op rest p.ahead p (p.counted + op_count op) ifs) go ≡ Clean counted height)
unfolding state_after
clean_past spend at op rest p go counted height e =
    let first = clean_onward at (state_after spend op rest p) go counted height e in
    let fits = ok_checked (nat_le (p.counted + op_count op) 201) ManyCounted _ first.0 first.1 in
    let opened = ok_then (open_ifs_after op p.open_ifs) (state_after_skip_or_run spend op rest p.ahead p (p.counted + op_count op)) first.0 fits.1 in
    (opened.0, opened.1, ap (λ r. onward at r go) opened.2 ∙ first.2)

-- a run on a witness, the top first, that meets the state and from there on ends clean
record Passes (ops : List Op) (spend : Spend) (w : Elements) (counted height at : ℕ) (rest : List Op) (s : State) : Type 0 where
  pub ifs : List Bool
  pub before : ℕ
  pub total : before + counted_in rest ≡ counted_in ops
  pub short : IsShort w
  pub met : IsMet spend w s
  pub clean : outcome_from spend at rest (run_state_of spend w before ifs s) ≡ Clean counted height

-- jumped over
passes_jump : (ops : List Op) (spend : Spend) (w : Elements) (counted height at : ℕ) (op : Op) (rest : List Op) (s : State) (n : ℕ) → s.ahead ≡ suc n → Passes ops spend w counted height at (op ∷ rest) s → Passes ops spend w counted height (at + 1) rest (ahead_by n s)
passes_jump ops spend w counted height at op rest s n z p =
    let place = run_state_of spend w p.before p.ifs s in
    let c = clean_past spend at op rest place (outcome_from spend (at + 1) rest) counted height p.clean in
    let t : p.before + (op_count op + counted_in rest) ≡ counted_in ops = p.total in
    record {
      ifs = c.0;
      before = p.before + op_count op;
      total = summed p.before (op_count op) (counted_in rest) (counted_in ops) t;
      short = p.short;
      met = record { enough = p.met.enough; facts = p.met.facts };
      clean = ap (λ k. outcome_from spend (at + 1) rest (record { ahead = n; stack = entries_of spend w s; counted = k; open_ifs = c.0; height = length w + s.excess })) (sym (turned p.before s.keys (op_count op)))
          ∙ ap (λ a. onward at (state_after_skip_or_run spend op rest a place (place.counted + op_count op) c.0) (outcome_from spend (at + 1) rest)) (sym z)
          ∙ c.2;
    }

-- run, where the opcode had this effect
record Runs (ops : List Op) (spend : Spend) (w : Elements) (counted height at : ℕ) (op : Op) (rest : List Op) (s : State) : Type 0 where
  pub ifs : List Bool
  pub before : ℕ
  pub total : before + (op_count op + counted_in rest) ≡ counted_in ops
  pub done : Effect
  pub does : effect spend (before + s.keys + op_count op) op (entries_of spend w s) ≡ Ok done
  pub clean : outcome_from spend (at + 1) rest (record { ahead = jump_length done.jump rest; stack = done.stack; counted = before + s.keys + op_count op + done.keys; open_ifs = ifs; height = max (length w + s.excess) (length done.stack) }) ≡ Clean counted height

passes_runs : (ops : List Op) (spend : Spend) (w : Elements) (counted height at : ℕ) (op : Op) (rest : List Op) (s : State) → s.ahead ≡ 0 → Passes ops spend w counted height at (op ∷ rest) s → Runs ops spend w counted height at op rest s
passes_runs ops spend w counted height at op rest s z p =
    let place = run_state_of spend w p.before p.ifs s in
    let go = outcome_from spend (at + 1) rest in
    let c = clean_past spend at op rest place go counted height p.clean in
    let k : ℕ = p.before + s.keys + op_count op in
    let run : onward at (effect spend k op (entries_of spend w s) >>= state_after_effect rest k c.0 (length w + s.excess)) go ≡ Clean counted height =
    ap (λ a. onward at (state_after_skip_or_run spend op rest a place k c.0) go) (sym z) ∙ c.2 in
    let arrives = clean_onward at (effect spend k op (entries_of spend w s) >>= state_after_effect rest k c.0 (length w + s.excess)) go counted height run in
    let does = ok_then (effect spend k op (entries_of spend w s)) (state_after_effect rest k c.0 (length w + s.excess)) arrives.0 arrives.1 in
    let fits = ok_checked (nat_le (length does.0.stack) 1000) StackTooTall _ arrives.0 does.2 in
    record {
      ifs = c.0;
      before = p.before;
      total = p.total;
      done = does.0;
      does = does.1;
      clean = ap (λ r. onward at r go) {x = Ok (record { ahead = jump_length does.0.jump rest; stack = does.0.stack; counted = k + does.0.keys; open_ifs = c.0; height = max (length w + s.excess) (length does.0.stack) })} fits.1 ∙ arrives.2;
    }

place_same : (n n' : ℕ) (stack : Elements) (c c' : ℕ) (ifs : List Bool) (h h' : ℕ) → n ≡ n' → c ≡ c' → h ≡ h' → ◌≡◌ {A = RunState} (record { ahead = n; stack = stack; counted = c; open_ifs = ifs; height = h }) (record { ahead = n'; stack = stack; counted = c'; open_ifs = ifs; height = h' })
place_same n n' stack c c' ifs h h' e f g = rw (e, f, g) refl

-- where the run goes on, with these facts
passes_on : (ops : List Op) (spend : Spend) (w : Elements) (counted height at : ℕ) (op : Op) (rest : List Op) (s : State) (turn : SymbolicJump) (s' : State) (n : ℕ) (facts : List Stated) → IsShort w → Follows (counted_in ops) op s turn s' → IsMet spend w s' → AllStated spend w facts → jump_length (move_by spend w turn) rest ≡ n → Runs ops spend w counted height at op rest s → Passes ops spend w counted height (at + 1) rest (run_to n facts s')
passes_on ops spend w counted height at op rest s turn s' n facts sh f m h j r =
    let t : r.before + (op_count op + counted_in rest) ≡ counted_in ops = r.total in
    let k : ℕ = r.before + s.keys + op_count op in
    let left : Effect = record { jump = move_by spend w turn; stack = entries_of spend w s'; keys = f.used } in
    let does : effect spend k op (entries_of spend w s) ≡ Ok left = f.step spend w k (above r.before s.keys (op_count op) (counted_in rest) (counted_in ops) t) sh m.enough m.facts in
    let same : left ≡ r.done = same_ok left r.done (sym does ∙ r.does) in
    record {
      ifs = r.ifs;
      before = r.before + op_count op;
      total = summed r.before (op_count op) (counted_in rest) (counted_in ops) t;
      short = sh;
      met = record { enough = m.enough; facts = h };
      clean = ap (outcome_from spend (at + 1) rest) (sym (place_same (jump_length (move_by spend w turn) rest) n (entries_of spend w s') (k + f.used) (r.before + op_count op + s'.keys) r.ifs (max (length w + s.excess) (length (entries_of spend w s'))) (length w + max s'.excess (length s'.stack - s'.slots)) j (counts r.before s.keys (op_count op) f.used s'.keys f.keys) tall))
          ∙ ap (λ (x : Effect). outcome_from spend (at + 1) rest (record { ahead = jump_length x.jump rest; stack = x.stack; counted = k + x.keys; open_ifs = r.ifs; height = max (length w + s.excess) (length x.stack) })) same
          ∙ r.clean;
    }
  where
    same_ok : (x y : Effect) → ◌≡◌ {A = Result Effect Cause} (Ok x) (Ok y) → x ≡ y
    same_ok x y e = cc

    tall : max (length w + s.excess) (length (entries_of spend w s')) ≡ length w + max s'.excess (length s'.stack - s'.slots)
    tall = let x = f.excess in let en = m.enough in let long = length_entries spend w s' m.enough in omega arith

-- one of the states that are walked, of which there are at most two
abbrev OneOf : (State → Type 0) → List State → Type 0
OneOf P [] = ⊥
OneOf P (s ∷ []) = P s
OneOf P (s ∷ t ∷ more) = P s ⊎ P t

alike_or_not : (t runs : Bool) → (t ≡ runs) ⊎ (t ≡ not runs)
alike_or_not true true = inl refl
alike_or_not true false = inr refl
alike_or_not false true = inr refl
alike_or_not false false = inl refl

ways_met : (ops : List Op) (spend : Spend) (w : Elements) (counted height at : ℕ) (op : Op) (rest : List Op) (s : State) (turn : SymbolicJump) (s' : State) → IsShort w → s.ahead ≡ 0 → Follows (counted_in ops) op s turn s' → IsMet spend w s' → Runs ops spend w counted height at op rest s → OneOf (Passes ops spend w counted height (at + 1) rest) (states_after_jump turn rest (with_excess s'))
ways_met ops spend w counted height at op rest s Next s' sh z f m r = passes_on ops spend w counted height at op rest s Next s' s'.ahead s'.facts sh f m m.facts (sym (f.ahead ∙ z)) r
ways_met ops spend w counted height at op rest s AfterElse s' sh z f m r = passes_on ops spend w counted height at op rest s AfterElse s' (skip_length true 0 rest) s'.facts sh f m m.facts refl r
ways_met ops spend w counted height at op rest s AfterEndIf s' sh z f m r = passes_on ops spend w counted height at op rest s AfterEndIf s' (skip_length false 0 rest) s'.facts sh f m m.facts refl r
ways_met ops spend w counted height at op rest s (Splits fact runs) s' sh z f m r =
    ⊎_elim
    (λ (e : holds_of spend w fact ≡ runs). inl (passes_on ops spend w counted height at op rest s (Splits fact runs) s' s'.ahead (ask fact runs s').facts sh f m
    (stated_join spend w s'.facts (record { fact = fact; holds = runs } ∷ []) m.facts (e, tt))
    (ap (λ t. jump_length (if t then ToNext else ToElse) rest) (same_runs (holds_of spend w fact) runs e) ∙ sym (f.ahead ∙ z)) r))
    (λ (e : holds_of spend w fact ≡ not runs). inr (passes_on ops spend w counted height at op rest s (Splits fact runs) s' (skip_length true 0 rest) (ask fact (not runs) s').facts sh f m
    (stated_join spend w s'.facts (record { fact = fact; holds = not runs } ∷ []) m.facts (e, tt))
    (ap (λ t. jump_length (if t then ToNext else ToElse) rest) (other_runs (holds_of spend w fact) runs e)) r))
    (alike_or_not (holds_of spend w fact) runs)

arrived_met : (ops : List Op) (spend : Spend) (w : Elements) (counted height at : ℕ) (op : Op) (rest : List Op) (s : State) (r : Result (SymbolicJump × State) Halt) → IsShort w → s.ahead ≡ 0 → Gives (FollowsTo (counted_in ops) op s) r → Forced (IsMetBy spend w) r → Runs ops spend w counted height at op rest s → Gives (OneOf (Passes ops spend w counted height (at + 1) rest)) (states_after_rule at rest r)
arrived_met ops spend w counted height at op rest s (Ok (turn, s')) sh z f m r =
    gives_result_if (OneOf (Passes ops spend w counted height (at + 1) rest)) (is_low (with_excess s')) TooTall (Ok (states_after_jump turn rest (with_excess s'))) (λ e. ways_met ops spend w counted height at op rest s turn s' sh z f m r)
arrived_met ops spend w counted height at op rest s (Err NoMemory) sh z f m r = tt
arrived_met ops spend w counted height at op rest s (Err Dead) sh z f m r = absurd m
arrived_met ops spend w counted height at op rest s (Err Undecided) sh z f m r = tt
arrived_met ops spend w counted height at op rest s (Err TooManyOps) sh z f m r = tt

states_after-met : (ops : List Op) (spend : Spend) (w : Elements) (counted height at : ℕ) (op : Op) (rest : List Op) (s : State) → Passes ops spend w counted height at (op ∷ rest) s → Gives (OneOf (Passes ops spend w counted height (at + 1) rest)) (states_after (counted_in ops) at op rest s s.ahead)
states_after-met ops spend w counted height at op rest s p = go s.ahead refl
  where
    go : (n : ℕ) → s.ahead ≡ n → Gives (OneOf (Passes ops spend w counted height (at + 1) rest)) (states_after (counted_in ops) at op rest s n)
    go zero e =
        let r = passes_runs ops spend w counted height at op rest s e p in
        arrived_met ops spend w counted height at op rest s (rule_of (counted_in ops) op s) p.short e (rule_of-sound (counted_in ops) op s)
        (rule_of-forced (counted_in ops) op s spend w (r.before + s.keys + op_count op) r.done p.short p.met r.does) r
    go (suc n) e = passes_jump ops spend w counted height at op rest s n e p

-- the end of a clean run: one element, and it is true
record EndsClean (stack : Elements) (c h counted height : ℕ) : Type 0 where
  pub last : List ℕ
  pub one : stack ≡ last ∷ []
  pub is_true : truth last ≡ true
  pub counts : c ≡ counted
  pub tall : h ≡ height

clean_end : (at : ℕ) (ifs : List Bool) (stack : Elements) (c h counted height : ℕ) → at_end at ifs stack c h ≡ Clean counted height → EndsClean stack c h counted height
clean_end at (b ∷ ifs) stack c h counted height e = absurd (cc)
clean_end at [] [] c h counted height e = absurd (cc)
clean_end at [] (x ∷ y ∷ stack) c h counted height e = absurd (cc)
clean_end at [] (x ∷ []) c h counted height e = go (truth x) refl e
  where
    go : (t : Bool) → truth x ≡ t → (if t then Clean c h else Stopped at FalseEnd) ≡ Clean counted height → EndsClean (x ∷ []) c h counted height
    go true q e = record { last = x; one = refl; is_true = q; counts = cc; tall = cc }
    go false q e = absurd (cc)

-- then the path ends too: one symbol is left, and all slots were reached
record IsLast (spend : Spend) (w : Elements) (s : State) (last : List ℕ) : Type 0 where
  pub alone : (pop s).1.stack ≡ []
  pub all : (pop s).1.slots ≡ length w
  pub item : item_for spend w (pop s).0 ≡ last

last_symbol : (spend : Spend) (w : Elements) (s : State) (last : List ℕ) → s.slots ≤ length w → entries_of spend w s ≡ last ∷ [] → IsLast spend w s last
last_symbol spend w s last l e =
    let long = length_entries spend w s l in
    let one : length (entries_of spend w s) ≡ 1 = ap length e in
    let parts = ends s.stack (omega arith) in
    record {
      alone = parts.0;
      all = parts.1;
      item = same_head _ last _ [] (sym (pop_entries spend w s (omega arith)) ∙ e);
    }
  where
    ends : (xs : List Sym) → 1 + s.slots ≡ length xs + length w → ((pop_of xs s).1.stack ≡ []) × ((pop_of xs s).1.slots ≡ length w)
    ends [] k = (refl, omega arith)
    ends (x ∷ []) k = (refl, omega arith)
    ends (x ∷ y ∷ xs) k = absurd (omega arith)

    same_head : (x y : List ℕ) (xs ys : Elements) → x ∷ xs ≡ y ∷ ys → x ≡ y
    same_head x y xs ys e = cc

closed_met : (ops : List Op) (P : Path → Type 0) (at : ℕ) (r : Result State Halt) → Forced (λ s'. P (path_of (counted_in ops) s')) r → Gives (Among P) (path_at_end (counted_in ops) at r)
closed_met ops P at (Ok s') h = gives_result_if (Among P) (is_low s') TooTall (Ok (path_of (counted_in ops) s' ∷ [])) (λ e. inl h)
closed_met ops P at (Err NoMemory) h = tt
closed_met ops P at (Err Dead) h = h
closed_met ops P at (Err Undecided) h = tt
closed_met ops P at (Err TooManyOps) h = tt

-- what a path that ends gives: as many slots as items, all facts as stated, and the numbers of the run
abbrev IsGood : List Op → Spend → Elements → ℕ → ℕ → (Path → Type 0) → Type 0
IsGood ops spend w counted height P =
    (s : State) → s.slots ≡ length w → AllStated spend w s.facts → counted_in ops + s.keys ≡ counted → s.slots + s.excess ≡ height → P (path_of (counted_in ops) s)

end_met : (ops : List Op) (spend : Spend) (w : Elements) (counted height at : ℕ) (s : State) (P : Path → Type 0) → IsGood ops spend w counted height P → Passes ops spend w counted height at [] s → Forced (λ s'. P (path_of (counted_in ops) s')) (end_of (pop s).1.stack (pop s).0 (pop s).1)
end_met ops spend w counted height at s P good p =
    let e = clean_end at p.ifs (entries_of spend w s) (p.before + s.keys) (length w + s.excess) counted height p.clean in
    let one = last_symbol spend w s e.last p.met.enough e.one in
    let m : IsMet spend w (pop s).1 = record { enough = (let a = one.all in omega arith); facts = pop_facts spend w s p.met.facts } in
    let g = pop_grows s in
    let Q : State → Type 0 = λ s'. P (path_of (counted_in ops) s') in
    rw one.alone (
    forced_then (IsDecided (pop s).0) Q (condition_of (pop s).0) (λ c. insist c (pop s).1) (forced_gives (IsDecided (pop s).0) (condition_of (pop s).0) (condition_lives (pop s).0) (condition_good (pop s).0)) (λ c d.
    forced_map (λ s'. IsMet spend w s' × Asks (pop s).1 s') Q (insist c (pop s).1) (insist_forced spend w c (pop s).1 (sym (d spend w) ∙ ap truth one.item ∙ e.is_true) m) (λ s' k.
    let a = asks_grows (pop s).1 s' k.1 in
    let slots = ap (λ t. t.slots) k.1.same in
    let keys = a.keys in let keys' = g.keys in
    let ex = a.excess in let ex' = g.excess in
    let t : p.before + 0 ≡ counted_in ops = p.total in
    let all = one.all in let cn = e.counts in let tl = e.tall in
    good s' (omega arith) k.0.facts (omega arith) (omega arith))))

-- a path that was listed, or the way of the run
listed_met : (P : Path → Type 0) (l : Listed) (r : Result (List Path) CheckError) → Among P l.paths ⊎ Gives (Among P) r → Gives (λ l'. Among P l'.paths) (with_paths l r)
listed_met P l (Ok paths) h = ⊎_elim (λ (a : Among P l.paths). among_left P l.paths paths a) (λ (b : Among P paths). among_right P l.paths paths b) h
listed_met P l (Err e) h = tt

abbrev Hits : (Path → Type 0) → Listed → Type 0
Hits P l = Among P l.paths

gives_all : {A E : Type 0} (P : A → Type 0) (r : Result A E) → ((x : A) → P x) → Gives P r
gives_all P (Ok x) h = h x
gives_all P (Err e) h = tt

along_met : (P : Path → Type 0) (R : State → Type 0) (go : State → Listed → Result Listed CheckError) → ((s : State) (l : Listed) → Hits P l ⊎ R s → Gives (Hits P) (go s l)) → (r : Result (List State) CheckError) (l : Listed) → Hits P l ⊎ Gives (OneOf R) r → Gives (Hits P) (walk_along go r l)
along_met P R go f (Err e) l h = tt
along_met P R go f (Ok []) l h = ⊎_elim (λ (a : Hits P l). a) (λ (b : ⊥). absurd b) h
along_met P R go f (Ok (s ∷ [])) l h = f s l h
along_met P R go f (Ok (s ∷ t ∷ more)) l h =
    gives_then (λ l'. Hits P l' ⊎ R t) (Hits P) (go s l) (λ l'. begins l' >>= go t) (first h) (λ l' h'.
    gives_then (λ l2. Hits P l2 ⊎ R t) (Hits P) (begins l') (go t) (gives_result_if (λ l2. Hits P l2 ⊎ R t) (nat_lt l'.begun 64) TooManyPaths (Ok (record l' { begun = l'.begun + 1 })) (λ e. h')) (λ l2 h2. f t l2 h2))
  where
    hit : Hits P l ⊎ R s → Gives (λ l'. Hits P l' ⊎ R t) (go s l)
    hit k = gives_map (Hits P) (λ l'. Hits P l' ⊎ R t) (go s l) (f s l k) (λ l' a. inl a)

    first : Hits P l ⊎ (R s ⊎ R t) → Gives (λ l'. Hits P l' ⊎ R t) (go s l)
    first k = ⊎_elim (λ (a : Hits P l). hit (inl a)) (λ (b : R s ⊎ R t). ⊎_elim (λ (c : R s). hit (inr c)) (λ (d : R t). gives_all (λ l'. Hits P l' ⊎ R t) (go s l) (λ l'. inr d)) b) k

walk_met : (ops : List Op) (spend : Spend) (w : Elements) (counted height : ℕ) (P : Path → Type 0) → IsGood ops spend w counted height P → (rest : List Op) (at : ℕ) (s : State) (l : Listed) → Hits P l ⊎ Passes ops spend w counted height at rest s → Gives (Hits P) (walk (counted_in ops) at rest s l)
walk_met ops spend w counted height P good [] at s l h =
    listed_met P l (paths_at_end (counted_in ops) at s) (⊎_elim (λ (a : Hits P l). inl a) (λ (p : Passes ops spend w counted height at [] s). inr (closed_met ops P at (end_of (pop s).1.stack (pop s).0 (pop s).1) (end_met ops spend w counted height at s P good p))) h)
walk_met ops spend w counted height P good (op ∷ rest) at s l h =
    along_met P (Passes ops spend w counted height (at + 1) rest) (walk (counted_in ops) (at + 1) rest) (λ s' l' h'. walk_met ops spend w counted height P good rest (at + 1) s' l' h') (states_after (counted_in ops) at op rest s s.ahead) l
    (⊎_elim (λ (a : Hits P l). inl a) (λ (p : Passes ops spend w counted height at (op ∷ rest) s). inr (states_after-met ops spend w counted height at op rest s p)) h)

-- a run from the start
clean_start : (spend : Spend) (ops : List Op) (witness : List (List ℕ)) (counted height : ℕ) → outcome spend ops witness ≡ Clean counted height → (list_any is_long witness ≡ false) × (outcome_from spend 0 ops (start (reverse witness)) ≡ Clean counted height)
clean_start spend ops witness counted height e = go (list_any is_long witness) refl e
  where
    go : (b : Bool) → list_any is_long witness ≡ b → (if b then Stopped 0 ItemTooLong else outcome_from spend 0 ops (start (reverse witness))) ≡ Clean counted height → (list_any is_long witness ≡ false) × (outcome_from spend 0 ops (start (reverse witness)) ≡ Clean counted height)
    go true q e = absurd (cc)
    go false q e = (q, e)

passes_start : (ops : List Op) (spend : Spend) (w : Elements) (counted height : ℕ) → IsShort w → outcome_from spend 0 ops (start w) ≡ Clean counted height → Passes ops spend w counted height 0 ops beginning
passes_start ops spend w counted height sh e = record {
  ifs = [];
  before = 0;
  total = omega arith;
  short = sh;
  met = record { enough = omega arith; facts = tt };
  clean = ap (λ h. outcome_from spend 0 ops (record { ahead = 0; stack = w; counted = 0; open_ifs = []; height = h })) (add-zero (length w)) ∙ e;
}

opens_good : (ops : List Op) (spend : Spend) (witness : List (List ℕ)) (counted height : ℕ) → list_any is_long witness ≡ false → IsGood ops spend (reverse witness) counted height (SatisfiesBy spend witness counted height)
opens_good ops spend witness counted height short s n h c t = record {
  meets = record { exact = sym (length-reverse witness) ∙ sym n; short = short; holds = h };
  counts = c;
  tallest = t;
}

listing_met : (ops : List Op) (spend : Spend) (witness : List (List ℕ)) (counted height : ℕ) → outcome spend ops witness ≡ Clean counted height → Gives (Among (SatisfiesBy spend witness counted height)) (listing ops)
unfolding listing
listing_met ops spend witness counted height e =
    let P : Path → Type 0 = SatisfiesBy spend witness counted height in
    let c = clean_start spend ops witness counted height e in
    gives_result_if (Among P) (is_balanced ops []) OpenBranch _ (λ b.
    gives_result_if (Among P) (nat_le (counted_in ops) 201) TooMany _ (λ few.
    gives_then (Hits P) (Among P) (walk (counted_in ops) 0 ops beginning (record { begun = 1; paths = [] })) (λ l. Ok l.paths) (
    walk_met ops spend (reverse witness) counted height P (opens_good ops spend witness counted height c.0) ops 0 beginning (record { begun = 1; paths = [] }) (inr (passes_start ops spend (reverse witness) counted height (short_reversed witness c.0) c.1))
    ) (λ l h. h)))

-- whatever runs clean on a listed script meets a listed path
pub listing-exhaustive : (ops : List Op) (paths : List Path) → listing ops ≡ Ok paths → IsExhaustive ops paths
listing-exhaustive ops paths l spend witness counted height e =
    any_among (SatisfiesBy spend witness counted height) paths (rw l at (listing_met ops spend witness counted height e))
