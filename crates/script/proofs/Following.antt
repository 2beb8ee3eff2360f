-- Along the list, the function's place is tied to the chain of steps.
use Rattle.std.proofs.Common.{◌≡◌, ℕ, zero, suc, ◌+◌, ◌<◌, ◌≤◌, max, nat_le, Bool, true, false, List, [], ◌∷◌, ◌++◌, length, take, drop, reverse, sym, ap, ◌∙◌, refl, arith, subst, Result, Ok, Err, ⊎_elim, true≢false}
use Rattle.std.proofs.Math.Seq.{take-length, take-append_seam, drop-append_seam}
use Rattle.std.proofs.lemmas.Bool.{leb-true, leb-false, ltb-true, ltb-false, or_cases, or_parts, cases_lt}
use Rattle.std.proofs.lemmas.List.{length-reverse}
use Rattle.std.specs.Prelude.{if◌then◌else◌, Any}
use Rattle.std.specs.List.{list_any}
use Rattle.script.specs.declared.opcode.Op.{Op}
use Rattle.script.specs.declared.spending.Spend.{Spend}
use Rattle.script.specs.declared.stops.Cause.{Cause}
use Rattle.script.specs.declared.stops.Cause.TheVariants.{TooManyOps, StackTooTall, ItemTooLong, FalseEnd}
use Rattle.script.specs.Step.{Elements, Effect, effect, truth, result_if, ◌>>=◌}
use Rattle.script.specs.Run.{op_count, counted_in, jump_length, open_ifs_after, RunState, state_after_effect, state_after_skip_or_run, state_after, Outcome, Clean, Stopped, at_end, onward, outcome_from, start, is_long, outcome}
use Rattle.script.specs.Clean.{no_more, HasOpen, MayFollow, IsMisplaced, Point, Steps, ends, RunsTo, start_on, AreShort, IsClean, PassesLimit, FailsAt, Fails, FaultAt, too_many, misplaced, failing, AreFaultless, StopsAt, long_item, least_fault, open_end, not_one, false_end}
use Rattle.script.proofs.Blocks.{jumps_made, jump_within}
use Rattle.script.proofs.OpenIfs.{flags, Nest, nest_on, nest_open, flags_on, follows, refused, open_flags}
use Rattle.script.proofs.Chains.{drop_more, take_one_more, stands_within, point_after, one_run, chain_on, chain_wider}
use Rattle.script.proofs.Counting.{counted_in-append}
use Rattle.script.proofs.Limit.{Within, effect_within}

-- where the chain is when the function comes to opcode k
abbrev pub point_of : ℕ → RunState → ℕ → Point
point_of k p keys = record { at = k + p.ahead; stack = p.stack; keys = keys; height = p.height }

-- the opcodes before k are allowed at their positions
abbrev pub ArePlacedBefore : List Op → ℕ → Type 0
ArePlacedBefore ops k = (j : ℕ) (op : Op) (rest : List Op) → j < k → drop j ops ≡ op ∷ rest → MayFollow (take j ops) op

pub record Tied (spend : Spend) (ops : List Op) (witness : List (List ℕ)) (k : ℕ) (p : RunState) : Type 0 where
  pub keys : ℕ
  pub runs : RunsTo spend ops witness k (point_of k p keys)
  pub inside : k + p.ahead ≤ length ops
  pub count : p.counted ≡ counted_in (take k ops) + keys
  pub limit : p.counted ≤ 201
  pub nest : Nest p.open_ifs (take k ops)
  pub flagged : flags (take k ops) [] ≡ Ok p.open_ifs
  pub faultless : AreFaultless spend ops witness k
  pub placed : ArePlacedBefore ops k

-- one opcode further, or at its fault
abbrev pub Passed : Spend → List Op → List (List ℕ) → ℕ → Result RunState Cause → Type 0
Passed spend ops witness k (Ok p) = Tied spend ops witness (k + 1) p
Passed spend ops witness k (Err c) = FaultAt spend ops witness k c

-- the opcodes that count, with one more
counted_more : (k : ℕ) (ops : List Op) (op : Op) (rest : List Op) → drop k ops ≡ op ∷ rest → counted_in (take (k + 1) ops) ≡ counted_in (take k ops) + op_count op
counted_more k ops op rest e =
    let f = ap counted_in (take_one_more k ops op rest e) in
    let g = counted_in-append (take k ops) (op ∷ []) in
    omega arith

not_over : (spend : Spend) (ops : List Op) (witness : List (List ℕ)) (k : ℕ) (x : Point) → RunsTo spend ops witness k x → counted_in (take (k + 1) ops) + x.keys ≤ 201 → PassesLimit spend ops witness k → ⊥
not_over spend ops witness k x r l o =
    let e : o.point.keys ≡ x.keys = ap (λ y. y.keys) (one_run spend ops witness k o.point x o.runs r) in
    let a = o.above in
    omega arith

not_misplaced : (ops : List Op) (k : ℕ) (op : Op) (rest : List Op) → drop k ops ≡ op ∷ rest → MayFollow (take k ops) op → IsMisplaced ops k → ⊥
not_misplaced ops k op rest e m o =
    let f : op ≡ o.op = let g = o.here in cc in
    o.refused (subst (MayFollow (take k ops)) f m)

-- one position more has no fault
faultless_more : (spend : Spend) (ops : List Op) (witness : List (List ℕ)) (k : ℕ) → AreFaultless spend ops witness k → ((c : Cause) → FaultAt spend ops witness k c → ⊥) → AreFaultless spend ops witness (k + 1)
faultless_more spend ops witness k h n j c l f =
    ⊎_elim (λ a. h j c a f) (λ a. let e : j ≡ k = omega arith in n c (subst (λ i. FaultAt spend ops witness i c) e f)) (cases_lt j k)

placed_more : (ops : List Op) (k : ℕ) (op : Op) (rest : List Op) → drop k ops ≡ op ∷ rest → MayFollow (take k ops) op → ArePlacedBefore ops k → ArePlacedBefore ops (k + 1)
placed_more ops k op rest e m h j op' rest' l f =
    ⊎_elim
    (λ a. h j op' rest' a f)
    (λ a.
    let i : j ≡ k = omega arith in
    let g : drop k ops ≡ op' ∷ rest' = subst (λ i. drop i ops ≡ op' ∷ rest') i f in
    let o : op ≡ op' = cc in
    subst (λ i. MayFollow (take i ops) op') (sym i) (subst (MayFollow (take k ops)) o m))
    (cases_lt j k)

-- where nothing is wrong at a position, there is no fault
no_fault : (spend : Spend) (ops : List Op) (witness : List (List ℕ)) (k : ℕ) → (PassesLimit spend ops witness k → ⊥) → (IsMisplaced ops k → ⊥) → ((c : Cause) → FailsAt spend ops witness k c → ⊥) → (c : Cause) → FaultAt spend ops witness k c → ⊥
no_fault spend ops witness k a b h c (too_many o) = a o
no_fault spend ops witness k a b h c (misplaced n m) = b m
no_fault spend ops witness k a b h c (failing n m f) = h c f

-- the effect where the run comes to opcode k
pub same_effect : (spend : Spend) (ops : List Op) (witness : List (List ℕ)) (k : ℕ) (x : Point) (op : Op) (rest : List Op) (c : Cause) → RunsTo spend ops witness k x → drop k ops ≡ op ∷ rest → FailsAt spend ops witness k c → (x.at ≡ k) × Fails (effect spend (counted_in (take (k + 1) ops) + x.keys) op x.stack) c
same_effect spend ops witness k x op rest c r e f =
    let p : f.point ≡ x = one_run spend ops witness k f.point x f.runs r in
    let q : f.op ≡ op = let g = f.here in cc in
    (sym (ap (λ y. y.at) p) ∙ f.comes, subst (λ o. Fails (effect spend (counted_in (take (k + 1) ops) + x.keys) o x.stack) c) q (subst (λ y. Fails (effect spend (counted_in (take (k + 1) ops) + y.keys) f.op y.stack) c) p f.fails))

-- an opcode that is jumped over
jumps_on : (spend : Spend) (ops : List Op) (witness : List (List ℕ)) (k : ℕ) (p : RunState) (op : Op) (rest : List Op) (ifs : List Bool) (n : ℕ) → Tied spend ops witness k p → drop k ops ≡ op ∷ rest → p.counted + op_count op ≤ 201 → open_ifs_after op p.open_ifs ≡ Ok ifs → p.ahead ≡ suc n → Tied spend ops witness (k + 1) (record { ahead = n; stack = p.stack; counted = p.counted + op_count op; open_ifs = ifs; height = p.height })
jumps_on spend ops witness k p op rest ifs n t e l o a =
    let more = counted_more k ops op rest e in
    let count = t.count in
    let inside = t.inside in
    let here : point_of k p t.keys ≡ record { at = k + 1 + n; stack = p.stack; keys = t.keys; height = p.height } = ap (λ i. record { at = i; stack = p.stack; keys = t.keys; height = p.height }) (omega arith) in
    let runs : RunsTo spend ops witness k (record { at = k + 1 + n; stack = p.stack; keys = t.keys; height = p.height }) = subst (RunsTo spend ops witness k) here t.runs in
    let over : PassesLimit spend ops witness k → ⊥ = not_over spend ops witness k (record { at = k + 1 + n; stack = p.stack; keys = t.keys; height = p.height }) runs (omega arith) in
    let may : MayFollow (take k ops) op = follows (take k ops) op p.open_ifs ifs t.nest o in
    let sits : IsMisplaced ops k → ⊥ = not_misplaced ops k op rest e may in
    let front = take_one_more k ops op rest e in
    record {
      keys = t.keys;
      runs = record { chain = chain_wider spend ops k (k + 1) (start_on witness) (record { at = k + 1 + n; stack = p.stack; keys = t.keys; height = p.height }) (omega arith) runs.chain; reached = omega arith };
      inside = omega arith;
      count = omega arith;
      limit = l;
      nest = rw front (nest_on p.open_ifs ifs (take k ops) op t.nest o);
      flagged = rw front (flags_on (take k ops) op p.open_ifs ifs t.flagged o);
      faultless = faultless_more spend ops witness k t.faultless (no_fault spend ops witness k over sits (λ c f. let q = (same_effect spend ops witness k (record { at = k + 1 + n; stack = p.stack; keys = t.keys; height = p.height }) op rest c runs e f).0 in omega arith));
      placed = placed_more ops k op rest e may t.placed;
    }

-- an opcode that the run comes to, and that has an effect
runs_on : (spend : Spend) (ops : List Op) (witness : List (List ℕ)) (k : ℕ) (p : RunState) (op : Op) (rest : List Op) (ifs : List Bool) (done : Effect) → Tied spend ops witness k p → drop k ops ≡ op ∷ rest → p.counted + op_count op ≤ 201 → open_ifs_after op p.open_ifs ≡ Ok ifs → p.ahead ≡ 0 → effect spend (p.counted + op_count op) op p.stack ≡ Ok done → length done.stack ≤ 1000
    → Tied spend ops witness (k + 1) (record { ahead = jump_length done.jump rest; stack = done.stack; counted = p.counted + op_count op + done.keys; open_ifs = ifs; height = max p.height (length done.stack) })
runs_on spend ops witness k p op rest ifs done t e l o a f low =
    let more = counted_more k ops op rest e in
    let count = t.count in
    let x : Point = record { at = k; stack = p.stack; keys = t.keys; height = p.height } in
    let y : Point = point_after x done (jump_length done.jump rest) in
    let here : point_of k p t.keys ≡ x = ap (λ i. record { at = i; stack = p.stack; keys = t.keys; height = p.height }) (omega arith) in
    let runs : RunsTo spend ops witness k x = subst (RunsTo spend ops witness k) here t.runs in
    let same : p.counted + op_count op ≡ counted_in (take (k + 1) ops) + t.keys = omega arith in
    let does : effect spend (counted_in (take (k + 1) ops) + t.keys) op p.stack ≡ Ok done = ap (λ n. effect spend n op p.stack) (sym same) ∙ f in
    let over : PassesLimit spend ops witness k → ⊥ = not_over spend ops witness k x runs (omega arith) in
    let may : MayFollow (take k ops) op = follows (take k ops) op p.open_ifs ifs t.nest o in
    let sits : IsMisplaced ops k → ⊥ = not_misplaced ops k op rest e may in
    let front = take_one_more k ops op rest e in
    let step : Steps spend ops x y = record { op = op; rest = rest; here = e; done = done; does = does; over = jump_length done.jump rest; jumps = jumps_made done.jump rest; leads = refl } in
    let few : p.counted + op_count op + done.keys ≤ 201 = subst (Within (p.counted + op_count op)) f (effect_within spend (p.counted + op_count op) op p.stack l) in
    let short = jump_within done.jump rest in
    let whole = stands_within k ops op rest e in
    record {
      keys = t.keys + done.keys;
      runs = record { chain = chain_on spend ops k (k + 1) (start_on witness) x y (omega arith) (omega arith) runs.chain step low; reached = omega arith };
      inside = omega arith;
      count = omega arith;
      limit = few;
      nest = rw front (nest_on p.open_ifs ifs (take k ops) op t.nest o);
      flagged = rw front (flags_on (take k ops) op p.open_ifs ifs t.flagged o);
      faultless = faultless_more spend ops witness k t.faultless (no_fault spend ops witness k over sits (λ c g.
          let q : Fails (Ok done) c = subst (λ r. Fails r c) does (same_effect spend ops witness k x op rest c runs e g).1 in
          let r : 1000 < length done.stack = q.0 in
          omega arith));
      placed = placed_more ops k op rest e may t.placed;
    }

-- an opcode that the run comes to, and that fails
fails_at : (spend : Spend) (ops : List Op) (witness : List (List ℕ)) (k : ℕ) (p : RunState) (op : Op) (rest : List Op) (ifs : List Bool) (c : Cause) → Tied spend ops witness k p → drop k ops ≡ op ∷ rest → p.counted + op_count op ≤ 201 → open_ifs_after op p.open_ifs ≡ Ok ifs → p.ahead ≡ 0 → Fails (effect spend (p.counted + op_count op) op p.stack) c → FaultAt spend ops witness k c
fails_at spend ops witness k p op rest ifs c t e l o a f =
    let more = counted_more k ops op rest e in
    let count = t.count in
    let x : Point = record { at = k; stack = p.stack; keys = t.keys; height = p.height } in
    let here : point_of k p t.keys ≡ x = ap (λ i. record { at = i; stack = p.stack; keys = t.keys; height = p.height }) (omega arith) in
    let runs : RunsTo spend ops witness k x = subst (RunsTo spend ops witness k) here t.runs in
    let same : p.counted + op_count op ≡ counted_in (take (k + 1) ops) + t.keys = omega arith in
    failing
    (not_over spend ops witness k x runs (omega arith))
    (not_misplaced ops k op rest e (follows (take k ops) op p.open_ifs ifs t.nest o))
    (record { point = x; runs = runs; comes = refl; op = op; rest = rest; here = e; fails = subst (λ n. Fails (effect spend n op p.stack) c) same f })

-- one opcode of the list
module _ (spend : Spend) (ops : List Op) (witness : List (List ℕ)) (k : ℕ) (p : RunState) (op : Op) (rest : List Op) (t : Tied spend ops witness k p) (e : drop k ops ≡ op ∷ rest) where
  settles : (ifs : List Bool) (done : Effect) → p.counted + op_count op ≤ 201 → open_ifs_after op p.open_ifs ≡ Ok ifs → p.ahead ≡ 0 → effect spend (p.counted + op_count op) op p.stack ≡ Ok done → (b : Bool) → nat_le (length done.stack) 1000 ≡ b
      → Passed spend ops witness k (result_if b StackTooTall (Ok (record { ahead = jump_length done.jump rest; stack = done.stack; counted = p.counted + op_count op + done.keys; open_ifs = ifs; height = max p.height (length done.stack) })))
  settles ifs done l o a f true low = runs_on spend ops witness k p op rest ifs done t e l o a f (leb-true (length done.stack) 1000 low)
  settles ifs done l o a f false high = fails_at spend ops witness k p op rest ifs StackTooTall t e l o a (subst (λ r. Fails r StackTooTall) (sym f) (leb-false (length done.stack) 1000 high, refl))

  does_it : (ifs : List Bool) → p.counted + op_count op ≤ 201 → open_ifs_after op p.open_ifs ≡ Ok ifs → p.ahead ≡ 0 → (r : Result Effect Cause) → effect spend (p.counted + op_count op) op p.stack ≡ r → Passed spend ops witness k (r >>= state_after_effect rest (p.counted + op_count op) ifs p.height)
  does_it ifs l o a (Ok done) f = settles ifs done l o a f (nat_le (length done.stack) 1000) refl
  does_it ifs l o a (Err c) f = fails_at spend ops witness k p op rest ifs c t e l o a (subst (λ r. Fails r c) (sym f) refl)

  jumps_or_runs : (ifs : List Bool) → p.counted + op_count op ≤ 201 → open_ifs_after op p.open_ifs ≡ Ok ifs → (n : ℕ) → p.ahead ≡ n → Passed spend ops witness k (state_after_skip_or_run spend op rest n p (p.counted + op_count op) ifs)
  jumps_or_runs ifs l o zero a = does_it ifs l o a (effect spend (p.counted + op_count op) op p.stack) refl
  jumps_or_runs ifs l o (suc n) a = jumps_on spend ops witness k p op rest ifs n t e l o a

  placed_or_not : p.counted + op_count op ≤ 201 → (r : Result (List Bool) Cause) → open_ifs_after op p.open_ifs ≡ r → Passed spend ops witness k (r >>= state_after_skip_or_run spend op rest p.ahead p (p.counted + op_count op))
  placed_or_not l (Ok ifs) o = jumps_or_runs ifs l o p.ahead refl
  placed_or_not l (Err c) o =
      let more = counted_more k ops op rest e in
      let count = t.count in
      let r = refused (take k ops) op p.open_ifs c t.flagged o in
      subst (FaultAt spend ops witness k) (sym r.cause) (misplaced (not_over spend ops witness k (point_of k p t.keys) t.runs (omega arith)) (record { op = op; rest = rest; here = e; refused = r.never }))

  counted_or_not : (b : Bool) → nat_le (p.counted + op_count op) 201 ≡ b → Passed spend ops witness k (result_if b TooManyOps (open_ifs_after op p.open_ifs >>= state_after_skip_or_run spend op rest p.ahead p (p.counted + op_count op)))
  counted_or_not true f = placed_or_not (leb-true (p.counted + op_count op) 201 f) (open_ifs_after op p.open_ifs) refl
  counted_or_not false f =
      let more = counted_more k ops op rest e in
      let count = t.count in
      let whole = stands_within k ops op rest e in
      let high : 201 < p.counted + op_count op = leb-false (p.counted + op_count op) 201 f in
      too_many (record { within = omega arith; point = point_of k p t.keys; runs = t.runs; above = omega arith })

  pub passes : Passed spend ops witness k (state_after spend op rest p)
  unfolding state_after
  passes = counted_or_not (nat_le (p.counted + op_count op) 201) refl

-- what an outcome says
abbrev pub Verdict : Spend → List Op → List (List ℕ) → Outcome → Type 0
Verdict spend ops witness (Clean counted height) = IsClean spend ops witness counted height
Verdict spend ops witness (Stopped at cause) = StopsAt spend ops witness at cause

-- the end of the list
module _ (spend : Spend) (ops : List Op) (witness : List (List ℕ)) (short : AreShort witness) (p : RunState) (t : Tied spend ops witness (length ops) p) where
  runs_out : RunsTo spend ops witness (length ops) (record { at = length ops; stack = p.stack; keys = t.keys; height = p.height })
  runs_out =
      let inside = t.inside in
      let here : point_of (length ops) p t.keys ≡ record { at = length ops; stack = p.stack; keys = t.keys; height = p.height } = ap (λ i. record { at = i; stack = p.stack; keys = t.keys; height = p.height }) (omega arith) in
      subst (RunsTo spend ops witness (length ops)) here t.runs

  none_open : p.open_ifs ≡ [] → HasOpen true ops → ⊥
  none_open e h =
      let f : flags ops [] ≡ Ok [] = ap (λ xs. flags xs []) (sym (take-length ops)) ∙ t.flagged ∙ ap Ok e in
      let q = open_flags true ops [] h f in
      let r : ◌≡◌ {A = List Bool} [] (q.0 ∷ q.1) = q.2 in
      cc

  all_placed : (before rest : List Op) (op : Op) → ops ≡ before ++ op ∷ rest → MayFollow before op
  all_placed before rest op e =
      let f : drop (length before) ops ≡ op ∷ rest = ap (drop (length before)) e ∙ drop-append_seam before (op ∷ rest) in
      let g : take (length before) ops ≡ before = ap (take (length before)) e ∙ take-append_seam before (op ∷ rest) in
      let w = stands_within (length before) ops op rest f in
      subst (λ xs. MayFollow xs op) g (t.placed (length before) op rest (omega arith) f)

  true_or_not : p.open_ifs ≡ [] → (last : List ℕ) → p.stack ≡ last ∷ [] → (b : Bool) → truth last ≡ b → Verdict spend ops witness (if b then Clean p.counted p.height else Stopped (length ops) FalseEnd)
  true_or_not e last f true h = record {
    short = short;
    placed = all_placed;
    closed = none_open e;
    keys = t.keys;
    last = last;
    runs = subst (λ s. RunsTo spend ops witness (length ops) (record { at = length ops; stack = s; keys = t.keys; height = p.height })) f runs_out;
    holds = h;
    sum = t.count ∙ ap (λ xs. counted_in xs + t.keys) (take-length ops);
    limit = t.limit;
  }
  true_or_not e last f false h = false_end short t.faultless (none_open e) runs_out f h

  ends_so : (ifs : List Bool) (stack : Elements) → p.open_ifs ≡ ifs → p.stack ≡ stack → Verdict spend ops witness (at_end (length ops) ifs stack p.counted p.height)
  ends_so (b ∷ ifs) stack e f = open_end short t.faultless (nest_open b ifs ops (subst (Nest (b ∷ ifs)) (take-length ops) (subst (λ fs. Nest fs (take (length ops) ops)) e t.nest)))
  ends_so [] [] e f = not_one short t.faultless (none_open e) runs_out (λ g. let h : length p.stack ≡ 0 = ap length f in omega arith)
  ends_so [] (x ∷ []) e f = true_or_not e x f (truth x) refl
  ends_so [] (x ∷ y ∷ stack) e f = not_one short t.faultless (none_open e) runs_out (λ g. let h : length p.stack ≡ suc (suc (length stack)) = ap length f in omega arith)

  pub finishes : Verdict spend ops witness (at_end (length ops) p.open_ifs p.stack p.counted p.height)
  finishes = ends_so p.open_ifs p.stack refl refl

onward_so : (spend : Spend) (ops : List Op) (witness : List (List ℕ)) (k : ℕ) (rest : List Op) → AreShort witness → ((p : RunState) → Tied spend ops witness (k + 1) p → Verdict spend ops witness (outcome_from spend (k + 1) rest p)) → (r : Result RunState Cause) → AreFaultless spend ops witness k → Passed spend ops witness k r → Verdict spend ops witness (onward k r (outcome_from spend (k + 1) rest))
onward_so spend ops witness k rest short h (Ok p) n t = h p t
onward_so spend ops witness k rest short h (Err c) n f = least_fault short n f

goes_so : (spend : Spend) (ops : List Op) (witness : List (List ℕ)) → AreShort witness → (rest : List Op) (k : ℕ) (p : RunState) → drop k ops ≡ rest → k + length rest ≡ length ops → Tied spend ops witness k p → Verdict spend ops witness (outcome_from spend k rest p)
goes_so spend ops witness short [] k p e l t =
    let f : k ≡ length ops = omega arith in
    subst (λ j. Verdict spend ops witness (at_end j p.open_ifs p.stack p.counted p.height)) (sym f) (finishes spend ops witness short p (subst (λ j. Tied spend ops witness j p) f t))
goes_so spend ops witness short (op ∷ rest) k p e l t =
    onward_so spend ops witness k rest short (λ q. goes_so spend ops witness short rest (k + 1) q (drop_more k ops op rest e) (omega arith)) (state_after spend op rest p) t.faultless (passes spend ops witness k p op rest t e)

starts : (spend : Spend) (ops : List Op) (witness : List (List ℕ)) → Tied spend ops witness 0 (start (reverse witness))
starts spend ops witness = record {
  keys = 0;
  runs = subst (λ n. RunsTo spend ops witness 0 (record { at = 0; stack = reverse witness; keys = 0; height = n })) (sym (length-reverse witness)) (record { chain = ends; reached = omega arith });
  inside = omega arith;
  count = refl;
  limit = omega arith;
  nest = no_more;
  flagged = refl;
  faultless = λ j c l f. absurd (omega arith);
  placed = λ j op rest l f. absurd (omega arith);
}

-- an item is long
long_of : (witness : List (List ℕ)) → list_any is_long witness ≡ true → Any (λ item. 520 < length item) witness
long_of [] e = absurd (true≢false (sym e))
long_of (x ∷ xs) e =
    ⊎_elim
    (λ h. (0, x, omega arith, refl, ltb-true 520 (length x) h))
    (λ h. let a = long_of xs h in let l = a.2 in (suc a.0, a.1, omega arith, a.3, a.4))
    (or_cases (is_long x) (list_any is_long xs) e)

-- or all are short
short_of : (witness : List (List ℕ)) → list_any is_long witness ≡ false → AreShort witness
short_of [] e k d l = absurd (omega arith)
short_of (x ∷ xs) e zero d l = ltb-false 520 (length x) ((or_parts (is_long x) (list_any is_long xs) e).0)
short_of (x ∷ xs) e (suc k) d l = short_of xs ((or_parts (is_long x) (list_any is_long xs) e).1) k d (omega arith)

-- what the function answers holds
pub holds_so : (spend : Spend) (ops : List Op) (witness : List (List ℕ)) → Verdict spend ops witness (outcome spend ops witness)
holds_so spend ops witness = by (list_any is_long witness) refl
  where
    by : (b : Bool) → list_any is_long witness ≡ b → Verdict spend ops witness (if b then Stopped 0 ItemTooLong else outcome_from spend 0 ops (start (reverse witness)))
    by true e = long_item (long_of witness e)
    by false e = goes_so spend ops witness (short_of witness e) ops 0 (start (reverse witness)) refl (omega arith) (starts spend ops witness)
