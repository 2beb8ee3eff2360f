-- No run that goes the way of a branch which ends in consensus ends well.
use Rattle.std.proofs.Common.{◌≡◌, ℕ, zero, suc, ◌+◌, ◌-◌, Bool, true, false, not, ◌&&◌, ◌==◌, List, [], ◌∷◌, reverse, Option, Some, None, Result, Ok, Err, sym, ap, ◌∙◌, subst, refl, arith}
use Rattle.std.specs.Prelude.{if◌then◌else◌, nat_le, All, IfOk}
use Rattle.std.specs.List.{list_any}
use Rattle.std.proofs.lemmas.List.Elements.{All-head, All-tail}
use Rattle.std.proofs.lemmas.Bool.{false≢true}
use Rattle.std.specs.declared.alloc.AllocError.{AllocError}
use Rattle.script.specs.declared.opcode.Op.{Op}
use Rattle.script.specs.declared.opcode.Op.TheVariants.{If, NotIf, Else, EndIf}
use Rattle.script.specs.declared.spending.Spend.{Spend}
use Rattle.script.specs.declared.limits.TheConstants.{MAX_OPS_PER_SCRIPT}
use Rattle.script.specs.Spelling.{IsOp}
use Rattle.script.specs.Step.{Elements, truth}
use Rattle.script.specs.Run.{is_long, op_count}
use Rattle.strictness.specs.declared.branches.Mode.{Mode}
use Rattle.strictness.specs.declared.branches.Mode.TheVariants.{Running, Skipping, Lost}
use Rattle.strictness.specs.declared.ways.Choice.{Choice}
use Rattle.strictness.specs.declared.ways.Fate.{Fate}
use Rattle.strictness.specs.Balance.{is_balanced}
use Rattle.strictness.specs.Machine.{Oracle, Left, ◌>>=◌, State, runs, past, effect}
use Rattle.strictness.specs.Words.{Word, item, known, hashed, sized, answer, top_of, below, truth_of}
use Rattle.strictness.specs.Turns.{Step, next, stops, if_truth, turn_of}
use Rattle.strictness.specs.Exact.{is_refused_end}
use Rattle.strictness.specs.Ways.{Told, told, is_dead, way_at, chosen, by_way, if_false, last_end, fate_of, agrees, ends_well_by, NobodySpendsBy}
use Rattle.strictness.proofs.Standing.{Stands, Fits, popped}
use Rattle.strictness.proofs.Following.{Follows, follows}
use Rattle.strictness.proofs.Unspendable.{state, Never, limited, IsPlace, Runs, Skips, runs_true, runs_false, end_is, mode_if, opened_place, opened_runs, opened_skips, ran_runs, ran_skips, deeper, not_zero, and_false_right, short_items}

by_truth : (at : ℕ) (b : List ℕ) (t : Bool) → is_dead (if_false at b (Some t)) ≡ true → not t ≡ true
by_truth at b true e = e
by_truth at b false e = refl

-- where a branch ends after the last opcode, consensus refuses that end
dead_end : (at : ℕ) (w : List Word) → is_dead (last_end at Running w) ≡ true → is_refused_end w ≡ true
dead_end at [] e = e
dead_end at (known b ∷ []) e = by_truth at b (truth b) e
dead_end at (item ∷ []) e = e
dead_end at (hashed ∷ []) e = e
dead_end at (sized ∷ []) e = e
dead_end at (answer ∷ []) e = e
dead_end at (x ∷ y ∷ w) e = refl

-- an IF or NOTIF whose condition the witness decides: a run either goes the other way, or ends by what is left
chosen_by : (go : Mode → List Word → Told) (way : Option Bool) (at : ℕ) (w : List Word) (t : Bool) (branches : List Bool) (tail : Bool → Bool) → is_dead (chosen go way at w) ≡ true
    → ((u : Bool) → is_dead (go (mode_if u) w) ≡ true → tail u ≡ false) → (agrees way (t ∷ branches) && tail t) ≡ false
chosen_by go None at w t branches tail e h = absurd (false≢true e)
chosen_by go (Some true) at w true branches tail e h = h true e
chosen_by go (Some true) at w false branches tail e h = refl
chosen_by go (Some false) at w true branches tail e h = refl
chosen_by go (Some false) at w false branches tail e h = h false e

known_by : (go : Mode → List Word → Told) (way : Option Bool) (at : ℕ) (w : List Word) (t : Bool) → is_dead (by_way go way at (if_truth true (Some t)) w) ≡ true → is_dead (go (mode_if t) w) ≡ true
known_by go way at w true e = e
known_by go way at w false e = e

known_not_by : (go : Mode → List Word → Told) (way : Option Bool) (at : ℕ) (w : List Word) (t : Bool) → is_dead (by_way go way at (if_truth false (Some t)) w) ≡ true → is_dead (go (mode_if (not t)) w) ≡ true
known_not_by go way at w true e = e
known_not_by go way at w false e = e

if_by : (go : Mode → List Word → Told) (way : Option Bool) (at : ℕ) (w : List Word) (v : Word) (x : List ℕ) (branches : List Bool) (tail : Bool → Bool) → Stands v x → is_dead (by_way go way at (if_truth true (truth_of v)) w) ≡ true
    → ((u : Bool) → is_dead (go (mode_if u) w) ≡ true → tail u ≡ false) → (agrees way (truth x ∷ branches) && tail (truth x)) ≡ false
if_by go way at w (known b) x branches tail p e h =
    and_false_right (agrees way (truth x ∷ branches)) (tail (truth x)) (ap (λ (z : List ℕ). tail (truth z)) p.0 ∙ h (truth b) (known_by go way at w (truth b) e))
if_by go way at w item x branches tail p e h = chosen_by go way at w (truth x) branches tail e h
if_by go way at w hashed x branches tail p e h = chosen_by go way at w (truth x) branches tail e h
if_by go way at w sized x branches tail p e h = chosen_by go way at w (truth x) branches tail e h
if_by go way at w answer x branches tail p e h = chosen_by go way at w (truth x) branches tail e h

not_if_by : (go : Mode → List Word → Told) (way : Option Bool) (at : ℕ) (w : List Word) (v : Word) (x : List ℕ) (branches : List Bool) (tail : Bool → Bool) → Stands v x → is_dead (by_way go way at (if_truth false (truth_of v)) w) ≡ true
    → ((u : Bool) → is_dead (go (mode_if u) w) ≡ true → tail u ≡ false) → (agrees way (not (truth x) ∷ branches) && tail (not (truth x))) ≡ false
not_if_by go way at w (known b) x branches tail p e h =
    and_false_right (agrees way (not (truth x) ∷ branches)) (tail (not (truth x))) (ap (λ (z : List ℕ). tail (not (truth z))) p.0 ∙ h (not (truth b)) (known_not_by go way at w (truth b) e))
not_if_by go way at w item x branches tail p e h = chosen_by go way at w (not (truth x)) branches tail e h
not_if_by go way at w hashed x branches tail p e h = chosen_by go way at w (not (truth x)) branches tail e h
not_if_by go way at w sized x branches tail p e h = chosen_by go way at w (not (truth x)) branches tail e h
not_if_by go way at w answer x branches tail p e h = chosen_by go way at w (not (truth x)) branches tail e h

-- an opcode that opens, turns and closes no branch
ran_by : (go : Mode → List Word → Told) (way : Option Bool) (at : ℕ) (s : Step) (w : List Word) (o : Option Left) (branches : List Bool) (c : ℕ) (last : State → Bool) → Follows (s, w) o → is_dead (by_way go way at s w) ≡ true
    → ((xs : Elements) (n : ℕ) → is_dead (go Running w) ≡ true → Fits w xs → last (state branches xs (c + n)) ≡ false) → Never (o >>= λ l. Some (state branches l.0 (c + l.1))) last
ran_by go way at s w None branches c last f e h = tt
ran_by go way at next w (Some l) branches c last f e h = h l.0 l.1 e f
ran_by go way at stops w (Some l) branches c last f e h = absurd (false≢true e)
ran_by go way at s w (Some l) branches c last f e h = absurd f

module _ (holds : Oracle) (s : Spend) (choices : List Choice) where
  -- what is asked of a state after an opcode
  abbrev pub after : List Op → ℕ → State → Bool
  after ops at q = agrees (way_at choices at) q.branches && ends_well_by holds s choices ops (at + 1) q

  later : (ops : List Op) (at : ℕ) (q : State) → ends_well_by holds s choices ops (at + 1) q ≡ false → after ops at q ≡ false
  later ops at q e = and_false_right (agrees (way_at choices at) q.branches) (ends_well_by holds s choices ops (at + 1) q) e

  next_by : (op : Op) (ops : List Op) (at : ℕ) (branches : List Bool) (xs : Elements) (c : ℕ) → Never (past holds s op (state branches xs (c + op_count op))) (after ops at) → ends_well_by holds s choices (op ∷ ops) at (state branches xs c) ≡ false
  next_by op ops at branches xs c n = limited (nat_le (c + op_count op) MAX_OPS_PER_SCRIPT) (state branches xs (c + op_count op)) (past holds s op) (after ops at) n

  pub never_by : (ops : List Op) (at : ℕ) (mode : Mode) (w : List Word) (ifs branches : List Bool) (xs : Elements) (c : ℕ) → All IsOp ops → is_balanced ops ifs ≡ true → is_dead (fate_of choices ops at mode w) ≡ true
      → IsPlace mode ifs branches → Fits w xs → ends_well_by holds s choices ops at (state branches xs c) ≡ false
  never_by [] at Running w ifs branches xs c v b e pl f = end_is branches xs w (dead_end at w e) f
  never_by [] at (Skipping d t) w ifs branches xs c v b e pl f = absurd (false≢true e)
  never_by [] at Lost w ifs branches xs c v b e pl f = absurd (false≢true e)
  never_by (op ∷ ops) at Lost w ifs branches xs c v b e pl f = absurd (false≢true e)
  never_by (If ∷ ops) at Running w ifs branches xs c v b e pl f = next_by If ops at branches xs c (
      opened_runs truth (runs branches) branches xs _ w (after ops at) (runs_true ifs branches pl) f (λ x rest p g.
      if_by (fate_of choices ops (at + 1)) (way_at choices at) at (below w) (top_of w) x branches (λ u. ends_well_by holds s choices ops (at + 1) (state (u ∷ branches) rest (c + op_count If))) p e (λ u d.
      never_by ops (at + 1) (mode_if u) (below w) (false ∷ ifs) (u ∷ branches) rest _ (All-tail IsOp If ops v) b d (opened_place u ifs branches pl) g)))
  never_by (NotIf ∷ ops) at Running w ifs branches xs c v b e pl f = next_by NotIf ops at branches xs c (
      opened_runs (λ x. not (truth x)) (runs branches) branches xs _ w (after ops at) (runs_true ifs branches pl) f (λ x rest p g.
      not_if_by (fate_of choices ops (at + 1)) (way_at choices at) at (below w) (top_of w) x branches (λ u. ends_well_by holds s choices ops (at + 1) (state (u ∷ branches) rest (c + op_count NotIf))) p e (λ u d.
      never_by ops (at + 1) (mode_if u) (below w) (false ∷ ifs) (u ∷ branches) rest _ (All-tail IsOp NotIf ops v) b d (opened_place u ifs branches pl) g)))
  never_by (Else ∷ ops) at Running w [] branches xs c v b e pl f = absurd (false≢true b)
  never_by (Else ∷ ops) at Running w (true ∷ ifs) branches xs c v b e pl f = absurd (false≢true b)
  never_by (Else ∷ ops) at Running w (false ∷ ifs) [] xs c v b e pl f = absurd pl
  never_by (Else ∷ ops) at Running w (false ∷ ifs) (t ∷ branches) xs c v b e pl f = next_by Else ops at (t ∷ branches) xs c (
      later ops at (state (not t ∷ branches) xs _) (
      never_by ops (at + 1) (Skipping 0 false) w (true ∷ ifs) (not t ∷ branches) xs _ (All-tail IsOp Else ops v) b e (ap not pl.0, (λ h. refl), pl.1) f))
  never_by (EndIf ∷ ops) at Running w [] branches xs c v b e pl f = absurd (false≢true b)
  never_by (EndIf ∷ ops) at Running w (h ∷ ifs) [] xs c v b e pl f = absurd pl
  never_by (EndIf ∷ ops) at Running w (h ∷ ifs) (t ∷ branches) xs c v b e pl f = next_by EndIf ops at (t ∷ branches) xs c (
      later ops at (state branches xs _) (
      never_by ops (at + 1) Running w ifs branches xs _ (All-tail IsOp EndIf ops v) b e pl.1 f))
  never_by (op ∷ ops) at Running w ifs branches xs c v b e pl f = next_by op ops at branches xs c (
      ran_runs holds s op (runs branches) branches xs _ (after ops at) (runs_true ifs branches pl) (
      ran_by (fate_of choices ops (at + 1)) (way_at choices at) at (turn_of op w).0 (turn_of op w).1 (effect holds s (c + op_count op) op xs) branches _ (after ops at) (follows holds s (c + op_count op) op w xs (All-head IsOp op ops v) f) e (λ rest n d g.
      later ops at (state branches rest _) (
      never_by ops (at + 1) Running (turn_of op w).1 ifs branches rest _ (All-tail IsOp op ops v) b d pl g))))
  never_by (If ∷ ops) at (Skipping d t) w ifs branches xs c v b e pl f = next_by If ops at branches xs c (
      opened_skips truth (runs branches) branches xs _ (after ops at) (runs_false d t ifs branches pl) (
      later ops at (state (false ∷ branches) xs _) (
      never_by ops (at + 1) (Skipping (d + 1) t) w (false ∷ ifs) (false ∷ branches) xs _ (All-tail IsOp If ops v) b e (subst (λ (k : ℕ). Skips k t (false ∷ ifs) (false ∷ branches)) (deeper d) pl) f)))
  never_by (NotIf ∷ ops) at (Skipping d t) w ifs branches xs c v b e pl f = next_by NotIf ops at branches xs c (
      opened_skips (λ x. not (truth x)) (runs branches) branches xs _ (after ops at) (runs_false d t ifs branches pl) (
      later ops at (state (false ∷ branches) xs _) (
      never_by ops (at + 1) (Skipping (d + 1) t) w (false ∷ ifs) (false ∷ branches) xs _ (All-tail IsOp NotIf ops v) b e (subst (λ (k : ℕ). Skips k t (false ∷ ifs) (false ∷ branches)) (deeper d) pl) f)))
  never_by (Else ∷ ops) at (Skipping d t) w [] branches xs c v b e pl f = absurd (false≢true b)
  never_by (Else ∷ ops) at (Skipping d t) w (true ∷ ifs) branches xs c v b e pl f = absurd (false≢true b)
  never_by (Else ∷ ops) at (Skipping zero t) w (false ∷ ifs) [] xs c v b e pl f = absurd pl
  never_by (Else ∷ ops) at (Skipping zero false) w (false ∷ ifs) (u ∷ branches) xs c v b e pl f = absurd (false≢true (pl.1 refl))
  never_by (Else ∷ ops) at (Skipping zero true) w (false ∷ ifs) (u ∷ branches) xs c v b e pl f = next_by Else ops at (u ∷ branches) xs c (
      later ops at (state (not u ∷ branches) xs _) (
      never_by ops (at + 1) Running w (true ∷ ifs) (not u ∷ branches) xs _ (All-tail IsOp Else ops v) b e (ap not pl.0, pl.2) f))
  never_by (Else ∷ ops) at (Skipping (suc d) t) w (false ∷ ifs) [] xs c v b e pl f = absurd pl
  never_by (Else ∷ ops) at (Skipping (suc d) t) w (false ∷ ifs) (u ∷ branches) xs c v b e pl f = next_by Else ops at (u ∷ branches) xs c (
      later ops at (state (not u ∷ branches) xs _) (
      never_by ops (at + 1) (Skipping (suc d) t) w (true ∷ ifs) (not u ∷ branches) xs _ (All-tail IsOp Else ops v) b (sym (ap (λ (z : Bool). is_dead (fate_of choices ops (at + 1) (if z && t then Running else Skipping (suc d) t) w)) (not_zero d)) ∙ e) pl f))
  never_by (EndIf ∷ ops) at (Skipping d t) w [] branches xs c v b e pl f = absurd (false≢true b)
  never_by (EndIf ∷ ops) at (Skipping zero t) w (h ∷ ifs) [] xs c v b e pl f = absurd pl
  never_by (EndIf ∷ ops) at (Skipping zero t) w (h ∷ ifs) (u ∷ branches) xs c v b e pl f = next_by EndIf ops at (u ∷ branches) xs c (
      later ops at (state branches xs _) (
      never_by ops (at + 1) Running w ifs branches xs _ (All-tail IsOp EndIf ops v) b e pl.2 f))
  never_by (EndIf ∷ ops) at (Skipping (suc d) t) w (h ∷ ifs) [] xs c v b e pl f = absurd pl
  never_by (EndIf ∷ ops) at (Skipping (suc d) t) w (h ∷ ifs) (u ∷ branches) xs c v b e pl f = next_by EndIf ops at (u ∷ branches) xs c (
      later ops at (state branches xs _) (
      never_by ops (at + 1) (Skipping d t) w ifs branches xs _ (All-tail IsOp EndIf ops v) b (sym (shallower ops at w d t) ∙ e) pl f))
    where
      shallower : (ops : List Op) (at : ℕ) (w : List Word) (d : ℕ) (t : Bool) → is_dead (fate_of choices ops (at + 1) (if suc d == 0 then Running else Skipping (suc d - 1) t) w) ≡ is_dead (fate_of choices ops (at + 1) (Skipping d t) w)
      shallower ops at w d t =
          let k : suc d - 1 ≡ d = omega arith in
          ap (λ (z : Bool). is_dead (fate_of choices ops (at + 1) (if z then Running else Skipping (suc d - 1) t) w)) (not_zero d) ∙ ap (λ (n : ℕ). is_dead (fate_of choices ops (at + 1) (Skipping n t) w)) k
  never_by (op ∷ ops) at (Skipping d t) w ifs branches xs c v b e pl f = next_by op ops at branches xs c (
      ran_skips holds s op (runs branches) (state branches xs (c + op_count op)) (after ops at) (runs_false d t ifs branches pl) (
      later ops at (state branches xs (c + op_count op)) (
      never_by ops (at + 1) (Skipping d t) w ifs branches xs _ (All-tail IsOp op ops v) b e pl f)))

pub nobody_by : (choices : List Choice) (ops : List Op) → All IsOp ops → is_balanced ops [] ≡ true → is_dead (fate_of choices ops 0 Running []) ≡ true → NobodySpendsBy choices ops
nobody_by choices ops v b e holds s witness = by_length (list_any is_long witness) refl
  where
    by_length : (l : Bool) → list_any is_long witness ≡ l → (not l && ends_well_by holds s choices ops 0 (state [] (reverse witness) 0)) ≡ false
    by_length true t = refl
    by_length false t = never_by holds s choices ops 0 Running [] [] [] (reverse witness) 0 v b e tt (short_items witness t)

-- what a walk promises
pub promised_by : (r : Result Fate AllocError) (choices : List Choice) (ops : List Op) → IfOk r (λ f. told f ≡ fate_of choices ops 0 Running [])
    → IfOk r (λ f. is_dead (told f) ≡ true → All IsOp ops → is_balanced ops [] ≡ true → NobodySpendsBy choices ops)
promised_by (Ok f) choices ops h = λ d v b. nobody_by choices ops v b (sym (ap is_dead h) ∙ d)
promised_by (Err e) choices ops h = tt
