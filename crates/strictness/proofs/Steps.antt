-- One turn of a branch, and entries that are popped.
use Rattle.std.proofs.Common.{◌≡◌, ◌++◌, min, ℕ, suc, zero, ◌+◌, ◌-◌, ◌<◌, ◌≤◌, Bool, true, false, ◌&&◌, ◌||◌, ◌==◌, List, [], ◌∷◌, length, get_or, take, drop, Option, Some, None, sym, ap, ◌∙◌, subst, refl, arith}
use Rattle.std.specs.Prelude.{is_some, Result, Ok, Err, IfOk, IfSome}
use Rattle.std.specs.declared.alloc.AllocError.{AllocError}
use Rattle.std.specs.Option.{option_or}
use Rattle.std.specs.List.{list_any}
use Rattle.std.proofs.lemmas.List.{drop_more, length-take-le, take_min}
use Rattle.std.proofs.lemmas.Bool.{false≢true, eqb-true, ne_eqb}
use Rattle.std.proofs.Math.Nat.{min_comm, min-le_left, min-le_right, min-eq_left}
use Rattle.std.proofs.Math.Seq.{take-append_seam}
use Rattle.script.specs.declared.opcode.Op.{Op}
use Rattle.strictness.specs.declared.entries.Bytes.{Bytes}
use Rattle.strictness.specs.declared.branches.Mode.{Mode}
use Rattle.strictness.specs.declared.branches.Mode.TheVariants.{Skipping, Lost}
use Rattle.strictness.specs.declared.branches.Branch.{Branch}
use Rattle.strictness.specs.declared.branches.Turn.{Turn}
use Rattle.strictness.specs.declared.branches.Turn.TheVariants as turns
use Rattle.strictness.specs.Words.{Word, top_of, below}
use Rattle.strictness.specs.Turns.{Step, next, after_else, after_end, both, ends, stops, step_of, IsTurn, is_no_key}
use Rattle.strictness.specs.Exact.{mode_after, by_step, is_exact, ends_refused, depth_of, is_exact_from, are_exact_from}

-- a branch that made a turn goes on by what the definition says of it
pub taken : (go : Mode → List Word → Bool) (s : Step) (w : List Word) (t : Step × List Word) → IsTurn s w t → by_step go t.0 t.1 ≡ by_step go s w
taken go next w t e = ap (λ (p : Step × List Word). by_step go p.0 p.1) e
taken go after_else w t e = ap (λ (p : Step × List Word). by_step go p.0 p.1) e
taken go after_end w t e = ap (λ (p : Step × List Word). by_step go p.0 p.1) e
taken go both w t e = ap (λ (p : Step × List Word). by_step go p.0 p.1) e
taken go (ends fault b) w t e = ap (λ (s : Step). by_step go s t.1) e
taken go stops w t e = ap (λ (s : Step). by_step go s t.1) e

-- a step and a stack are a turn to them
turn_is : (s : Step) (w : List Word) → IsTurn s w (s, w)
turn_is next w = refl
turn_is after_else w = refl
turn_is after_end w = refl
turn_is both w = refl
turn_is (ends fault b) w = refl
turn_is stops w = refl

pub turned : (s s' : Step) (w w' : List Word) → s ≡ s' → w ≡ w' → IsTurn s w (s', w')
turned s s' w w' e f = subst (λ (v : List Word). IsTurn s w (s', v)) f (subst (λ (t : Step). IsTurn s w (t, w)) e (turn_is s w))

pub and_assoc : (a b c : Bool) → (a && b && c) ≡ (a && (b && c))
and_assoc true b c = refl
and_assoc false b c = refl

pub and_true : (a : Bool) → (a && true) ≡ a
and_true true = refl
and_true false = refl

pub and_false : (a : Bool) → (a && false) ≡ false
and_false true = refl
and_false false = refl

-- a branch splits: its second part waits
pub split_off : (a x y z : Bool) → (a && ((x && y) && z)) ≡ (a && (x && (y && z)))
split_off a x y z = ap (λ b. a && b) (and_assoc x y z)

-- a strict end is kept
pub kept : (a z : Bool) (n : ℕ) → 0 < n → (a && (false && z)) ≡ ((n == 0) && z)
kept a z zero l = absurd (omega (arith, l))
kept a z (suc n) l = and_false a ∙ sym (ap (λ b. b && z) (ne_eqb (suc n) 0 (λ e. omega (arith, e))))

pub drop_one : (n : ℕ) (w : List Word) → drop (suc n) w ≡ drop n (below w)
drop_one zero [] = refl
drop_one (suc n) [] = refl
drop_one n (x ∷ xs) = refl

pub drop_two : (n : ℕ) (d w w' : List Word) (count i : ℕ) → count - i ≡ suc n → count - (i + 1) ≡ n → d ≡ drop (count - i) w → w' ≡ below w → d ≡ drop (count - (i + 1)) w'
drop_two n d w w' count i e f is joint = is ∙ ap (λ k. drop k w) e ∙ drop_one n w ∙ ap (λ k. drop k (below w)) (sym f) ∙ ap (λ v. drop (count - (i + 1)) v) (sym joint)

-- one entry more is popped
pub dropped_more : (d w w' : List Word) (count i : ℕ) → i < count → d ≡ drop (count - i) w → w' ≡ below w → d ≡ drop (count - (i + 1)) w'
dropped_more d w w' count i l is joint = drop_two (count - (i + 1)) d w w' count i (omega arith) refl is joint

pub dropped_all : (d w : List Word) (count i : ℕ) → count ≤ i → d ≡ drop (count - i) w → w ≡ d
dropped_all d w count i l is = let e : count - i ≡ 0 = omega arith in sym (is ∙ ap (λ k. drop k w) e)

pub or_assoc : (a b c : Bool) → (a || (b || c)) ≡ ((a || b) || c)
or_assoc true b c = refl
or_assoc false b c = refl

pub or_false : (a : Bool) → (a || false) ≡ a
or_false true = refl
or_false false = refl

pub some_or : (a b : Option Bytes) → is_some (option_or a b) ≡ (is_some a || is_some b)
some_or None b = refl
some_or (Some x) b = refl

pub any_one : (n : ℕ) (w : List Word) → list_any is_no_key (take (suc n) w) ≡ (is_no_key (top_of w) || list_any is_no_key (take n (below w)))
any_one zero [] = refl
any_one (suc n) [] = refl
any_one n (x ∷ xs) = refl

keys_two : (n : ℕ) (whole : Bool) (first b joint : Option Bytes) (w w' : List Word) (count i : ℕ) → count - i ≡ suc n → count - (i + 1) ≡ n
    → whole ≡ (is_some first || list_any is_no_key (take (count - i) w)) → is_some b ≡ is_no_key (top_of w) → joint ≡ option_or first b → w' ≡ below w
    → whole ≡ (is_some joint || list_any is_no_key (take (count - (i + 1)) w'))
keys_two n whole first b joint w w' count i e f is new joined rest =
    is
    ∙ ap (λ k. is_some first || list_any is_no_key (take k w)) e
    ∙ ap (λ p. is_some first || p) (any_one n w)
    ∙ or_assoc (is_some first) (is_no_key (top_of w)) (list_any is_no_key (take n (below w)))
    ∙ ap (λ p. (is_some first || p) || list_any is_no_key (take n (below w))) (sym new)
    ∙ ap (λ p. p || list_any is_no_key (take n (below w))) (sym (some_or first b) ∙ ap (λ o. is_some o) (sym joined))
    ∙ ap (λ k. is_some joint || list_any is_no_key (take k (below w))) (sym f)
    ∙ ap (λ v. is_some joint || list_any is_no_key (take (count - (i + 1)) v)) (sym rest)

-- one key more is popped
pub keys_more : (whole : Bool) (first b joint : Option Bytes) (w w' : List Word) (count i : ℕ) → i < count
    → whole ≡ (is_some first || list_any is_no_key (take (count - i) w)) → is_some b ≡ is_no_key (top_of w) → joint ≡ option_or first b → w' ≡ below w
    → whole ≡ (is_some joint || list_any is_no_key (take (count - (i + 1)) w'))
keys_more whole first b joint w w' count i l is new joined rest = keys_two (count - (i + 1)) whole first b joint w w' count i (omega arith) refl is new joined rest

pub keys_all : (whole : Bool) (first : Option Bytes) (w : List Word) (count i : ℕ) → count ≤ i → whole ≡ (is_some first || list_any is_no_key (take (count - i) w)) → is_some first ≡ whole
keys_all whole first w count i l is = let e : count - i ≡ 0 = omega arith in sym (is ∙ ap (λ k. is_some first || list_any is_no_key (take k w)) e ∙ or_false (is_some first))

-- what is copied to the front is the first 75 bytes
pub first_copied : (item copy rest : List ℕ) (size k : ℕ) → size ≡ min (length item) 75 → copy ≡ take k item → k ≡ size → take (min size 75) (copy ++ rest) ≡ take 75 item
first_copied item copy rest size k e c s =
    let low : size ≤ length item = subst (λ n. n ≤ length item) (sym e) (min-le_left (length item) 75) in
    let few : size ≤ 75 = subst (λ n. n ≤ 75) (sym e) (min-le_right (length item) 75) in
    let count : length copy ≡ size = ap length (c ∙ ap (λ n. take n item) s) ∙ length-take-le size item low in
    ap (λ n. take n (copy ++ rest)) (min-eq_left few ∙ sym count)
    ∙ take-append_seam copy rest
    ∙ c
    ∙ ap (λ n. take n item) (s ∙ e ∙ min_comm (length item) 75)
    ∙ take_min 75 item

-- one branch more is followed
pub carried : (s r x w s' b w' : Bool) → (s && (x && w)) ≡ (s' && (b && w')) → (s && (r && (x && w))) ≡ (s' && ((r && b) && w'))
carried s true x w s' b w' e = e
carried s false x w s' b w' e = and_false s ∙ sym (and_false s')

-- no branch waits, each was refused at its end, and no strict end is kept
pub nothing_left : (ops : List Op) (waiting : List Branch) (a r e : Bool) → e ≡ (a && (r && are_exact_from ops waiting)) → (r && a && (length waiting == 0)) ≡ true → e ≡ true
nothing_left ops [] true true e is t = is
nothing_left ops (b ∷ bs) true true e is t = absurd (let l = eqb-true (length (b ∷ bs)) 0 t in omega (arith, l))
nothing_left ops bs true false e is t = absurd (false≢true t)
nothing_left ops bs false true e is t = absurd (false≢true t)
nothing_left ops bs false false e is t = absurd (false≢true t)

-- a branch that was taken from those that wait is followed
pub carried_on : (ops : List Op) (branch : Branch) (waiting rest others : List Branch) (e s r s' b r' : Bool) → e ≡ (s && (r && are_exact_from ops waiting)) → waiting ≡ branch ∷ rest
    → (s && (is_exact_from ops branch && are_exact_from ops rest)) ≡ (s' && (b && are_exact_from ops others)) → r' ≡ (r && b) → e ≡ (s' && (r' && are_exact_from ops others))
carried_on ops branch waiting rest others e s r s' b r' whole taken h j =
    whole
    ∙ ap (λ (w : List Branch). s && (r && are_exact_from ops w)) taken
    ∙ carried s r (is_exact_from ops branch) (are_exact_from ops rest) s' b (are_exact_from ops others) h
    ∙ ap (λ (t : Bool). s' && (t && are_exact_from ops others)) (sym j)

-- the opcode at an index, and those after it
pub here : (ops : List Op) (i : ℕ) (op : Op) → i < length ops → op ≡ get_or ops i op → drop i ops ≡ op ∷ drop (i + 1) ops
here ops i op l is = drop_more ops i op l ∙ ap (λ x. x ∷ drop (i + 1) ops) (sym is)

drop_past : (ops : List Op) (i : ℕ) → length ops ≤ i → drop i ops ≡ []
drop_past [] zero l = refl
drop_past [] (suc i) l = refl
drop_past (op ∷ ops) zero l = absurd (omega (arith, l))
drop_past (op ∷ ops) (suc i) l = drop_past ops i (omega (arith, l))

-- after the last opcode a branch ends as its stack says
pub ended : (whole s w b : Bool) (ops : List Op) (i : ℕ) (mode : Mode) (stack : List Word) → length ops ≤ i → whole ≡ (s && (is_exact (drop i ops) mode stack && w)) → b ≡ ends_refused mode stack → whole ≡ (s && (b && w))
ended whole s w b ops i mode stack l is r = is ∙ ap (λ x. s && (x && w)) (ap (λ rest. is_exact rest mode stack) (drop_past ops i l) ∙ sym r)

-- a branch that is lost is never exact
pub lost_exact : (ops : List Op) (w : List Word) → is_exact ops Lost w ≡ false
lost_exact [] w = refl
lost_exact (op ∷ ops) w = lost_exact ops w

pub lost_from : (ops : List Op) (turn : Turn) (w : List Word) (s r : Bool) → turn ≡ turns.Lost → (s && (by_step (is_exact ops) (step_of turn) w && r)) ≡ (s && (is_exact ops Lost w && r))
lost_from ops turn w s r e = ap (λ b. s && (b && r)) (ap (λ t. by_step (is_exact ops) (step_of t) w) e ∙ sym (lost_exact ops w))

pub lost_on : (ops ops' : List Op) (mode : Mode) (w : List Word) (s r : Bool) → mode ≡ Lost → (s && (is_exact ops mode w && r)) ≡ (s && (is_exact ops' Lost w && r))
lost_on ops ops' mode w s r e = ap (λ b. s && (b && r)) (ap (λ m. is_exact ops m w) e ∙ lost_exact ops w ∙ sym (lost_exact ops' w))

-- a branch that skips an opcode
pub skipped_on : (ops : List Op) (i : ℕ) (op : Op) (mode then : Mode) (d : ℕ) (t : Bool) (w : List Word) (s r : Bool) → i < length ops → op ≡ get_or ops i op → mode ≡ Skipping d t → then ≡ mode_after op d t
    → (s && (is_exact (drop i ops) mode w && r)) ≡ (s && (is_exact (drop (i + 1) ops) then w && r))
skipped_on ops i op mode then d t w s r l is m e =
    ap (λ b. s && (b && r)) (
    ap (λ (v : List Op). is_exact v mode w) (here ops i op l is)
    ∙ ap (λ (v : Mode). is_exact (op ∷ drop (i + 1) ops) v w) m
    ∙ ap (λ (v : Mode). is_exact (drop (i + 1) ops) v w) (sym e))

-- where a branch runs on, no IF was opened since it began to skip
low_option : (o : Option Mode) (i : ℕ) → IfSome o (λ m. depth_of m ≡ 0) → IfSome o (λ m. depth_of m ≤ i + 1)
low_option None i e = tt
low_option (Some m) i e = omega (arith, e)

pub low_mode : (r : Result (Option Mode) AllocError) (i : ℕ) → IfOk r (λ o. IfSome o (λ m. depth_of m ≡ 0)) → IfOk r (λ o. IfSome o (λ m. depth_of m ≤ i + 1))
low_mode (Ok o) i e = low_option o i e
low_mode (Err x) i e = tt
