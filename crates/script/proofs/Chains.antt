-- Chains of steps: each step leads to one place, so chains from one start agree.
use Rattle.std.proofs.Common.{◌≡◌, ℕ, zero, suc, ◌+◌, ◌-◌, ◌<◌, ◌≤◌, max, List, [], ◌∷◌, ◌++◌, length, take, drop, sym, ap, ◌∙◌, refl, arith, Result, Ok, add-one, length-drop, drop-drop, take-append-drop}
use Rattle.std.proofs.Math.Seq.{drop-nil}
use Rattle.script.specs.declared.opcode.Op.{Op}
use Rattle.script.specs.declared.spending.Spend.{Spend}
use Rattle.script.specs.declared.stops.Cause.{Cause}
use Rattle.script.specs.Step.{Effect, effect}
use Rattle.script.specs.Run.{counted_in, jump_length}
use Rattle.script.specs.Clean.{Point, Steps, Chain, ends, goes_on, RunsTo, start_on}
use Rattle.script.proofs.Blocks.{jumps_are}
use Rattle.script.proofs.Counting.{counted_in-append}

-- opcode k of a list
pub drop_more : (k : ℕ) (ops : List Op) (op : Op) (rest : List Op) → drop k ops ≡ op ∷ rest → drop (k + 1) ops ≡ rest
drop_more k ops op rest e = sym (drop-drop 1 k ops) ∙ ap (drop 1) e

pub take_one_more : (k : ℕ) (ops : List Op) (op : Op) (rest : List Op) → drop k ops ≡ op ∷ rest → take (k + 1) ops ≡ take k ops ++ op ∷ []
take_one_more k ops op rest e = let p : k + 1 ≡ suc k = omega arith in ap (λ n. take n ops) p ∙ by k ops e
  where
    by : (k : ℕ) (ops : List Op) → drop k ops ≡ op ∷ rest → take (suc k) ops ≡ take k ops ++ op ∷ []
    by k [] e = let f : ◌≡◌ {A = List Op} [] (op ∷ rest) = sym (drop-nil k) ∙ e in absurd (cc)
    by zero (x ∷ xs) e = let f : x ≡ op = cc in ap (λ y. y ∷ []) f
    by (suc k) (x ∷ xs) e = ap (λ ys. x ∷ ys) (by k xs e)

pub stands_within : (k : ℕ) (ops : List Op) (op : Op) (rest : List Op) → drop k ops ≡ op ∷ rest → k + 1 + length rest ≡ length ops
stands_within k ops op rest e =
    let p : length (drop k ops) ≡ length ops - k = length-drop k ops in
    let q : length (drop k ops) ≡ length rest + 1 = ap length e ∙ sym (add-one (length rest)) in
    omega arith

pub within_stands : (k : ℕ) (ops : List Op) → k < length ops → (op : Op) × (rest : List Op) × (drop k ops ≡ op ∷ rest)
within_stands k [] l = absurd (omega arith)
within_stands zero (x ∷ xs) l = (x, xs, refl)
within_stands (suc k) (x ∷ xs) l = within_stands k xs (omega arith)

-- where a step leads
abbrev pub point_after : Point → Effect → ℕ → Point
point_after x done over = record { at = x.at + 1 + over; stack = done.stack; keys = x.keys + done.keys; height = max x.height (length done.stack) }

-- a step at a known opcode
pub step_does : (spend : Spend) (ops : List Op) (x y : Point) (op : Op) (rest : List Op) (r : Result Effect Cause) → Steps spend ops x y → drop x.at ops ≡ op ∷ rest → effect spend (counted_in (take (x.at + 1) ops) + x.keys) op x.stack ≡ r → (done : Effect) × (r ≡ Ok done) × (y ≡ point_after x done (jump_length done.jump rest))
step_does spend ops x y op rest r s h e =
    let f : s.op ≡ op = let g = s.here in cc in
    let g : s.rest ≡ rest = let g = s.here in cc in
    let does : r ≡ Ok s.done = sym e ∙ ap (λ o. effect spend (counted_in (take (x.at + 1) ops) + x.keys) o x.stack) (sym f) ∙ s.does in
    (s.done, does, s.leads ∙ ap (point_after x s.done) (jumps_are s.rest s.done.jump s.over s.jumps ∙ ap (jump_length s.done.jump) g))

pub one_step : (spend : Spend) (ops : List Op) (x y z : Point) → Steps spend ops x y → Steps spend ops x z → y ≡ z
one_step spend ops x y z s t =
    let p = step_does spend ops x y t.op t.rest (Ok t.done) s t.here t.does in
    let e : t.done ≡ p.0 = ok_same t.done p.0 p.1 in
    p.2 ∙ ap (λ d. point_after x d (jump_length d.jump t.rest)) (sym e) ∙ ap (point_after x t.done) (sym (jumps_are t.rest t.done.jump t.over t.jumps)) ∙ sym t.leads
  where
    ok_same : (a b : Effect) → ◌≡◌ {A = Result Effect Cause} (Ok a) (Ok b) → a ≡ b
    ok_same a b e = cc

-- a chain that passed k is the beginning of one that went further
pub chain_rest : (spend : Spend) (ops : List Op) (k m : ℕ) (x y z : Point) → k ≤ m → k ≤ y.at → m ≤ z.at → Chain spend ops k x y → Chain spend ops m x z → Chain spend ops m y z
chain_rest spend ops k m x y z l ly lz ends d = d
chain_rest spend ops k m x y z l ly lz (goes_on {y = u} a s t c) ends = absurd (omega arith)
chain_rest spend ops k m x y z l ly lz (goes_on {y = u} a s t c) (goes_on {y = v} a' s' t' d) =
    chain_rest spend ops k m u y z l ly lz c (rw (one_step spend ops x u v s s') d)

chain_stays : (spend : Spend) (ops : List Op) (k : ℕ) (y z : Point) → k ≤ y.at → Chain spend ops k y z → y ≡ z
chain_stays spend ops k y z l ends = refl
chain_stays spend ops k y z l (goes_on a s t c) = absurd (omega arith)

-- a run comes to one place
pub one_run : (spend : Spend) (ops : List Op) (witness : List (List ℕ)) (k : ℕ) (y z : Point) → RunsTo spend ops witness k y → RunsTo spend ops witness k z → y ≡ z
one_run spend ops witness k y z r s = chain_stays spend ops k y z r.reached (chain_rest spend ops k k (start_on witness) y z (omega arith) r.reached s.reached r.chain s.chain)

-- one step more
pub chain_on : (spend : Spend) (ops : List Op) (k m : ℕ) (x y z : Point) → k ≤ m → y.at < m → Chain spend ops k x y → Steps spend ops y z → length z.stack ≤ 1000 → Chain spend ops m x z
chain_on spend ops k m x y z l b ends s t = goes_on b s t ends
chain_on spend ops k m x y z l b (goes_on {y = u} a s' t' c) s t = goes_on (omega arith) s' t' (chain_on spend ops k m u y z l b c s t)

pub chain_wider : (spend : Spend) (ops : List Op) (k m : ℕ) (x y : Point) → k ≤ m → Chain spend ops k x y → Chain spend ops m x y
chain_wider spend ops k m x y l ends = ends
chain_wider spend ops k m x y l (goes_on {y = u} a s t c) = goes_on (omega arith) s t (chain_wider spend ops k m u y l c)

-- keys only grow
pub keys_grow : (spend : Spend) (ops : List Op) (k : ℕ) (x y : Point) → Chain spend ops k x y → x.keys ≤ y.keys
keys_grow spend ops k x y ends = omega arith
keys_grow spend ops k x y (goes_on {y = u} a s t c) =
    let p = keys_grow spend ops k u y c in
    let q : u.keys ≡ x.keys + s.done.keys = ap (λ z. z.keys) s.leads in
    omega arith

-- as do the opcodes that count
pub counted_in_part : (k : ℕ) (ops : List Op) → counted_in (take k ops) ≤ counted_in ops
counted_in_part k ops =
    let e : counted_in (take k ops ++ drop k ops) ≡ counted_in (take k ops) + counted_in (drop k ops) = counted_in-append (take k ops) (drop k ops) in
    let f : counted_in (take k ops ++ drop k ops) ≡ counted_in ops = ap counted_in (take-append-drop k ops) in
    omega arith
