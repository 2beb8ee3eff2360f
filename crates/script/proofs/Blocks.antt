-- Jumps on the list: what the function counts is what the blocks say.
use Rattle.std.proofs.Common.{◌≡◌, ℕ, zero, suc, ◌+◌, ◌≤◌, Bool, true, false, not, List, [], ◌∷◌, ◌++◌, length, sym, ap, ◌∙◌, refl, arith, append_assoc, length-append, true≢false}
use Rattle.std.specs.Prelude.{IsTrue}
use Rattle.script.specs.declared.opcode.Op.{Op}
use Rattle.script.specs.declared.opcode.Op.TheVariants.{Push, Number, If, NotIf, Else, EndIf, Drop, Dup, Swap, Size, Equal, EqualVerify, Hash160, CheckSig, CheckMultiSig, CheckLockTimeVerify, CheckSequenceVerify}
use Rattle.script.specs.declared.jumps.Jump.{Jump}
use Rattle.script.specs.declared.jumps.Jump.TheVariants.{Next, AfterElse, AfterEndIf}
use Rattle.script.specs.Run.{skip_length, jump_length}
use Rattle.script.specs.Clean.{is_opener, is_single, IsBlock, no_more, one_more, an_else, a_branch, LeadsAfter, Jumps, onward, after_else, after_endif_for_else, to_list_end_for_else, after_endif, to_list_end}

-- the sorts of opcodes
pub data Sort : Op → Type 0 where
  opening : {op : Op} → IsTrue (is_opener op) → Sort op
  elsing : Sort Else
  ending : Sort EndIf
  single : {op : Op} → IsTrue (is_single op) → Sort op

pub sort_of : (op : Op) → Sort op
sort_of If = opening refl
sort_of NotIf = opening refl
sort_of Else = elsing
sort_of EndIf = ending
sort_of (Push item) = single refl
sort_of (Number n) = single refl
sort_of Drop = single refl
sort_of Dup = single refl
sort_of Swap = single refl
sort_of Size = single refl
sort_of Equal = single refl
sort_of EqualVerify = single refl
sort_of Hash160 = single refl
sort_of CheckSig = single refl
sort_of CheckMultiSig = single refl
sort_of CheckLockTimeVerify = single refl
sort_of CheckSequenceVerify = single refl

-- whether the search for a partner finds one
abbrev pub found : Bool → ℕ → List Op → Bool
found stop depth [] = false
found stop depth (If ∷ rest) = found stop (suc depth) rest
found stop depth (NotIf ∷ rest) = found stop (suc depth) rest
found stop zero (EndIf ∷ rest) = true
found stop (suc depth) (EndIf ∷ rest) = found stop depth rest
found true zero (Else ∷ rest) = true
found true (suc depth) (Else ∷ rest) = found true (suc depth) rest
found stop depth (op ∷ rest) = found stop depth rest

pub record Same (stop : Bool) (depth : ℕ) (xs : List Op) (n : ℕ) (stop' : Bool) (depth' : ℕ) (ys : List Op) : Type 0 where
  pub counted : skip_length stop depth xs ≡ n + skip_length stop' depth' ys
  pub seen : found stop depth xs ≡ found stop' depth' ys

same_single : (stop : Bool) (depth : ℕ) (op : Op) (rest : List Op) → IsTrue (is_single op) → Same stop depth (op ∷ rest) 1 stop depth rest
same_single stop depth (Push item) rest h = record { counted = omega arith; seen = refl }
same_single stop depth (Number n) rest h = record { counted = omega arith; seen = refl }
same_single stop depth If rest h = absurd (true≢false (sym h))
same_single stop depth NotIf rest h = absurd (true≢false (sym h))
same_single stop depth Else rest h = absurd (true≢false (sym h))
same_single stop depth EndIf rest h = absurd (true≢false (sym h))
same_single stop depth Drop rest h = record { counted = omega arith; seen = refl }
same_single stop depth Dup rest h = record { counted = omega arith; seen = refl }
same_single stop depth Swap rest h = record { counted = omega arith; seen = refl }
same_single stop depth Size rest h = record { counted = omega arith; seen = refl }
same_single stop depth Equal rest h = record { counted = omega arith; seen = refl }
same_single stop depth EqualVerify rest h = record { counted = omega arith; seen = refl }
same_single stop depth Hash160 rest h = record { counted = omega arith; seen = refl }
same_single stop depth CheckSig rest h = record { counted = omega arith; seen = refl }
same_single stop depth CheckMultiSig rest h = record { counted = omega arith; seen = refl }
same_single stop depth CheckLockTimeVerify rest h = record { counted = omega arith; seen = refl }
same_single stop depth CheckSequenceVerify rest h = record { counted = omega arith; seen = refl }

same_opener : (stop : Bool) (depth : ℕ) (op : Op) (rest : List Op) → IsTrue (is_opener op) → Same stop depth (op ∷ rest) 1 stop (suc depth) rest
same_opener stop depth (Push item) rest h = absurd (true≢false (sym h))
same_opener stop depth (Number n) rest h = absurd (true≢false (sym h))
same_opener stop depth If rest h = record { counted = omega arith; seen = refl }
same_opener stop depth NotIf rest h = record { counted = omega arith; seen = refl }
same_opener stop depth Else rest h = absurd (true≢false (sym h))
same_opener stop depth EndIf rest h = absurd (true≢false (sym h))
same_opener stop depth Drop rest h = absurd (true≢false (sym h))
same_opener stop depth Dup rest h = absurd (true≢false (sym h))
same_opener stop depth Swap rest h = absurd (true≢false (sym h))
same_opener stop depth Size rest h = absurd (true≢false (sym h))
same_opener stop depth Equal rest h = absurd (true≢false (sym h))
same_opener stop depth EqualVerify rest h = absurd (true≢false (sym h))
same_opener stop depth Hash160 rest h = absurd (true≢false (sym h))
same_opener stop depth CheckSig rest h = absurd (true≢false (sym h))
same_opener stop depth CheckMultiSig rest h = absurd (true≢false (sym h))
same_opener stop depth CheckLockTimeVerify rest h = absurd (true≢false (sym h))
same_opener stop depth CheckSequenceVerify rest h = absurd (true≢false (sym h))

same_else : (stop : Bool) (depth : ℕ) (rest : List Op) → Same stop (suc depth) (Else ∷ rest) 1 stop (suc depth) rest
same_else true depth rest = record { counted = omega arith; seen = refl }
same_else false depth rest = record { counted = omega arith; seen = refl }

same_else_false : (depth : ℕ) (rest : List Op) → Same false depth (Else ∷ rest) 1 false depth rest
same_else_false depth rest = record { counted = omega arith; seen = refl }

same_end : (stop : Bool) (depth : ℕ) (rest : List Op) → Same stop (suc depth) (EndIf ∷ rest) 1 stop depth rest
same_end stop depth rest = record { counted = omega arith; seen = refl }

-- one after another
joined : {a b c : Bool} {i j k : ℕ} {xs ys zs : List Op} {n m : ℕ} → Same a i xs n b j ys → Same b j ys m c k zs → Same a i xs (n + m) c k zs
joined {n = n} {m = m} s t =
    let p = s.counted in let q = t.counted in record { counted = omega arith; seen = s.seen ∙ t.seen }

-- a search goes over a block, at a depth where it does not look for an ELSE of that level
abbrev pub Skips : Bool → Bool → ℕ → Type 0
Skips false stop depth = Unit {0}
Skips true false depth = Unit {0}
Skips true true zero = ⊥
Skips true true (suc depth) = Unit {0}

skips_deep : (elses stop : Bool) (depth : ℕ) → Skips elses stop (suc depth)
skips_deep false stop depth = tt
skips_deep true false depth = tt
skips_deep true true depth = tt

same_else_skipped : (stop : Bool) (depth : ℕ) (rest : List Op) → Skips true stop depth → Same stop depth (Else ∷ rest) 1 stop depth rest
same_else_skipped false depth rest h = same_else_false depth rest
same_else_skipped true zero rest h = absurd h
same_else_skipped true (suc depth) rest h = same_else true depth rest

pub over_block : (elses : Bool) (block : List Op) → IsBlock elses block → (stop : Bool) (depth : ℕ) (rest : List Op) → Skips elses stop depth → Same stop depth (block ++ rest) (length block) stop depth rest
over_block elses block no_more stop depth rest s = record { counted = omega arith; seen = refl }
over_block elses block (one_more {op = op} {rest = more} h b) stop depth rest s =
    let p = same_single stop depth op (more ++ rest) h in let q = over_block elses more b stop depth rest s in
    let c = p.counted in let d = q.counted in
    record { counted = omega arith; seen = p.seen ∙ q.seen }
over_block elses block (an_else {rest = more} b) stop depth rest s =
    let p = same_else_skipped stop depth (more ++ rest) s in let q = over_block true more b stop depth rest s in
    let c = p.counted in let d = q.counted in
    record { counted = omega arith; seen = p.seen ∙ q.seen }
over_block elses block (a_branch {op = op} {inner = inner} {rest = more} h b b') stop depth rest s =
    let e : (inner ++ EndIf ∷ more) ++ rest ≡ inner ++ EndIf ∷ (more ++ rest) = append_assoc inner (EndIf ∷ more) rest in
    let p = same_opener stop depth op (inner ++ EndIf ∷ (more ++ rest)) h in
    let q = over_block true inner b stop (suc depth) (EndIf ∷ (more ++ rest)) (skips_deep true stop depth) in
    let r = same_end stop depth (more ++ rest) in
    let t = over_block elses more b' stop depth rest s in
    let c = p.counted in let d = q.counted in let f = r.counted in let g = t.counted in
    let l : length (inner ++ EndIf ∷ more) ≡ length inner + length (EndIf ∷ more) = length-append inner (EndIf ∷ more) in
    rw e (record { counted = omega arith; seen = p.seen ∙ q.seen ∙ r.seen ∙ t.seen })

-- the search is at its goal
pub data IsCloser : Bool → Op → Type 0 where
  an_end : {stop : Bool} → IsCloser stop EndIf
  an_else_too : IsCloser true Else

-- the list is blocks, each but the last ended by its ENDIF, and then the closer that the search is for
pub record Nested (stop : Bool) (xs : List Op) : Type 0 where
  pub block : List Op
  pub closer : Op
  pub after : List Op
  pub same : xs ≡ block ++ closer ∷ after
  pub closed : IsBlock (not stop) block
  pub closes : IsCloser stop closer

pub record Inner (P : List Op → Type 0) (xs : List Op) : Type 0 where
  pub block : List Op
  pub after : List Op
  pub same : xs ≡ block ++ EndIf ∷ after
  pub closed : IsBlock true block
  pub others : P after

abbrev pub Layers : Bool → ℕ → List Op → Type 0
Layers stop zero xs = Nested stop xs
Layers stop (suc depth) xs = Inner (Layers stop depth) xs

layers_single : (stop : Bool) (depth : ℕ) (op : Op) (rest : List Op) → IsTrue (is_single op) → Layers stop depth rest → Layers stop depth (op ∷ rest)
layers_single stop zero op rest h l = record { block = op ∷ l.block; closer = l.closer; after = l.after; same = ap (λ t. op ∷ t) l.same; closed = one_more h l.closed; closes = l.closes }
layers_single stop (suc depth) op rest h l = record { block = op ∷ l.block; after = l.after; same = ap (λ t. op ∷ t) l.same; closed = one_more h l.closed; others = l.others }

layers_else : (stop : Bool) (depth : ℕ) (rest : List Op) → Layers stop (suc depth) rest → Layers stop (suc depth) (Else ∷ rest)
layers_else stop depth rest l = record { block = Else ∷ l.block; after = l.after; same = ap (λ t. Else ∷ t) l.same; closed = an_else l.closed; others = l.others }

layers_else_false : (depth : ℕ) (rest : List Op) → Layers false depth rest → Layers false depth (Else ∷ rest)
layers_else_false zero rest l = record { block = Else ∷ l.block; closer = l.closer; after = l.after; same = ap (λ t. Else ∷ t) l.same; closed = an_else l.closed; closes = l.closes }
layers_else_false (suc depth) rest l = layers_else false depth rest l

layers_end : (stop : Bool) (depth : ℕ) (rest : List Op) → Layers stop depth rest → Layers stop (suc depth) (EndIf ∷ rest)
layers_end stop depth rest l = record { block = []; after = rest; same = refl; closed = no_more; others = l }

-- a list of two blocks after an opener is one block
wrapped : (op : Op) (inner block : List Op) (xs ys : List Op) (closer : Op) (after : List Op) → xs ≡ inner ++ EndIf ∷ ys → ys ≡ block ++ closer ∷ after → op ∷ xs ≡ (op ∷ (inner ++ EndIf ∷ block)) ++ closer ∷ after
wrapped op inner block xs ys closer after e f = ap (λ t. op ∷ t) (e ∙ ap (λ t. inner ++ EndIf ∷ t) f ∙ sym (append_assoc inner (EndIf ∷ block) (closer ∷ after)))

layers_opener : (stop : Bool) (depth : ℕ) (op : Op) (rest : List Op) → IsTrue (is_opener op) → Layers stop (suc depth) rest → Layers stop depth (op ∷ rest)
layers_opener stop zero op rest h l =
    let m = l.others in
    record { block = op ∷ (l.block ++ EndIf ∷ m.block); closer = m.closer; after = m.after; same = wrapped op l.block m.block rest l.after m.closer m.after l.same m.same; closed = a_branch h l.closed m.closed; closes = m.closes }
layers_opener stop (suc depth) op rest h l =
    let m = l.others in
    record { block = op ∷ (l.block ++ EndIf ∷ m.block); after = m.after; same = wrapped op l.block m.block rest l.after EndIf m.after l.same m.same; closed = a_branch h l.closed m.closed; others = m.others }

by_sort : (stop : Bool) (depth : ℕ) (op : Op) (rest : List Op) → Sort op → ((d : ℕ) → found stop d rest ≡ true → Layers stop d rest) → found stop depth (op ∷ rest) ≡ true → Layers stop depth (op ∷ rest)
by_sort stop depth op rest (opening h) ih e = layers_opener stop depth op rest h (ih (suc depth) (sym ((same_opener stop depth op rest h).seen) ∙ e))
by_sort true zero op rest elsing ih e = record { block = []; closer = Else; after = rest; same = refl; closed = no_more; closes = an_else_too }
by_sort true (suc depth) op rest elsing ih e = layers_else true depth rest (ih (suc depth) e)
by_sort false depth op rest elsing ih e = layers_else_false depth rest (ih depth e)
by_sort stop zero op rest ending ih e = record { block = []; closer = EndIf; after = rest; same = refl; closed = no_more; closes = an_end }
by_sort stop (suc depth) op rest ending ih e = layers_end stop depth rest (ih depth e)
by_sort stop depth op rest (single h) ih e = layers_single stop depth op rest h (ih depth (sym ((same_single stop depth op rest h).seen) ∙ e))

-- what a search finds
pub layers_of : (stop : Bool) (depth : ℕ) (xs : List Op) → found stop depth xs ≡ true → Layers stop depth xs
layers_of stop depth [] e = absurd (true≢false (sym e))
layers_of stop depth (op ∷ rest) e = by_sort stop depth op rest (sort_of op) (λ d. layers_of stop d rest) e

unseen_by_sort : (stop : Bool) (depth : ℕ) (op : Op) (rest : List Op) → Sort op → ((d : ℕ) → found stop d rest ≡ false → skip_length stop d rest ≡ length rest) → found stop depth (op ∷ rest) ≡ false → skip_length stop depth (op ∷ rest) ≡ length (op ∷ rest)
unseen_by_sort stop depth op rest (opening h) ih e =
    let s = same_opener stop depth op rest h in let c = s.counted in let d = ih (suc depth) (sym s.seen ∙ e) in omega arith
unseen_by_sort true zero op rest elsing ih e = absurd (true≢false e)
unseen_by_sort true (suc depth) op rest elsing ih e = ap suc (ih (suc depth) e)
unseen_by_sort false depth op rest elsing ih e = ap suc (ih depth e)
unseen_by_sort stop zero op rest ending ih e = absurd (true≢false e)
unseen_by_sort stop (suc depth) op rest ending ih e = ap suc (ih depth e)
unseen_by_sort stop depth op rest (single h) ih e =
    let s = same_single stop depth op rest h in let c = s.counted in let d = ih depth (sym s.seen ∙ e) in omega arith

-- a search that finds nothing goes to the end of the list
pub over_unseen : (stop : Bool) (depth : ℕ) (xs : List Op) → found stop depth xs ≡ false → skip_length stop depth xs ≡ length xs
over_unseen stop depth [] e = refl
over_unseen stop depth (op ∷ rest) e = unseen_by_sort stop depth op rest (sort_of op) (λ d. over_unseen stop d rest) e

-- a search goes to after this closer, if a block leads there
skips_not : (stop : Bool) → Skips (not stop) stop 0
skips_not true = tt
skips_not false = tt

record Reaches (stop : Bool) (xs : List Op) (n : ℕ) : Type 0 where
  counted : skip_length stop 0 xs ≡ n
  seen : found stop 0 xs ≡ true

closes_at : (stop : Bool) (closer : Op) (after : List Op) → IsCloser stop closer → Reaches stop (closer ∷ after) 1
closes_at stop closer after an_end = record { counted = refl; seen = refl }
closes_at stop closer after an_else_too = record { counted = refl; seen = refl }

reaches : (stop : Bool) (closer : Op) (xs : List Op) (n : ℕ) → IsCloser stop closer → LeadsAfter (not stop) closer xs n → Reaches stop xs n
reaches stop closer xs n c l =
    let s = over_block (not stop) l.block l.closed stop 0 (closer ∷ l.after) (skips_not stop) in
    let r = closes_at stop closer l.after c in
    let p = s.counted in let q = r.counted in let d = l.place in let g = ap (skip_length stop 0) l.same in
    record { counted = omega arith; seen = ap (found stop 0) l.same ∙ s.seen ∙ r.seen }

-- what is found comes after a block
behind : (stop : Bool) (xs : List Op) (l : Nested stop xs) → LeadsAfter (not stop) l.closer xs (skip_length stop 0 xs)
behind stop xs l =
    let h : LeadsAfter (not stop) l.closer xs (length l.block + 1) = record { block = l.block; after = l.after; same = l.same; closed = l.closed; place = refl } in
    record { block = l.block; after = l.after; same = l.same; closed = l.closed; place = (reaches stop l.closer xs (length l.block + 1) l.closes h).counted }

-- which closer it is
pub data Finding (stop : Bool) (xs : List Op) : Type 0 where
  its_end : LeadsAfter (not stop) EndIf xs (skip_length stop 0 xs) → Finding stop xs
  its_else : stop ≡ true → LeadsAfter (not stop) Else xs (skip_length stop 0 xs) → Finding stop xs
  neither : found stop 0 xs ≡ false → skip_length stop 0 xs ≡ length xs → Finding stop xs

finding_of : (stop : Bool) (xs : List Op) (closer : Op) → IsCloser stop closer → LeadsAfter (not stop) closer xs (skip_length stop 0 xs) → Finding stop xs
finding_of stop xs closer an_end l = its_end l
finding_of stop xs closer an_else_too l = its_else refl l

pub finding : (stop : Bool) (xs : List Op) → Finding stop xs
finding stop xs = by_seen (found stop 0 xs) refl
  where
    by_seen : (b : Bool) → found stop 0 xs ≡ b → Finding stop xs
    by_seen true e = let l = layers_of stop 0 xs e in finding_of stop xs l.closer l.closes (behind stop xs l)
    by_seen false e = neither e (over_unseen stop 0 xs e)

not_behind : (stop : Bool) (closer : Op) (xs : List Op) → IsCloser stop closer → found stop 0 xs ≡ false → (n : ℕ) → LeadsAfter (not stop) closer xs n → ⊥
not_behind stop closer xs c e n l = true≢false (sym ((reaches stop closer xs n c l).seen) ∙ e)

-- the function's jump is allowed by the relation
pub jumps_made : (move : Jump) (rest : List Op) → Jumps rest move (jump_length move rest)
jumps_made Next rest = onward
jumps_made AfterElse rest = by (finding true rest)
  where
    by : Finding true rest → Jumps rest AfterElse (skip_length true 0 rest)
    by (its_end l) = after_endif_for_else l
    by (its_else e l) = after_else l
    by (neither e f) = rw f (to_list_end_for_else (not_behind true Else rest an_else_too e) (not_behind true EndIf rest an_end e))
jumps_made AfterEndIf rest = by (finding false rest)
  where
    by : Finding false rest → Jumps rest AfterEndIf (skip_length false 0 rest)
    by (its_end l) = after_endif l
    by (its_else e l) = absurd (true≢false (sym e))
    by (neither e f) = rw f (to_list_end (not_behind false EndIf rest an_end e))

-- a jump is as long as the function says
pub jumps_are : (rest : List Op) (move : Jump) (n : ℕ) → Jumps rest move n → n ≡ jump_length move rest
jumps_are rest move n onward = refl
jumps_are rest move n (after_else l) = sym ((reaches true Else rest n an_else_too l).counted)
jumps_are rest move n (after_endif_for_else l) = sym ((reaches true EndIf rest n an_end l).counted)
jumps_are rest move n (to_list_end_for_else h k) = by (finding true rest)
  where
    by : Finding true rest → length rest ≡ skip_length true 0 rest
    by (its_end l) = absurd (k (skip_length true 0 rest) l)
    by (its_else e l) = absurd (h (skip_length true 0 rest) l)
    by (neither e f) = sym f
jumps_are rest move n (after_endif l) = sym ((reaches false EndIf rest n an_end l).counted)
jumps_are rest move n (to_list_end h) = by (finding false rest)
  where
    by : Finding false rest → length rest ≡ skip_length false 0 rest
    by (its_end l) = absurd (h (skip_length false 0 rest) l)
    by (its_else e l) = absurd (true≢false (sym e))
    by (neither e f) = sym f

behind_within : (elses : Bool) (closer : Op) (xs : List Op) (n : ℕ) → LeadsAfter elses closer xs n → n ≤ length xs
behind_within elses closer xs n l =
    let e : length xs ≡ length (l.block ++ closer ∷ l.after) = ap length l.same in
    let f = length-append l.block (closer ∷ l.after) in
    let g = l.place in
    omega arith

-- a jump stays within the list
pub jump_within : (move : Jump) (rest : List Op) → jump_length move rest ≤ length rest
jump_within Next rest = omega arith
jump_within AfterElse rest = by (finding true rest)
  where
    by : Finding true rest → skip_length true 0 rest ≤ length rest
    by (its_end l) = behind_within false EndIf rest (skip_length true 0 rest) l
    by (its_else e l) = behind_within false Else rest (skip_length true 0 rest) l
    by (neither e f) = omega (arith, f)
jump_within AfterEndIf rest = by (finding false rest)
  where
    by : Finding false rest → skip_length false 0 rest ≤ length rest
    by (its_end l) = behind_within true EndIf rest (skip_length false 0 rest) l
    by (its_else e l) = behind_within true Else rest (skip_length false 0 rest) l
    by (neither e f) = omega (arith, f)
