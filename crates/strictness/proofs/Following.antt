-- What each opcode leaves in consensus fits what the walk leaves.
use Rattle.std.proofs.Common.{◌≡◌, ℕ, zero, suc, ◌+◌, ◌≤◌, Bool, true, false, not, ◌&&◌, ◌==◌, List, [], ◌∷◌, length, take, drop, Option, Some, None, Result, Ok, Err, sym, ap, ◌∙◌, subst, refl, arith}
use Rattle.std.specs.Prelude.{if◌then◌else◌, is_some, nat_lt, nat_le}
use Rattle.std.specs.List.{list_any}
use Rattle.std.specs.Str.{bytes_eq}
use Rattle.std.proofs.lemmas.List.{length-take-le}
use Rattle.std.proofs.lemmas.Bool.{false≢true, true≢false, eqb-true, leb-true, le-ltb, cond-false}
use Rattle.std.proofs.lemmas.Option.{none-some}
use Rattle.std.specs.Option.{unwrap_or}
use Rattle.script.specs.declared.opcode.Op.{Op}
use Rattle.script.specs.declared.opcode.Op.TheVariants.{Push, Number, Drop, Dup, Swap, Size, Equal, EqualVerify, Hash160, CheckSig, CheckMultiSig, CheckLockTimeVerify, CheckSequenceVerify}
use Rattle.script.specs.declared.spending.Spend.{Spend}
use Rattle.script.specs.declared.limits.TheConstants.{MAX_OPS_PER_SCRIPT, MAX_PUBKEYS_PER_MULTISIG}
use Rattle.script.specs.Spelling.{IsOp}
use Rattle.script.specs.Number.{number_of}
use Rattle.script.specs.Step.{Elements, truth, flag, lock_passes, age_passes}
use Rattle.strictness.specs.Values.{natural_of, is_der}
use Rattle.strictness.specs.Machine.{Oracle, Left, leaves, ◌>>=◌, only_if, topmost, top_elements, count_of as count_in, answer_of, answer_of_all, multi_sig, check_lock as lock_checked, effect}
use Rattle.strictness.specs.Words.{Word, item, known, hashed, sized, answer, constant, shown, top_of, below, known_flag, equal_of, truth_of}
use Rattle.strictness.specs.declared.faults.Fault.TheVariants as faults
use Rattle.strictness.specs.Turns.{Step, next, ends, stops, goes, if_held, is_refused, is_no_key, check_sig, count_by, count_of, with_count, is_full, has_refused, signatures_turn, keys_turn, check_multi_sig, lock_by, check_lock, turn_of}
use Rattle.strictness.proofs.Standing.{Stands, Fits, popped, dropped, known_is, flag_is, equal_is, size_is, hash_is}

-- a branch that goes on fits the stack; of one that stops nothing is said; consensus goes on in no other case
abbrev pub After : Step → List Word → Elements → Type 0
After next w xs = Fits w xs
After stops w xs = Unit {0}
After s w xs = ⊥

abbrev pub Follows : Step × List Word → Option Left → Type 0
Follows t None = Unit {0}
Follows t (Some l) = After t.0 t.1 l.0

stops_follow : (w : List Word) (o : Option Left) → Follows (stops, w) o
stops_follow w None = tt
stops_follow w (Some l) = tt

follows_if : (b : Bool) (t : Step × List Word) (o : Option Left) → Follows t o → Follows t (only_if b o)
follows_if true t o f = f
follows_if false t o f = tt

-- EQUALVERIFY
held_is : (y : List ℕ) (v : Word) (b : Bool) (w : List Word) (xs : Elements) → Stands v (flag b) → Fits w xs → Follows (if_held y (truth_of v), w) (only_if b (leaves xs))
held_is y v false w xs s f = tt
held_is y item true w xs s f = f
held_is y (known c) true w xs s f = by_truth (truth c) (ap truth (sym s.0))
  where
    by_truth : (t : Bool) → t ≡ true → Follows (if_held y (Some t), w) (leaves xs)
    by_truth true e = f
    by_truth false e = absurd (false≢true e)
held_is y hashed true w xs s f = f
held_is y sized true w xs s f = f
held_is y answer true w xs s f = f

-- CHECKSIG
known_signature : (y : Step) (e d n h : Bool) (w : List Word) (xs : Elements) → Fits w xs
    → Follows (if not e && not d then (y, w) else if n then (stops, w) else (if e then goes (known_flag false ∷ w) else (stops, w))) ((if e then Some false else only_if d (Some h)) >>= λ b. leaves (flag b ∷ xs))
known_signature y true d true h w xs f = tt
known_signature y true d false h w xs f = (flag_is false, f)
known_signature y false true true h w xs f = tt
known_signature y false true false h w xs f = tt
known_signature y false false n h w xs f = tt

any_signature : (n : Bool) (o : Option Bool) (w : List Word) (xs : Elements) → Fits w xs → Follows (if n then (stops, w) else goes (answer ∷ w)) (o >>= λ b. leaves (flag b ∷ xs))
any_signature n None w xs f = tt
any_signature true (Some b) w xs f = tt
any_signature false (Some b) w xs f = (tt, f)

signature_is : (holds : Oracle) (key sig : Word) (w : List Word) (k s : List ℕ) (xs : Elements) → Stands sig s → Fits w xs → Follows (check_sig key sig w) (answer_of holds k s >>= λ b. leaves (flag b ∷ xs))
signature_is holds key (known b) w k s xs p f =
    let P : List ℕ → Type 0 = λ z. Follows (check_sig key (known b) w) (answer_of holds k z >>= λ a. leaves (flag a ∷ xs)) in
    subst P (sym p.0) (known_signature (ends faults.Signature b) (length b == 0) (is_der b) (is_no_key key) (holds k b) w xs f)
signature_is holds key item w k s xs p f = any_signature (is_no_key key) (answer_of holds k s) w xs f
signature_is holds key hashed w k s xs p f = any_signature (is_no_key key) (answer_of holds k s) w xs f
signature_is holds key sized w k s xs p f = any_signature (is_no_key key) (answer_of holds k s) w xs f
signature_is holds key answer w k s xs p f = any_signature (is_no_key key) (answer_of holds k s) w xs f

-- CHECKLOCKTIMEVERIFY and CHECKSEQUENCEVERIFY
known_lock : (b : List ℕ) (o : Option ℕ) (passes : ℕ → Bool) (w : List Word) (xs : Elements) → Fits w xs → Follows (lock_by b o, w) (o >>= λ n. only_if (passes n) (leaves xs))
known_lock b None passes w xs f = tt
known_lock b (Some n) passes w xs f = by_size (is_some (number_of 5 b))
  where
    by_size : (m : Bool) → Follows (if m then next else stops, w) (only_if (passes n) (leaves xs))
    by_size true = follows_if (passes n) (next, w) (leaves xs) f
    by_size false = stops_follow w (only_if (passes n) (leaves xs))

any_lock : (o : Option ℕ) (passes : ℕ → Bool) (w : List Word) (xs : Elements) → Fits w xs → Follows (next, w) (o >>= λ n. only_if (passes n) (leaves xs))
any_lock None passes w xs f = tt
any_lock (Some n) passes w xs f = follows_if (passes n) (next, w) (leaves xs) f

lock_is : (v : Word) (passes : ℕ → Bool) (w : List Word) (x : List ℕ) (xs : Elements) → Stands v x → Fits w xs → Follows (check_lock v w) (lock_checked passes x xs)
lock_is (known b) passes w x xs p f =
    let P : List ℕ → Type 0 = λ z. Follows (lock_by b (natural_of 5 b), known b ∷ w) (natural_of 5 z >>= λ n. only_if (passes n) (leaves (x ∷ xs))) in
    subst P (sym p.0) (known_lock b (natural_of 5 b) passes (known b ∷ w) (x ∷ xs) (p, f))
lock_is item passes w x xs p f = any_lock (natural_of 5 x) passes (item ∷ w) (x ∷ xs) (p, f)
lock_is hashed passes w x xs p f = any_lock (natural_of 5 x) passes (hashed ∷ w) (x ∷ xs) (p, f)
lock_is sized passes w x xs p f = any_lock (natural_of 5 x) passes (sized ∷ w) (x ∷ xs) (p, f)
lock_is answer passes w x xs p f = any_lock (natural_of 5 x) passes (answer ∷ w) (x ∷ xs) (p, f)

-- a count of the walk is that of consensus
abbrev pub CountFits : Result ℕ Step → Option ℕ → Type 0
CountFits r None = Unit {0}
CountFits (Ok n) (Some m) = n ≡ m
CountFits (Err stops) (Some m) = Unit {0}
CountFits (Err s) (Some m) = ⊥

minimal_or_not : (m : Bool) (n : ℕ) → CountFits (if m then Ok n else Err stops) (Some n)
minimal_or_not true n = refl
minimal_or_not false n = tt

known_count : (b : List ℕ) (o : Option ℕ) → CountFits (count_by b o) o
known_count b None = tt
known_count b (Some n) = minimal_or_not (is_some (number_of 4 b)) n

any_count : (o : Option ℕ) → CountFits (Err stops) o
any_count None = tt
any_count (Some n) = tt

count_is : (limit : ℕ) (v : Word) (x : List ℕ) → Stands v x → CountFits (count_of limit v) (count_in limit x)
count_is limit (known b) x p =
    let P : List ℕ → Type 0 = λ z. CountFits (count_of limit (known b)) (count_in limit z) in
    subst P (sym p.0) (known_count b (count_in limit b))
count_is limit item x p = any_count (count_in limit x)
count_is limit hashed x p = any_count (count_in limit x)
count_is limit sized x p = any_count (count_in limit x)
count_is limit answer x p = any_count (count_in limit x)

-- and at most the limit
low_count : (limit : ℕ) (x : List ℕ) (n : ℕ) → count_in limit x ≡ Some n → n ≤ limit
low_count limit x n e = by_number (natural_of 4 x) e
  where
    by_test : (k : ℕ) (b : Bool) → nat_le k limit ≡ b → only_if b (Some k) ≡ Some n → n ≤ limit
    by_test k true t e = let s : k ≡ n = ap (λ (o : Option ℕ). unwrap_or o 0) e in subst (λ (z : ℕ). z ≤ limit) s (leb-true k limit t)
    by_test k false t e = absurd (none-some n e)

    by_number : (o : Option ℕ) → (o >>= λ k. only_if (nat_le k limit) (Some k)) ≡ Some n → n ≤ limit
    by_number None e = absurd (none-some n e)
    by_number (Some k) e = by_test k (nat_le k limit) refl e

-- steps of CHECKMULTISIG one after another
joined : (r : Result ℕ Step) (o : Option ℕ) (f : ℕ → Step × List Word) (g : ℕ → Option Left) → CountFits r o → ((n : ℕ) → o ≡ Some n → Follows (f n) (g n)) → Follows (with_count r f) (o >>= g)
joined r None f g c h = tt
joined (Ok n) (Some m) f g c h = let P : ℕ → Type 0 = λ k. Follows (f k) (g m) in subst P (sym c) (h m refl)
joined (Err stops) (Some m) f g c h = stops_follow [] (g m)
joined (Err s) (Some m) f g c h = absurd c

passes : {A : Type 0} (b : Bool) (o : Option A) (g : A → Option Left) (t : Step × List Word) → Follows t (o >>= g) → Follows t (only_if b o >>= g)
passes true o g t f = f
passes false o g t f = tt

split_is : (b : Bool) (v : Elements × Elements) (g : Elements × Elements → Option Left) (t : Step × List Word) → (b ≡ true → Follows t (g v)) → Follows t (only_if b (Some v) >>= g)
split_is true v g t h = h refl
split_is false v g t h = tt

top_is : (w : List Word) (xs : Elements) (g : List ℕ × Elements → Option Left) (t : Step × List Word) → Fits w xs → ((x : List ℕ) (rest : Elements) → Stands (top_of w) x → Fits (below w) rest → Follows t (g (x, rest))) → Follows t (topmost xs >>= g)
top_is w [] g t f h = tt
top_is w (x ∷ xs) g t f h = let p = popped w x xs f in h x xs p.0 p.1

-- a signature that consensus refuses, checked first
refused_none : (e d h : Bool) → (not e && not d) ≡ true → (if e then Some false else only_if d (Some h)) ≡ None
refused_none true d h t = absurd (false≢true t)
refused_none false true h t = absurd (false≢true t)
refused_none false false h t = refl

refused_answer : (holds : Oracle) (v : Word) (k s : List ℕ) → Stands v s → is_refused v ≡ true → answer_of holds k s ≡ None
refused_answer holds (known b) k s p t = ap (answer_of holds k) p.0 ∙ refused_none (length b == 0) (is_der b) (holds k b) t
refused_answer holds item k s p t = absurd (false≢true t)
refused_answer holds hashed k s p t = absurd (false≢true t)
refused_answer holds sized k s p t = absurd (false≢true t)
refused_answer holds answer k s p t = absurd (false≢true t)

refused_all : (holds : Oracle) (n m : ℕ) (xs ss : Elements) (w : List Word) → Fits w ss → m ≤ n → n ≤ length xs → m ≤ length ss → has_refused m w ≡ true → answer_of_all holds (take n xs) (take m ss) ≡ None
refused_all holds n zero xs ss w f l a b t = absurd (false≢true t)
refused_all holds n (suc m) xs [] w f l a b t = absurd (omega (arith, b))
refused_all holds zero (suc m) xs (s ∷ ss) w f l a b t = absurd (omega (arith, l))
refused_all holds (suc n) (suc m) [] (s ∷ ss) w f l a b t = absurd (omega (arith, a))
refused_all holds (suc n) (suc m) (k ∷ xs) (s ∷ ss) w f l a b t =
    let i : length (take n xs) ≡ n = length-take-le n xs (omega (arith, a)) in
    let j : length (take m ss) ≡ m = length-take-le m ss (omega (arith, b)) in
    cond-false _ _ _ (le-ltb (length (take n xs)) (length (take m ss)) (omega (arith, i, j, l)))
    ∙ ap (λ (o : Option Bool). o >>= λ c. answer_of_all holds (take n xs) (if c then take m ss else (s ∷ take m ss))) (refused_answer holds (top_of w) k s (popped w s ss f).0 (right_of (nat_lt 0 (suc m)) (is_refused (top_of w)) t))
  where
    right_of : (a b : Bool) → (a && b) ≡ true → b ≡ true
    right_of true b e = e
    right_of false b e = absurd (false≢true e)

-- the extra item
full_is : (v : Word) (x : List ℕ) → Stands v x → is_full v ≡ true → (length x == 0) ≡ false
full_is (known b) x p t = ap (λ (z : List ℕ). length z == 0) p.0 ∙ by_test (length b == 0) t
  where
    by_test : (e : Bool) → not e ≡ true → e ≡ false
    by_test true t = absurd (false≢true t)
    by_test false t = refl
full_is item x p t = absurd (false≢true t)
full_is hashed x p t = absurd (false≢true t)
full_is sized x p t = absurd (false≢true t)
full_is answer x p t = absurd (false≢true t)

no_signatures : (holds : Oracle) (keys ss : Elements) (m : ℕ) → m ≡ 0 → answer_of_all holds keys (take m ss) ≡ Some true
no_signatures holds keys ss m e = ap (λ (k : ℕ). answer_of_all holds keys (take k ss)) e

answer_stands : (m : ℕ) (z a : Bool) → (m == 0) ≡ z → (z ≡ true → Some a ≡ Some true) → Stands (if z then known_flag true else answer) (flag a)
answer_stands m true a e h = let s : a ≡ true = ap (λ (o : Option Bool). unwrap_or o false) (h refl) in subst (λ (b : Bool). Stands (known_flag true) (flag b)) (sym s) (flag_is true)
answer_stands m false a e h = tt

ended_is : (y u : Step) (r fu nk e z : Bool) (A : Option Bool) (m n : ℕ) (w : List Word) (xs : Elements) → (r ≡ true → A ≡ None) → (fu ≡ true → e ≡ false) → (m == 0) ≡ z → (z ≡ true → A ≡ Some true) → Fits w xs
    → Follows (if r then (y, w) else if fu then (u, w) else if nk then (stops, w) else goes ((if z then known_flag true else answer) ∷ w)) (A >>= λ a. only_if e (Some (flag a ∷ xs, n)))
ended_is y u r fu nk e z None m n w xs hr hf ez hz f = tt
ended_is y u true fu nk e z (Some a) m n w xs hr hf ez hz f = absurd (none-some a (sym (hr refl)))
ended_is y u false true nk true z (Some a) m n w xs hr hf ez hz f = absurd (true≢false (hf refl))
ended_is y u false true nk false z (Some a) m n w xs hr hf ez hz f = tt
ended_is y u false false true e z (Some a) m n w xs hr hf ez hz f = stops_follow w (only_if e (Some (flag a ∷ xs, n)))
ended_is y u false false false e z (Some a) m n w xs hr hf ez hz f =
    follows_if e (goes ((if z then known_flag true else answer) ∷ w)) (Some (flag a ∷ xs, n)) (answer_stands m z a ez hz, f)

-- the extra item, given the keys and the signatures
extra_is : (holds : Oracle) (no_key : Bool) (n m : ℕ) (ks ss : Elements) (w : List Word) → Fits w ss → m ≤ n → n ≤ length ks → m ≤ length ss
    → Follows (signatures_turn no_key m w) (topmost (drop m ss) >>= λ extra. answer_of_all holds (take n ks) (take m ss) >>= λ a. only_if (length extra.0 == 0) (Some (flag a ∷ extra.1, n)))
extra_is holds no_key n m ks ss w f l a b =
    top_is (drop m w) (drop m ss) _ (signatures_turn no_key m w) (dropped m w ss f b) (λ x rest p g.
    ended_is (ends faults.Signature (constant (top_of w))) (ends faults.Extra (constant (top_of (drop m w)))) (has_refused m w) (is_full (top_of (drop m w))) no_key (length x == 0) (m == 0) (answer_of_all holds (take n ks) (take m ss)) m n (below (drop m w)) rest
    (refused_all holds n m ks ss w f l a b) (full_is (top_of (drop m w)) x p) refl (λ e. no_signatures holds (take n ks) ss m (eqb-true m 0 e)) g)

-- the signatures, given the keys
sigs_is : (holds : Oracle) (n : ℕ) (ks : Elements) (no_key : Bool) (w : List Word) (ys : Elements) → Fits w ys → n ≤ length ks
    → Follows (with_count (count_of n (top_of w)) (λ m. signatures_turn no_key m (below w)))
    (topmost ys >>= λ second. count_in n second.0 >>= λ m. top_elements m second.1 >>= λ sigs. topmost sigs.1 >>= λ extra. answer_of_all holds (take n ks) sigs.0 >>= λ a. only_if (length extra.0 == 0) (Some (flag a ∷ extra.1, n)))
sigs_is holds n ks no_key w ys f a =
    top_is w ys _ (with_count (count_of n (top_of w)) (λ m. signatures_turn no_key m (below w))) f (λ x rest p g.
    joined (count_of n (top_of w)) (count_in n x) (λ m. signatures_turn no_key m (below w)) _ (count_is n (top_of w) x p) (λ m e.
    split_is (nat_le m (length rest)) (take m rest, drop m rest) _ (signatures_turn no_key m (below w)) (λ t.
    extra_is holds no_key n m ks rest (below w) g (low_count n x m e) a (leb-true m (length rest) t))))

-- CHECKMULTISIG
multi_is : (holds : Oracle) (counted : ℕ) (w : List Word) (xs : Elements) → Fits w xs → Follows (check_multi_sig w) (multi_sig holds counted xs)
multi_is holds counted w xs f =
    top_is w xs _ (check_multi_sig w) f (λ x rest p g.
    joined (count_of 20 (top_of w)) (count_in MAX_PUBKEYS_PER_MULTISIG x) (λ n. keys_turn n (below w)) _ (count_is 20 (top_of w) x p) (λ n e.
    passes (nat_le (counted + n) MAX_OPS_PER_SCRIPT) (top_elements n rest) _ (keys_turn n (below w))
    (split_is (nat_le n (length rest)) (take n rest, drop n rest) _ (keys_turn n (below w)) (λ t.
    sigs_is holds n rest (list_any is_no_key (take n (below w))) (drop n (below w)) (drop n rest) (dropped n (below w) rest g (leb-true n (length rest) t)) (leb-true n (length rest) t)))))

-- an opcode that opens, turns and closes no branch; the others leave nothing
pub follows : (holds : Oracle) (s : Spend) (counted : ℕ) (op : Op) (w : List Word) (xs : Elements) → IsOp op → Fits w xs → Follows (turn_of op w) (effect holds s counted op xs)
follows holds s counted (Push b) w xs v f = (known_is b v, f)
follows holds s counted (Number n) w xs v f = (known_is (n ∷ []) (omega arith), f)
follows holds s counted Drop w (x ∷ xs) v f = (popped w x xs f).1
follows holds s counted Dup w (x ∷ xs) v f = let p = popped w x xs f in (p.0, (p.0, p.1))
follows holds s counted Swap w (x ∷ y ∷ xs) v f = let p = popped w x (y ∷ xs) f in let q = popped (below w) y xs p.1 in (q.0, (p.0, q.1))
follows holds s counted Size w (x ∷ xs) v f = let p = popped w x xs f in (size_is (top_of w) x p.0, (p.0, p.1))
follows holds s counted Equal w (x ∷ y ∷ xs) v f = let p = popped w x (y ∷ xs) f in let q = popped (below w) y xs p.1 in (equal_is (top_of (below w)) (top_of w) y x q.0 p.0, q.1)
follows holds s counted EqualVerify w (x ∷ y ∷ xs) v f =
    let p = popped w x (y ∷ xs) f in let q = popped (below w) y xs p.1 in
    held_is (shown (top_of w) (top_of (below w))) (equal_of (top_of (below w)) (top_of w)) (bytes_eq y x) (below (below w)) xs (equal_is (top_of (below w)) (top_of w) y x q.0 p.0) q.1
follows holds s counted Hash160 w (x ∷ xs) v f = let p = popped w x xs f in (hash_is (top_of w) x p.0, p.1)
follows holds s counted CheckSig w (k ∷ g ∷ xs) v f =
    let p = popped w k (g ∷ xs) f in let q = popped (below w) g xs p.1 in
    signature_is holds (top_of w) (top_of (below w)) (below (below w)) k g xs q.0 q.1
follows holds s counted CheckMultiSig w xs v f = multi_is holds counted w xs f
follows holds s counted CheckLockTimeVerify w (x ∷ xs) v f = let p = popped w x xs f in lock_is (top_of w) (lock_passes s) (below w) x xs p.0 p.1
follows holds s counted CheckSequenceVerify w (x ∷ xs) v f = let p = popped w x xs f in lock_is (top_of w) (age_passes s) (below w) x xs p.0 p.1
follows holds s counted op w xs v f = tt
