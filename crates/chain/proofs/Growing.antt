-- How the list of blocks grows by one block.
use Rattle.std.proofs.Common.{◌≡◌, ℕ, ◌+◌, ◌%◌, ◌^◌, ◌<◌, Bool, true, false, not, ◌||◌, ◌==◌, zero, suc, ◌≤◌, List, [], ◌∷◌, ◌++◌, length, take, drop, get_or, set, reverse, Some, None, Result, Ok, Err, sym, ap, ◌∙◌, refl, arith, ne_eqb, add-one, length-set, length-drop, ◌-◌}
use Rattle.std.specs.List.{list_any}
use Rattle.std.proofs.Math.Nat.{mod-add-mod}
use Rattle.std.proofs.Math.Seq.{take-length, take-suc-set, drop-append_seam}
use Rattle.std.proofs.lemmas.List.{reverse-append, reverse-reverse, length-reverse, take-append-drop}
use Rattle.std.specs.Prelude.{OnOk, nat_lt}
use Rattle.std.proofs.lemmas.Bool.{false≢true}
use Rattle.std.proofs.lemmas.Bool.Decides.{nat_tests}
use Rattle.tx.specs.Parts.{Output}
use Rattle.tx.specs.Fields.{Transaction}
use Rattle.chain.specs.declared.errors.ChainError.{ChainError}
use Rattle.chain.specs.declared.errors.BlockError.{BlockError}
use Rattle.chain.specs.Blocks.{Contents, Standing, empty_block, height_of, grants_in, transactions_of}
use Rattle.chain.specs.Checks.{transaction_refusal}
use Rattle.chain.specs.Connecting.{with_transaction, with_grant, unless_refused, added, has_grant, is_too_deep}
use Rattle.chain.specs.Storing.{taken_off, newest_granted, ChangesNewest, MayTakeOff}
use Rattle.chain.proofs.Lists.{reverse_more, any_reversed}

pub older_stay : (blocks : List Contents) (t : Transaction) → taken_off (with_transaction blocks t) ≡ taken_off blocks
older_stay [] t = refl
older_stay (b ∷ older) t = refl

pub grants_stay : (blocks : List Contents) (t : Transaction) → newest_granted (with_transaction blocks t) ≡ newest_granted blocks
grants_stay [] t = refl
grants_stay (b ∷ older) t = refl

pub count_stays : (blocks : List Contents) (t : Transaction) → length (with_transaction blocks t) ≡ length blocks
count_stays [] t = refl
count_stays (b ∷ older) t = refl

pub grants_in_stay : (blocks : List Contents) (t : Transaction) → grants_in (with_transaction blocks t) ≡ grants_in blocks
grants_in_stay [] t = refl
grants_in_stay (b ∷ older) t = refl

pub changes_nothing : (s : Standing) → ChangesNewest s s
changes_nothing s = record { older = refl; granted = refl; count = refl; greatest = refl }

pub changes_more : (first s s' : Standing) (t : Transaction) → ChangesNewest first s → s' ≡ record s { blocks = with_transaction s.blocks t } → ChangesNewest first s'
changes_more first s s' t c e = rw e (record {
  older = older_stay s.blocks t ∙ c.older;
  granted = grants_stay s.blocks t ∙ c.granted;
  count = count_stays s.blocks t ∙ c.count;
  greatest = c.greatest;
})

-- after a transaction that passes, the others are still to be added
pub goes_on : (s s' : Standing) (index : ℕ) (t : Transaction) (rest : List Transaction) (whole : Result (List Contents) BlockError) → added index s.blocks (t ∷ rest) ≡ whole → transaction_refusal s.blocks t ≡ None → s' ≡ record s { blocks = with_transaction s.blocks t } → added (index + 1) s'.blocks rest ≡ whole
goes_on s s' index t rest whole e passes same = rw same (sym (ap (λ r. unless_refused index r (added (index + 1) (with_transaction s.blocks t) rest)) passes) ∙ e)

-- one that does not pass is named in the refusal
pub stops_at : (s : Standing) (index : ℕ) (t : Transaction) (rest : List Transaction) (whole : Result (List Contents) BlockError) (refusal : ChainError) → added index s.blocks (t ∷ rest) ≡ whole → transaction_refusal s.blocks t ≡ Some refusal → whole ≡ Err (record { index = index; refusal = refusal })
stops_at s index t rest whole refusal e refused = sym e ∙ ap (λ r. unless_refused index r (added (index + 1) (with_transaction s.blocks t) rest)) refused

none_granted : (n : ℕ) (blocks : List Contents) → newest_granted blocks ≡ [] → length blocks ≡ n + 1 → MayTakeOff blocks
none_granted n [] none count = absurd (omega (arith, count))
none_granted n (b ∷ older) none count = none

none_granted_there : (blocks : List Contents) → MayTakeOff blocks → (newest_granted blocks ≡ []) × (0 < length blocks)
none_granted_there [] may = absurd may
none_granted_there (b ∷ older) may = (may, omega arith)

some_granted : (blocks : List Contents) → newest_granted blocks ≡ [] → 0 < length blocks → MayTakeOff blocks
some_granted [] none some = absurd (omega arith)
some_granted (b ∷ older) none some = none

-- where only transactions were added, still nothing was granted
pub still_may_take_off : (first changed : Standing) → ChangesNewest first changed → MayTakeOff first.blocks → MayTakeOff changed.blocks
still_may_take_off first changed c may =
    let f = none_granted_there first.blocks may in
    some_granted changed.blocks (c.granted ∙ f.0) (omega (arith, f.1, c.count))

-- a block that was begun on these, and changed, can be taken off
pub may_take_off : (s : Standing) (begun : Standing) (changed : Standing) → begun ≡ record s { blocks = empty_block ∷ s.blocks } → ChangesNewest begun changed → MayTakeOff changed.blocks
may_take_off s begun changed e c = none_granted (length s.blocks) changed.blocks (c.granted ∙ ap (λ (b : Standing). newest_granted b.blocks) e) (c.count ∙ ap (λ (b : Standing). length b.blocks) e ∙ omega arith)

pub taken_back : (s begun changed last : Standing) → begun ≡ record s { blocks = empty_block ∷ s.blocks } → ChangesNewest begun changed → last ≡ record changed { blocks = taken_off changed.blocks } → last ≡ s
taken_back s begun changed last e c t =
    let blocks : taken_off changed.blocks ≡ s.blocks = c.older ∙ ap (λ (b : Standing). taken_off b.blocks) e in
    let greatest : changed.greatest ≡ s.greatest = c.greatest ∙ ap (λ (b : Standing). b.greatest) e in
    t ∙ rw (blocks, greatest) refl

pub grants_in_more : (blocks : List Contents) (o : Output) → 0 < length blocks → grants_in (with_grant blocks o) ≡ grants_in blocks + 1
grants_in_more [] o some = absurd (omega arith)
grants_in_more (b ∷ older) o some = omega arith

pub some_stay : (blocks : List Contents) (o : Output) → length (with_grant blocks o) ≡ length blocks
some_stay [] o = refl
some_stay (b ∷ older) o = refl

-- a count that goes on from 2^64 - 1 to 0
pub counts_on : (n g k : ℕ) → n ≡ g % 2 ^ 64 → (n + k) % 2 ^ 64 ≡ (g + k) % 2 ^ 64
counts_on n g k e = ap (λ m. (m + k) % 2 ^ 64) e ∙ mod-add-mod g (2 ^ 64) k

-- the last of a list, changed
last_changed : (xs : List Contents) (n : ℕ) (b y : Contents) → n + 1 ≡ length xs → b ≡ get_or xs n b → (reverse xs ≡ b ∷ reverse (take n xs)) × (reverse (set xs n y) ≡ y ∷ reverse (take n xs))
last_changed xs n b y count last =
    let below : n < length xs = omega (arith, count) in
    let whole : take (n + 1) xs ≡ xs = ap (λ k. take k xs) count ∙ take-length xs in
    let all : take (suc n) (set xs n y) ≡ set xs n y = ap (λ k. take k (set xs n y)) (sym (add-one n) ∙ count ∙ sym (length-set xs n y)) ∙ take-length (set xs n y) in (
      ap reverse (sym whole) ∙ reverse_more xs n b below ∙ ap (λ x. x ∷ reverse (take n xs)) (sym last),
      ap reverse (sym all ∙ take-suc-set xs n y below) ∙ reverse-append (take n xs) (y ∷ []),
    )

pub transaction_last : (xs : List Contents) (n : ℕ) (b y : Contents) (t : Transaction) → n + 1 ≡ length xs → b ≡ get_or xs n b → y ≡ record b { transactions = t ∷ b.transactions } → reverse (set xs n y) ≡ with_transaction (reverse xs) t
transaction_last xs n b y t count last e =
    let l = last_changed xs n b y count last in
    l.1 ∙ ap (λ x. x ∷ reverse (take n xs)) e ∙ sym (ap (λ bs. with_transaction bs t) l.0)

pub grant_last : (xs : List Contents) (n : ℕ) (b y : Contents) (o : Output) → n + 1 ≡ length xs → b ≡ get_or xs n b → y ≡ record b { granted = o ∷ b.granted } → reverse (set xs n y) ≡ with_grant (reverse xs) o
grant_last xs n b y o count last e =
    let l = last_changed xs n b y count last in
    l.1 ∙ ap (λ x. x ∷ reverse (take n xs)) e ∙ sym (ap (λ bs. with_grant bs o) l.0)

pub taken_off_next : (blocks : List Contents) (i : ℕ) → taken_off (drop i blocks) ≡ drop (suc i) blocks
taken_off_next [] zero = refl
taken_off_next [] (suc i) = refl
taken_off_next (b ∷ older) zero = refl
taken_off_next (b ∷ older) (suc i) = taken_off_next older i

or_left : (a b : Bool) → (a || b) ≡ false → a ≡ false
or_left true b h = h
or_left false b h = refl

or_right : (a b : Bool) → (a || b) ≡ false → b ≡ false
or_right true b h = absurd (false≢true (sym h))
or_right false b h = h

nothing_granted : (outputs : List Output) → not (length outputs == 0) ≡ false → outputs ≡ []
nothing_granted [] h = refl
nothing_granted (o ∷ os) h = absurd (false≢true (sym h ∙ ap not (ne_eqb (length (o ∷ os)) 0 (λ e. omega (arith, e)))))

-- each of the newest k blocks may be taken off in its turn
pub may_take_off_next : (blocks : List Contents) (k i : ℕ) → list_any has_grant (take k blocks) ≡ false → i < k → k ≤ length blocks → MayTakeOff (drop i blocks)
may_take_off_next blocks zero i none below enough = absurd (omega arith)
may_take_off_next [] (suc k) i none below enough = absurd (omega arith)
may_take_off_next (b ∷ older) (suc k) zero none below enough = nothing_granted b.granted (or_left (has_grant b) (list_any has_grant (take k older)) none)
may_take_off_next (b ∷ older) (suc k) (suc i) none below enough = may_take_off_next older k i (or_right (has_grant b) (list_any has_grant (take k older)) none) (omega arith) (omega arith)

pub more_than_one : (s begun changed : Standing) → begun ≡ record s { blocks = empty_block ∷ s.blocks } → ChangesNewest begun changed → 0 < length s.blocks → 1 < length changed.blocks
more_than_one s begun changed e c some = let count : length begun.blocks ≡ suc (length s.blocks) = ap (λ (b : Standing). length b.blocks) e in omega (arith, c.count)

-- the newest blocks come last where the oldest is first
pub newest_last : (blocks : List Contents) (k n : ℕ) → k ≤ length blocks → n ≡ length blocks → drop (n - k) (reverse blocks) ≡ reverse (take k blocks)
newest_last blocks k n enough count =
    let split : reverse blocks ≡ reverse (drop k blocks) ++ reverse (take k blocks) = ap reverse (sym (take-append-drop k blocks)) ∙ reverse-append (take k blocks) (drop k blocks) in
    let place : n - k ≡ length (reverse (drop k blocks)) = omega (arith, length-reverse (drop k blocks), length-drop k blocks) in
    ap (λ xs. drop (n - k) xs) split ∙ ap (λ m. drop m (reverse (drop k blocks) ++ reverse (take k blocks))) place ∙ drop-append_seam (reverse (drop k blocks)) (reverse (take k blocks))

pub grants_among_newest : (blocks : List Contents) (k : ℕ) → k ≤ length blocks → list_any has_grant (drop (length (reverse blocks) - k) (reverse blocks)) ≡ list_any has_grant (take k blocks)
grants_among_newest blocks k enough =
    ap (list_any has_grant) (newest_last blocks k (length (reverse blocks)) enough (length-reverse blocks)) ∙ any_reversed has_grant (take k blocks)

pub transactions_of_newest : (blocks : List Contents) (k : ℕ) → k ≤ length blocks → reverse (transactions_of (reverse (drop (length (reverse blocks) - k) (reverse blocks)))) ≡ reverse (transactions_of (take k blocks))
transactions_of_newest blocks k enough =
    ap (λ bs. reverse (transactions_of (reverse bs))) (newest_last blocks k (length (reverse blocks)) enough (length-reverse blocks))
    ∙ ap (λ bs. reverse (transactions_of bs)) (reverse-reverse (take k blocks))

-- the transactions of one more block
pub copied_next : (blocks : List Contents) (i : ℕ) (b : Contents) (txs more slice : List Transaction) → b ≡ get_or blocks i b → i < length blocks → txs ≡ reverse (transactions_of (reverse (take i blocks))) → slice ≡ reverse b.transactions → more ≡ txs ++ slice → more ≡ reverse (transactions_of (reverse (take (i + 1) blocks)))
copied_next blocks i b txs more slice e below so_far s added =
    let before = transactions_of (reverse (take i blocks)) in
    let next : transactions_of (reverse (take (i + 1) blocks)) ≡ b.transactions ++ before = ap transactions_of (reverse_more blocks i b below ∙ ap (λ x. x ∷ reverse (take i blocks)) (sym e)) in
    added ∙ ap (λ xs. xs ++ slice) so_far ∙ ap (λ xs. reverse before ++ xs) s ∙ sym (ap reverse next ∙ reverse-append b.transactions before)

false_above : (a b : ℕ) → nat_lt a b ≡ false → b ≤ a
false_above a b h = grind (arith, nat_tests)

-- what it means that k blocks may be taken off
pub not_too_deep : (s : Standing) (k : ℕ) → is_too_deep s k ≡ false → (k ≤ height_of s.blocks) × (list_any has_grant (take k s.blocks) ≡ false)
not_too_deep s k h =
    let first = nat_lt (height_of s.blocks) k in
    let second = nat_lt (height_of s.blocks - k + 6) s.greatest in (
      false_above (height_of s.blocks) k (or_left first second (or_left (first || second) (list_any has_grant (take k s.blocks)) h)),
      or_right (first || second) (list_any has_grant (take k s.blocks)) h,
    )

pub more_left : (s s' : Standing) (k i : ℕ) → k ≤ height_of s.blocks → i < k → s' ≡ record s { blocks = drop i s.blocks } → 1 < length s'.blocks
more_left s s' k i enough below e =
    let count : length s'.blocks ≡ length s.blocks - i = ap (λ (b : Standing). length b.blocks) e ∙ length-drop i s.blocks in
    omega arith

pub none_granted_left : (s s' : Standing) (k i : ℕ) → k ≤ height_of s.blocks → list_any has_grant (take k s.blocks) ≡ false → i < k → s' ≡ record s { blocks = drop i s.blocks } → MayTakeOff s'.blocks
none_granted_left s s' k i enough none below e = rw e (may_take_off_next s.blocks k i none below (omega arith))

pub one_fewer : (s s' s'' : Standing) (i : ℕ) → s' ≡ record s { blocks = drop i s.blocks } → s'' ≡ record s' { blocks = taken_off s'.blocks } → s'' ≡ record s { blocks = drop (i + 1) s.blocks }
one_fewer s s' s'' i e f = f ∙ rw e (ap (λ bs. record s { blocks = bs }) (taken_off_next s.blocks i ∙ ap (λ n. drop n s.blocks) (sym (add-one i))))

-- a fact of a result that is Ok
pub weaker : {A E P Q : Type 0} (r : Result A E) → (P → Q) → OnOk r P → OnOk r Q
weaker (Ok x) f h = f h
weaker (Err e) f h = tt
