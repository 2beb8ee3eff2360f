-- How blocks take what waits in the pool.
use Rattle.std.proofs.Common.{◌≡◌, ℕ, suc, ◌+◌, ◌≤◌, ◌<◌, ◌||◌, cond, Bool, true, false, List, [], ◌∷◌, ◌++◌, length, take, Option, Some, None, refl, sym, ap, subst, ◌∙◌, append_assoc, arith}
use Rattle.std.specs.Prelude.{filter, max, if◌then◌else◌}
use Rattle.std.specs.Ordering.{is_eq, nat_cmp}
use Rattle.std.specs.Cmp.Lexicographic.{slice_cmp}
use Rattle.std.specs.Str.{bytes_eq}
use Rattle.std.proofs.Math.ListN.{get_or}
use Rattle.std.proofs.lemmas.List.{take_more}
use Rattle.std.proofs.lemmas.List.Folds.{list_any-append}
use Rattle.std.proofs.lemmas.Map.Text.{is_eq-slice_cmp}
use Rattle.std.specs.List.{list_any}
use Rattle.tx.specs.Spelling.{transaction_id}
use Rattle.chain.specs.Marking.{IsGrown}
use Rattle.tx.specs.Fields.{Transaction}
use Rattle.chain.specs.declared.errors.ChainError.{ChainError}
use Rattle.chain.specs.Blocks.{Contents, Standing, empty_block, height_of}
use Rattle.chain.specs.Checks.{transaction_refusal}
use Rattle.chain.specs.Connecting.{unless_refusal, refusals_of, has_grant}
use Rattle.chain.specs.declared.refused.Refused.{Refused}
use Rattle.chain.specs.Waiting.{if_refused, refused_of, ConnectsWaiting}
use Rattle.mempool.specs.Mining.{Mined, waits, is_taken, still_waiting, waiting_among, blocks_after, has_waiting, IsNextBlock}

abbrev Fewer : List Transaction → List (Option ChainError) → Type 0
Fewer ts rs = length (filter is_taken rs) + length (still_waiting ts rs) ≤ length ts

-- one more of them, whatever the reason of its refusal
one_fewer : (t : Transaction) (ts : List Transaction) (r : Option ChainError) (rs : List (Option ChainError)) → Fewer ts rs → Fewer (t ∷ ts) (r ∷ rs)
one_fewer t ts None rs rest = omega arith
one_fewer t ts (Some r) rs rest = by (waits (Some r)) refl
  where
    by : (b : Bool) → waits (Some r) ≡ b → Fewer (t ∷ ts) (Some r ∷ rs)
    by true e = rw e (omega arith)
    by false e = rw e (omega arith)

-- no transaction is both taken and left
pub fewer_left : (blocks : List Contents) (ts : List Transaction) → Fewer ts (refusals_of blocks ts)
fewer_left blocks [] = omega arith
fewer_left blocks (t ∷ ts) =
    one_fewer t ts (transaction_refusal blocks t) (refusals_of (unless_refusal (transaction_refusal blocks t) blocks t) ts) (fewer_left (unless_refusal (transaction_refusal blocks t) blocks t) ts)

-- one more block is one fewer still to make
pub next_block : (n k : ℕ) (m whole : Mined) (new : Standing) (waiting : List Transaction) (taken : ℕ) → n ≡ suc k → IsNextBlock m.chain m.waiting new waiting taken → blocks_after n m ≡ whole
    → blocks_after k (record { chain = new; waiting = waiting; txs = m.txs + taken }) ≡ whole
unfolding blocks_after
next_block n k m whole new waiting taken more next e = ap (blocks_after k) (rw (next.chain, next.waiting_is, next.taken_is) refl) ∙ subst (λ x. blocks_after x m ≡ whole) more e

pub no_more : (n : ℕ) (m whole : Mined) → n ≡ 0 → blocks_after n m ≡ whole → whole ≡ m
unfolding blocks_after
no_more n m whole none e = sym (subst (λ x. blocks_after x m ≡ whole) none e)

-- the transactions of a new block and those that still wait are at most as many as waited before
pub no_more_left : (old new : Standing) (txs waiting : List Transaction) (taken : ℕ) → IsNextBlock old txs new waiting taken → taken + length waiting ≤ length txs
no_more_left old new txs waiting taken next =
    let few = fewer_left (empty_block ∷ old.blocks) txs in
    rw (next.taken_is, next.waiting_is) few

-- what still waits is found among the refused ones
same_waiting : (blocks : List Contents) (ts : List Transaction) → waiting_among (refused_of blocks ts) ≡ still_waiting ts (refusals_of blocks ts)
same_waiting blocks [] = refl
same_waiting blocks (t ∷ ts) = by (transaction_refusal blocks t) (same_waiting (unless_refusal (transaction_refusal blocks t) blocks t) ts)
  where
    by : (r : Option ChainError) → waiting_among (refused_of (unless_refusal r blocks t) ts) ≡ still_waiting ts (refusals_of (unless_refusal r blocks t) ts)
        → waiting_among (if_refused r t (refused_of (unless_refusal r blocks t) ts)) ≡ still_waiting (t ∷ ts) (r ∷ refusals_of (unless_refusal r blocks t) ts)
    by None h = h
    by (Some e) h = ap (λ us. if waits (Some e) then t ∷ us else us) h

-- each transaction is taken or refused
taken_or_refused : (blocks : List Contents) (ts : List Transaction) → length (filter is_taken (refusals_of blocks ts)) + length (refused_of blocks ts) ≡ length ts
taken_or_refused blocks [] = refl
taken_or_refused blocks (t ∷ ts) = by (transaction_refusal blocks t) (taken_or_refused (unless_refusal (transaction_refusal blocks t) blocks t) ts)
  where
    by : (r : Option ChainError) → length (filter is_taken (refusals_of (unless_refusal r blocks t) ts)) + length (refused_of (unless_refusal r blocks t) ts) ≡ length ts
        → length (filter is_taken (r ∷ refusals_of (unless_refusal r blocks t) ts)) + length (if_refused r t (refused_of (unless_refusal r blocks t) ts)) ≡ length (t ∷ ts)
    by None h = omega (arith, h)
    by (Some e) h = omega (arith, h)

-- no more were refused than were offered
pub fewer_refused : (old new : Standing) (ts : List Transaction) (refused : List Refused) → ConnectsWaiting old ts refused new → length refused ≤ length ts
fewer_refused old new ts refused h = omega (arith, ap length h.1, taken_or_refused (empty_block ∷ old.blocks) ts)

-- the next block, by what it gave back
pub next_of : (old new : Standing) (ts waiting : List Transaction) (refused : List Refused) (taken : ℕ) → ConnectsWaiting old ts refused new → waiting ≡ waiting_among refused
    → taken + length refused ≡ length ts → IsNextBlock old ts new waiting taken
next_of old new ts waiting refused taken (blocks, back, greatest) w n =
    let with : List Contents → ℕ → Standing = λ bs g. record { blocks = bs; greatest = g } in
    let all = taken_or_refused (empty_block ∷ old.blocks) ts in
    let as_many = ap length back in
    record {
      chain = ap (λ g. with new.blocks g) greatest ∙ ap (λ bs. with bs (max old.greatest (height_of bs))) blocks;
      waiting_is = w ∙ ap waiting_among back ∙ same_waiting (empty_block ∷ old.blocks) ts;
      taken_is = omega (arith, n, all, as_many);
    }

-- ---- growth

none_in_both : (xs ys : List Contents) → list_any has_grant xs ≡ false → list_any has_grant ys ≡ false → list_any has_grant (xs ++ ys) ≡ false
none_in_both xs ys n m = list_any-append has_grant xs ys ∙ ap (λ x. x || list_any has_grant ys) n ∙ m

pub not_grown : (s : Standing) → IsGrown s s
not_grown s = record { above = []; blocks = refl; no_grant = refl }

pub grown_on : (first s s' : Standing) → IsGrown first s → IsGrown s s' → IsGrown first s'
grown_on first s s' g h = record {
  above = h.above ++ g.above;
  blocks = h.blocks ∙ ap (λ bs. h.above ++ bs) g.blocks ∙ sym (append_assoc h.above g.above first.blocks);
  no_grant = none_in_both h.above g.above h.no_grant g.no_grant;
}

-- ---- ids of what waits

pub one_more_waits : (has has' : List ℕ → Bool) (txs : List Transaction) (i : ℕ) (d t : Transaction) (key : List ℕ) → i < length txs → t ≡ get_or txs i d → key ≡ transaction_id t
    → ((id : List ℕ) → has' id ≡ cond (is_eq (slice_cmp nat_cmp key id)) true (has id)) → ((id : List ℕ) → has id ≡ has_waiting (take i txs) id) → (id : List ℕ) → has' id ≡ has_waiting (take (i + 1) txs) id
one_more_waits has has' txs i d t key within item spelt more is id =
    more id
    ∙ ap (λ b. cond b true (has id)) (is_eq-slice_cmp key id)
    ∙ joined (bytes_eq key id) (has id)
    ∙ ap (λ b. b || (bytes_eq key id || false)) (is id)
    ∙ ap (λ k. has_waiting (take i txs) id || (bytes_eq k id || false)) spelt
    ∙ sym (list_any-append (λ u. bytes_eq (transaction_id u) id) (take i txs) (t ∷ []))
    ∙ ap (λ ts. has_waiting ts id) (ap (λ u. take i txs ++ u ∷ []) item ∙ sym (take_more txs i d within))
  where
    joined : (t b : Bool) → cond t true b ≡ (b || (t || false))
    joined true true = refl
    joined true false = refl
    joined false true = refl
    joined false false = refl
