-- Blocks and reorganisations make no transaction: what holds of each one on the chain, in the pool and among those released holds of each one afterwards.
use Rattle.std.proofs.Common.{ℕ, zero, suc, ◌+◌, ◌-◌, Bool, true, false, not, List, [], ◌∷◌, ◌++◌, length, take, drop, reverse, Option, Some, None, sym, subst}
use Rattle.std.specs.Prelude.{filter, if◌then◌else◌}
use Rattle.std.specs.List.{AllByRecursion}
use Rattle.std.proofs.lemmas.List.{reverse-append}
use Rattle.tx.specs.Fields.{Transaction}
use Rattle.chain.specs.declared.errors.ChainError.{ChainError}
use Rattle.chain.specs.Blocks.{Contents, Standing, empty_block, transactions_of}
use Rattle.chain.specs.Checks.{transaction_refusal}
use Rattle.chain.specs.Connecting.{unless_refusal, passing_added, refusals_of}
use Rattle.mempool.specs.Mining.{Mined, waits, still_waiting, block_after, blocks_after, mined_by, kept_of, is_on, pool_after, reorganised}
use Rattle.world.proofs.Whole.{all_append, all_take}

-- ---- lists

pub all_weaker : {A : Type 0} (P Q : A → Type 0) → ((x : A) → P x → Q x) → (xs : List A) → AllByRecursion P xs → AllByRecursion Q xs
all_weaker P Q f [] a = tt
all_weaker P Q f (x ∷ xs) a = (f x a.0, all_weaker P Q f xs a.1)

pub all_first : {A : Type 0} (P : A → Type 0) (xs ys : List A) → AllByRecursion P (xs ++ ys) → AllByRecursion P xs
all_first P [] ys a = tt
all_first P (x ∷ xs) ys a = (a.0, all_first P xs ys a.1)

pub all_last : {A : Type 0} (P : A → Type 0) (xs ys : List A) → AllByRecursion P (xs ++ ys) → AllByRecursion P ys
all_last P [] ys a = a
all_last P (x ∷ xs) ys a = all_last P xs ys a.1

all_reverse : {A : Type 0} (P : A → Type 0) (xs : List A) → AllByRecursion P xs → AllByRecursion P (reverse xs)
all_reverse P [] a = tt
all_reverse P (x ∷ xs) a = subst (AllByRecursion P) (sym (reverse-append (x ∷ []) xs)) (all_append P (reverse xs) (x ∷ []) (all_reverse P xs a.1) (a.0, tt))

all_filter : {A : Type 0} (P : A → Type 0) (test : A → Bool) (xs : List A) → AllByRecursion P xs → AllByRecursion P (filter test xs)
all_filter P test [] a = tt
all_filter P test (x ∷ xs) a = go (test x) (all_filter P test xs a.1)
  where
    go : (b : Bool) → AllByRecursion P (filter test xs) → AllByRecursion P (if b then x ∷ filter test xs else filter test xs)
    go true rest = (a.0, rest)
    go false rest = rest

-- ---- blocks

abbrev pub AllOn : (Transaction → Type 0) → List Contents → Type 0
AllOn P blocks = AllByRecursion P (transactions_of blocks)

one_added : (P : Transaction → Type 0) (r : Option ChainError) (blocks : List Contents) (t : Transaction) → AllOn P blocks → P t → AllOn P (unless_refusal r blocks t)
one_added P (Some refusal) blocks t a p = a
one_added P None [] t a p = tt
one_added P None (b ∷ older) t a p = (p, a)

those_added : (P : Transaction → Type 0) (blocks : List Contents) (ts : List Transaction) → AllOn P blocks → AllByRecursion P ts → AllOn P (passing_added blocks ts)
those_added P blocks [] a p = a
those_added P blocks (t ∷ ts) a p = those_added P (unless_refusal (transaction_refusal blocks t) blocks t) ts (one_added P (transaction_refusal blocks t) blocks t a p.0) p.1

those_waiting : (P : Transaction → Type 0) (ts : List Transaction) (rs : List (Option ChainError)) → AllByRecursion P ts → AllByRecursion P (still_waiting ts rs)
those_waiting P [] rs a = tt
those_waiting P (t ∷ ts) [] a = tt
those_waiting P (t ∷ ts) (r ∷ rs) a = go (waits r) (those_waiting P ts rs a.1)
  where
    go : (b : Bool) → AllByRecursion P (still_waiting ts rs) → AllByRecursion P (if b then t ∷ still_waiting ts rs else still_waiting ts rs)
    go true rest = (a.0, rest)
    go false rest = rest

pub record AllIn (P : Transaction → Type 0) (m : Mined) : Type 0 where
  pub chain : AllOn P m.chain.blocks
  pub waiting : AllByRecursion P m.waiting

one_block : (P : Transaction → Type 0) (m : Mined) → AllIn P m → AllIn P (block_after m)
one_block P m a = record {
  chain = those_added P (empty_block ∷ m.chain.blocks) m.waiting a.chain a.waiting;
  waiting = those_waiting P m.waiting (refusals_of (empty_block ∷ m.chain.blocks) m.waiting) a.waiting;
}

these_blocks : (P : Transaction → Type 0) (k : ℕ) (m : Mined) → AllIn P m → AllIn P (blocks_after k m)
unfolding blocks_after
these_blocks P zero m a = a
these_blocks P (suc k) m a = these_blocks P k (block_after m) (one_block P m a)

pub all_mined : (P : Transaction → Type 0) (k : ℕ) (chain : Standing) (pool : List Transaction) → AllOn P chain.blocks → AllByRecursion P pool → AllIn P (mined_by k chain pool)
all_mined P k chain pool a p = these_blocks P k (record { chain = chain; waiting = pool; txs = 0 }) (record { chain = a; waiting = p })

-- ---- reorganisations

all_older : (P : Transaction → Type 0) (depth : ℕ) (blocks : List Contents) → AllOn P blocks → AllOn P (drop depth blocks)
all_older P zero blocks a = a
all_older P (suc depth) [] a = tt
all_older P (suc depth) (b ∷ blocks) a = all_older P depth blocks (all_last P b.transactions (transactions_of blocks) a)

all_newer : (P : Transaction → Type 0) (depth : ℕ) (blocks : List Contents) → AllOn P blocks → AllOn P (take depth blocks)
all_newer P zero blocks a = tt
all_newer P (suc depth) [] a = tt
all_newer P (suc depth) (b ∷ blocks) a =
    all_append P b.transactions (transactions_of (take depth blocks)) (all_first P b.transactions (transactions_of blocks) a)
    (all_newer P depth blocks (all_last P b.transactions (transactions_of blocks) a))

pub all_reorganised : (P : Transaction → Type 0) (depth forgotten : ℕ) (chain : Standing) (pool released : List Transaction) → AllOn P chain.blocks → AllByRecursion P pool → AllByRecursion P released
    → AllIn P (reorganised depth forgotten chain pool released)
all_reorganised P depth forgotten chain pool released a p r =
    let newest = transactions_of (take depth chain.blocks) in
    all_mined P (depth + 1) (record chain { blocks = drop depth chain.blocks }) (pool_after depth forgotten chain.blocks pool released) (all_older P depth chain.blocks a)
    (all_append P (kept_of depth forgotten chain.blocks ++ pool) _
    (all_append P (kept_of depth forgotten chain.blocks) pool (all_take P (length newest - forgotten) (reverse newest) (all_reverse P newest (all_newer P depth chain.blocks a))) p)
    (all_filter P (λ t. not (is_on (drop depth chain.blocks) (kept_of depth forgotten chain.blocks ++ pool) t)) released r))
