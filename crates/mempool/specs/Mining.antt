-- New blocks from the pool, and the replacement of the newest blocks.
use Rattle.std.specs.Prelude.{◌≡◌, ℕ, zero, suc, ◌+◌, ◌-◌, max, if◌then◌else◌, Bool, true, false, ◌||◌, not, List, [], ◌∷◌, ◌++◌, length, take, drop, reverse, filter, Option, Some, None}
use Rattle.std.specs.List.{list_any}
use Rattle.std.specs.Str.{bytes_eq}
use Rattle.tx.specs.Fields.{Transaction}
use Rattle.tx.specs.Spelling.{transaction_id}
use Rattle.chain.specs.declared.errors.ChainError.{ChainError}
use Rattle.chain.specs.declared.errors.ChainError.TheVariants.{NotFinal, TooYoung, Unknown}
use Rattle.chain.specs.declared.refused.Refused.{Refused}
use Rattle.chain.specs.Blocks.{Contents, Standing, empty_block, height_of, has_id, transactions_of}
use Rattle.chain.specs.Connecting.{passing_added, refusals_of}

-- the chain, what still waits for a block, and the number of transactions in the new blocks
pub record Mined : Type 0 where
  pub chain : Standing
  pub waiting : List Transaction
  pub txs : ℕ

-- a transaction refused for this reason waits for a later block; any other is dropped
abbrev pub waits : Option ChainError → Bool
waits (Some NotFinal) = true
waits (Some TooYoung) = true
waits (Some Unknown) = true
waits refusal = false

abbrev pub is_taken : Option ChainError → Bool
is_taken None = true
is_taken (Some refusal) = false

-- those of the transactions that still wait, by the reason of each refusal
abbrev pub still_waiting : List Transaction → List (Option ChainError) → List Transaction
still_waiting [] rs = []
still_waiting (t ∷ ts) [] = []
still_waiting (t ∷ ts) (r ∷ rs) = if waits r then t ∷ still_waiting ts rs else still_waiting ts rs

-- the same of those that were refused
abbrev pub waiting_among : List Refused → List Transaction
waiting_among [] = []
waiting_among (r ∷ rs) = if waits (Some r.refusal) then r.confirmed ∷ waiting_among rs else waiting_among rs

-- the chain with one more block
abbrev pub with_blocks : List Contents → Standing → Standing
with_blocks blocks s = record { blocks = blocks; greatest = max s.greatest (height_of blocks) }

-- one more block, which takes what the chain allows in the order of the pool
abbrev pub block_after : Mined → Mined
block_after m =
    let refusals = refusals_of (empty_block ∷ m.chain.blocks) m.waiting in
    record {
      chain = with_blocks (passing_added (empty_block ∷ m.chain.blocks) m.waiting) m.chain;
      waiting = still_waiting m.waiting refusals;
      txs = m.txs + length (filter is_taken refusals);
    }

-- and this number of blocks
unfoldable pub blocks_after : ℕ → Mined → Mined
blocks_after zero m = m
blocks_after (suc k) m = blocks_after k (block_after m)

abbrev pub mined_by : ℕ → Standing → List Transaction → Mined
mined_by k chain pool = blocks_after k (record { chain = chain; waiting = pool; txs = 0 })

-- the next block of these transactions gives this chain, what still waits, and the number of transactions taken
pub record IsNextBlock (old : Standing) (txs : List Transaction) (new : Standing) (waiting : List Transaction) (taken : ℕ) : Type 0 where
  pub chain : new ≡ with_blocks (passing_added (empty_block ∷ old.blocks) txs) old
  pub waiting_is : waiting ≡ still_waiting txs (refusals_of (empty_block ∷ old.blocks) txs)
  pub taken_is : taken ≡ length (filter is_taken (refusals_of (empty_block ∷ old.blocks) txs))

-- the same for k blocks
abbrev pub AreNewBlocks : ℕ → Standing → List Transaction → Standing → List Transaction → ℕ → Type 0
AreNewBlocks k old pool new waiting taken = mined_by k old pool ≡ record { chain = new; waiting = waiting; txs = taken }

-- ---- reorganisations

-- the transactions of the newest blocks, in the order of the chain, without the last `forgotten`
abbrev pub kept_of : ℕ → ℕ → List Contents → List Transaction
kept_of depth forgotten blocks = take (length (transactions_of (take depth blocks)) - forgotten) (reverse (transactions_of (take depth blocks)))

-- a transaction with this id waits in the pool
abbrev pub has_waiting : List Transaction → List ℕ → Bool
has_waiting pool id = list_any (λ t. bytes_eq (transaction_id t) id) pool

abbrev pub is_on : List Contents → List Transaction → Transaction → Bool
is_on blocks pool t = has_id blocks (transaction_id t) || has_waiting pool (transaction_id t)

-- the pool with each released filling that is neither on the chain nor in the pool, after the others
abbrev pub with_fillings : List Contents → List Transaction → List Transaction → List Transaction
with_fillings blocks pool released = pool ++ filter (λ t. not (is_on blocks pool t)) released

abbrev pub pool_after : ℕ → ℕ → List Contents → List Transaction → List Transaction → List Transaction
pool_after depth forgotten blocks pool released = with_fillings (drop depth blocks) (kept_of depth forgotten blocks ++ pool) released

-- the chain with its newest blocks replaced by one block more
abbrev pub reorganised : ℕ → ℕ → Standing → List Transaction → List Transaction → Mined
reorganised depth forgotten chain pool released =
    mined_by (depth + 1) (record chain { blocks = drop depth chain.blocks }) (pool_after depth forgotten chain.blocks pool released)
