-- Why the newest blocks are not replaced, and the result where they are.
use Rattle.std.specs.Prelude.{◌≡◌, ℕ, ◌||◌, ◌==◌, nat_lt, if◌then◌else◌, List, length, take, drop, Option, Some, None, Result, Ok, Err}
use Rattle.tx.specs.Fields.{Transaction}
use Rattle.chain.specs.Blocks.{Standing, transactions_of}
use Rattle.chain.specs.Connecting.{is_too_deep}
use Rattle.mempool.specs.declared.errors.ReorgError.{ReorgError}
use Rattle.mempool.specs.declared.errors.ReorgError.TheVariants.{NoMemory, TooDeep, NoSuchTx}
use Rattle.mempool.specs.Mining.{kept_of, pool_after, reorganised}

-- the first refusal: TooDeep, then NoSuchTx
abbrev pub reorg_refusal : Standing → ℕ → ℕ → Option ReorgError
reorg_refusal chain depth forgotten =
    if depth == 0 || is_too_deep chain depth then Some TooDeep else (if nat_lt (length (transactions_of (take depth chain.blocks))) forgotten then Some NoSuchTx else None)

-- a refusal is the first that holds, unless memory ran out
abbrev pub IsRefusal : Option ReorgError → ReorgError → Type 0
IsRefusal first NoMemory = Unit {0}
IsRefusal first e = first ≡ Some e

abbrev pub without_newest : ℕ → Standing → Standing
without_newest depth chain = record chain { blocks = drop depth chain.blocks }

-- blocks were taken off, and gave these transactions
abbrev pub IsTakenOff : Standing → ℕ → ℕ → Result (List Transaction) ReorgError → Standing → Type 0
IsTakenOff old depth forgotten (Ok txs) new = (reorg_refusal old depth forgotten ≡ None) × (txs ≡ kept_of depth forgotten old.blocks) × (new ≡ without_newest depth old)
IsTakenOff old depth forgotten (Err e) new = IsRefusal (reorg_refusal old depth forgotten) e

-- a chain without its newest blocks, and the resulting pool
pub record IsBranch (old : Standing) (pool released : List Transaction) (depth forgotten : ℕ) (new : Standing) (waiting : List Transaction) : Type 0 where
  pub lawful : reorg_refusal old depth forgotten ≡ None
  pub chain : new ≡ without_newest depth old
  pub waiting_is : waiting ≡ pool_after depth forgotten old.blocks pool released

-- the chain and the pool once blocks were replaced, and the number of transactions in the new ones
pub record IsReorganised (old : Standing) (pool released : List Transaction) (depth forgotten : ℕ) (new : Standing) (waiting : List Transaction) (txs : ℕ) : Type 0 where
  pub lawful : reorg_refusal old depth forgotten ≡ None
  pub mined : reorganised depth forgotten old pool released ≡ record { chain = new; waiting = waiting; txs = txs }
