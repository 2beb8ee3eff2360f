-- Time locks of a transaction (BIP 65, BIP 68), on a chain whose blocks have heights; times up to 0x20FFFFFF count as reached.
use Rattle.std.specs.Prelude.{◌≡◌, ℕ, ◌+◌, ◌%◌, ◌^◌, Bool, false, ◌&&◌, ◌||◌, not, nat_lt, nat_le, ◌==◌, List, Some, IsTrue}
use Rattle.std.specs.List.{list_all}
use Rattle.script.specs.declared.limits.TheConstants.{LOCKTIME_THRESHOLD}
use Rattle.script.specs.Step.{bit_at}
use Rattle.tx.specs.declared.input.TxIn.{TxIn}
use Rattle.tx.specs.Fields.{Transaction}
use Rattle.chain.specs.Blocks.{Contents, Coin, coin_at}

-- a block of this height may hold a transaction of this lock time. A lock time below 500,000,000 is a height, and must be below the
-- block's. A time counts as reached up to 0x20FFFFFF, and never above. The lock time does not count where every input is final.
abbrev pub is_final : ℕ → ℕ → List TxIn → Bool
is_final height lock_time inputs = (nat_lt lock_time LOCKTIME_THRESHOLD && nat_lt lock_time height)
    || (nat_le LOCKTIME_THRESHOLD lock_time && nat_le lock_time 0x20ffffff)
    || list_all (λ i. i.sequence == 0xffffffff) inputs

-- a block of this height may hold a spend of a coin of that height. A relative lock applies from version 2 on, where bit 31 of the
-- sequence is clear. Its low 16 bits are a number of blocks where bit 22 is clear; where bit 22 is set, the lock is never reached.
abbrev pub is_old_enough : ℕ → ℕ → ℕ → ℕ → Bool
is_old_enough height version sequence coin_height = nat_lt version 2 || bit_at 31 sequence
    || (not (bit_at 22 sequence) && nat_le (coin_height + sequence % 2 ^ 16) height)

-- a block of this height, after these, may hold the transaction, as far as the output that an input spends and its locks are concerned
pub record IsReached (blocks : List Contents) (height : ℕ) (t : Transaction) (input : TxIn)
    (coin : Coin) : Type 0 where
  pub found : coin_at blocks input.outpoint ≡ Some coin
  pub unspent : coin.spent ≡ false
  pub final : IsTrue (is_final height t.lock_time t.inputs)
  pub old_enough : IsTrue (is_old_enough height t.version input.sequence coin.height)
