-- Claims on a chain: what 'due' and 'passes' mean. `world/specs/Theorem.antt` states this at each moment of every run. (`GuardedMeans` of `book/specs/Guarding.antt` states that a book signs
-- nothing after a revocation before its penalties are kept.)
--
-- Take any filling of an accepted claim whose output is unspent, and whose height and age are reached. It runs to one true value, within 201 counted opcodes and 1,000 entries.
-- No operand is missing, no check fails, and no branch stays open. The chain's test of that input does not refuse it.
--
-- A filling is any input of any transaction that fits the claim (`FitsClaim`), no matter who made it, and what else the transaction spends and pays. An accepted claim is what every
-- `Claim` is (`IsWhole`). The chain is any list of blocks, so the theorem holds at every moment, whatever happens to the chain. It does not say that the transaction gets into a block,
-- that its other inputs pass, or that its outputs are worth no more than its inputs.
use Rattle.std.specs.Prelude.{◌≡◌, ℕ, ◌+◌, ◌≤◌, ◌<◌, false, List, slice_get, Some, None, ◌↔◌}
use Rattle.script.specs.declared.limits.TheConstants.{MAX_OPS_PER_SCRIPT, MAX_STACK_SIZE}
use Rattle.script.specs.Spelling.{spelling}
use Rattle.script.specs.Clean.{IsClean}
use Rattle.script.specs.Run.{Clean}
use Rattle.tx.specs.declared.input.TxIn.{TxIn}
use Rattle.tx.specs.Fields.{Transaction}
use Rattle.sighash.specs.Programs.{spend_of, run_of}
use Rattle.claim.specs.Claims.{ClaimParts, IsWhole, FitsClaim, sequence_of}
use Rattle.chain.specs.Blocks.{Contents, Coin, coin_at}
use Rattle.chain.specs.Locks.{IsReached}
use Rattle.chain.specs.Checks.{input_refusal, indexed_refusal}

-- The blocks have the newest first, and `height` is that of the block that is to take the transaction. `check_input` tests for the next block, whose height is the number of blocks.
-- `connect` tests for the new block, after the transactions that it has so far.

-- an input fits a claim and is due. The output that it spends is unspent on the chain, with the value and the program of the claim's place. The lock time and the age are reached
-- in a block of this height (BIP 65, 68)
pub record IsDue (blocks : List Contents) (height : ℕ) (x : ClaimParts) (t : Transaction)
    (input : TxIn) : Type 0 where
  pub fits : FitsClaim x t input
  pub coin : Coin
  pub reached : IsReached blocks height t input coin
  pub value : coin.output.value ≡ x.place.value
  pub program : coin.output.script ≡ x.place.program

-- such an input passes the chain's test and runs clean
pub record Passes (blocks : List Contents) (height : ℕ) (x : ClaimParts) (t : Transaction)
    (input : TxIn) (due : IsDue blocks height x t input) : Type 0 where
  -- the chain's test does not refuse it, alone or at any index at which it stands
  pub passes : input_refusal blocks height t input ≡ None
  pub at_index : (i : ℕ) → slice_get t.inputs i ≡ Some input
      → indexed_refusal blocks height t (slice_get t.inputs i) ≡ None
  -- the program of the output that it spends runs clean on its whole witness (BIP 141)
  pub run : run_of t input due.coin.output ≡ Some (Clean due.fits.path.ops due.fits.path.height)
  -- a chain of steps leads from the witness items to the end of the script with one true value: no operand is missing, no check fails, no branch is open
  pub clean : IsClean (spend_of t input (spelling x.ways.ops) x.place.value) x.ways.ops
      due.fits.fits.items due.fits.path.ops due.fits.path.height
  -- its counted opcodes, and the greatest number of entries on its stack
  pub few : due.fits.path.ops ≤ MAX_OPS_PER_SCRIPT
  pub low : due.fits.path.height ≤ MAX_STACK_SIZE

-- so at any moment of any chain, for each accepted claim and each input that fits it
abbrev pub ClaimsSpend : Type 0
ClaimsSpend =
    (blocks : List Contents) (height : ℕ) (x : ClaimParts) (t : Transaction) (input : TxIn) → IsWhole x → (due : IsDue blocks height x t input) → Passes blocks height x t input due

-- the block is above the transaction's lock time, and above the output's block by at least the claim's age in blocks
pub record IsTime (height : ℕ) (x : ClaimParts) (t : Transaction) (coin : Coin) : Type 0 where
  pub above : t.lock_time < height
  pub age : coin.height + sequence_of x ≤ height

-- if an input fits an accepted claim and its output is unspent, 'reached' means exactly this
abbrev pub LocksAreHeights : Type 0
LocksAreHeights =
    (blocks : List Contents) (height : ℕ) (x : ClaimParts) (t : Transaction) (input : TxIn) (coin : Coin) → IsWhole x → FitsClaim x t input → coin_at blocks input.outpoint ≡ Some coin
    → coin.spent ≡ false → IsReached blocks height t input coin ↔ IsTime height x t coin
