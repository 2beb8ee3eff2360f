-- What an input on a chain that passed its tests satisfies.
use Rattle.std.specs.Prelude.{◌≡◌, ℕ, true, false, List, reverse, slice_get, Some, None}
use Rattle.std.specs.List.{Contains}
use Rattle.tx.specs.declared.input.OutPoint.{OutPoint}
use Rattle.tx.specs.declared.input.TxIn.{TxIn}
use Rattle.tx.specs.Parts.{Output}
use Rattle.tx.specs.Fields.{Transaction}
use Rattle.tx.specs.Spelling.{transaction_id}
use Rattle.chain.specs.Blocks.{Contents, Coin, is_named, coin_at}
use Rattle.chain.specs.Checks.{coin_refusal}
use Rattle.chain.specs.Checked.{is_checked}
use Rattle.chain.specs.Conserving.{GrantsAreApart}
use Rattle.chain.specs.Indexing.{marked}

-- the transaction is in the block of this height
pub record StandsAt (blocks : List Contents) (height : ℕ) (t : Transaction) : Type 0 where
  pub block : Contents
  pub there : slice_get (reverse blocks) height ≡ Some block
  pub within : Contains block.transactions t

-- an input passes the chain's test of a coin, in a block of this height
abbrev pub PassesTest : (height : ℕ) → Transaction → TxIn → Coin → Type 0
PassesTest height t input coin = coin_refusal height t input (Some coin) ≡ None

-- each input on the chain names a coin of it, and passed the test of that coin, as it was before it was spent
abbrev pub HavePassed : Type 0
HavePassed =
    (blocks : List Contents) → is_checked blocks ≡ true
    → (height : ℕ) (t : Transaction) → StandsAt blocks height t → (input : TxIn) → Contains t.inputs input
    → (coin : Coin) × (coin_at blocks input.outpoint ≡ Some coin) × PassesTest height t input (marked false coin)

-- the coin at each output of a transaction on the chain is that output, of the transaction's block
abbrev pub CoinsHaveHeights : Type 0
CoinsHaveHeights =
    (blocks : List Contents) → is_checked blocks ≡ true → GrantsAreApart blocks
    → (height : ℕ) (t : Transaction) → StandsAt blocks height t → (o : OutPoint) → transaction_id t ≡ o.txid → (output : Output) → slice_get t.outputs o.index ≡ Some output
    → coin_at blocks o ≡ Some (record { output = output; height = height; spent = is_named blocks o })
