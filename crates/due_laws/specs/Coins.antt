-- What a reader of blocks says of an output is what the chain says of its coin.
use Rattle.std.specs.Prelude.{◌≡◌, true, List, Some, slice_get}
use Rattle.tx.specs.declared.input.OutPoint.{OutPoint}
use Rattle.tx.specs.Parts.{Output}
use Rattle.chain.specs.Blocks.{Contents as Block, Coin, coin_at}
use Rattle.chain.specs.Checked.{is_checked}
use Rattle.chain.specs.Conserving.{GrantsAreApart}
use Rattle.sights.specs.declared.sighted.Sighted.{Sighted}
use Rattle.sights.specs.Sights.{sighted_as, stage_after, is_there, sights_in, made_at, was_taken}

-- an output stands on a chain as it was read: made at the height of its coin, and taken exactly if that is spent
pub record IsAsRead (blocks : List Block) (ss : List Sighted) (o : OutPoint) (output : Output) : Type 0 where
  pub coin : Coin
  pub there : coin_at blocks o ≡ Some coin
  pub is : coin.output ≡ output
  pub made : made_at o ss ≡ Some coin.height
  pub taken : was_taken o ss ≡ coin.spent

-- So does each output of a transaction that was read and is followed, on a chain that passed its tests
abbrev pub SightsAreCoins : Type 0
SightsAreCoins =
    (fundings : List OutPoint) (blocks : List Block) → is_checked blocks ≡ true → GrantsAreApart blocks
    → (o : OutPoint) (s : Sighted) → sighted_as o.txid (sights_in fundings blocks) ≡ Some s → is_there (stage_after (Some s.stage)) ≡ true
    → (output : Output) → slice_get s.tx.outputs o.index ≡ Some output → IsAsRead blocks (sights_in fundings blocks) o output
