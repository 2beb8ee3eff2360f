-- That the claims of the delayed key wait.
use Rattle.std.specs.Prelude.{◌≡◌, ℕ, ◌<◌, ◌^◌, List}
use Rattle.std.specs.List.{Contains}
use Rattle.tx.specs.declared.input.TxIn.{TxIn}
use Rattle.tx.specs.Fields.{Transaction}
use Rattle.chain.specs.Blocks.{Coin}
use Rattle.claim.specs.declared.parts.Place.{Place}
use Rattle.claim.specs.Claims.{ClaimParts, FitsClaim}
use Rattle.filling.specs.Filled.{AllFit}
use Rattle.commit.specs.Commitments.{Contents}
use Rattle.penalty.specs.Sets.{claimed_by}
use Rattle.resolve.specs.Due.{delayed_on}
use Rattle.safety.specs.Standing.{PassesTest}
use Rattle.safety.specs.Spending.{IsLate}

-- Say that an input fits a claim by the delayed key, and passes the chain's test of its coin in a block of a height. This height is then at least the delay above that
-- of the coin's block. With a delay of 0 nobody waits
abbrev pub DelayedWaits : Type 0
DelayedWaits =
    (c : Contents) → c.delay_blocks < 2 ^ 16 → (place : Place) (x : ClaimParts) → claimed_by x ≡ delayed_on c place
    → (height : ℕ) (t : Transaction) (input : TxIn) (coin : Coin) → FitsClaim x t input → PassesTest height t input coin
    → IsLate c coin.height height

-- an input fits one of the claims
abbrev pub FitsOne : List ClaimParts → Transaction → TxIn → Type 0
FitsOne claims t input = (x : ClaimParts) × Contains claims x × FitsClaim x t input

-- so does each input of the transaction that fills them
abbrev pub EachInputFits : Type 0
EachInputFits = (claims : List ClaimParts) (t : Transaction) → AllFit t claims t.inputs → (input : TxIn) → Contains t.inputs input → FitsOne claims t input
