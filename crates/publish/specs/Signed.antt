-- What is signed where the signer has the right to the key.
use Rattle.std.specs.Prelude.{◌≡◌, ◌↔◌, Option, Some}
use Rattle.tx.specs.Fields.{Transaction}

-- an answer is a transaction exactly where the right is there and that transaction is the wanted one
abbrev pub IsSignedWhere : Type 0 → Option Transaction → Option Transaction → Type 0
IsSignedWhere right wanted answer = (t : Transaction) → (answer ≡ Some t) ↔ (right × (wanted ≡ Some t))
