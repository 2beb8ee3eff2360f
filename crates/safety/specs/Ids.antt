-- What the id of a transaction tells of it (BIP 141).
use Rattle.std.specs.Prelude.{◌≡◌, ◌⊎◌}
use Rattle.digest.specs.Hash.{sha256d, Collide}
use Rattle.tx.specs.Fields.{Transaction, KeepsLimits, unsigned_transaction}
use Rattle.tx.specs.Spelling.{stripped_spelling, transaction_id}

-- transactions of one id are the same but for their witnesses, or the bytes that are hashed for their ids collide
abbrev pub OneId : Type 0
OneId = (t u : Transaction) → KeepsLimits t → KeepsLimits u → transaction_id t ≡ transaction_id u → (unsigned_transaction t ≡ unsigned_transaction u) ⊎ Collide sha256d (stripped_spelling t) (stripped_spelling u)
