-- Weights, and fees by them (BIP 141).
use Rattle.std.specs.Prelude.{ℕ, ◌+◌, ◌*◌, ◌/◌, if◌then◌else◌, List, length}
use Rattle.tx.specs.Fields.{Transaction, has_witness}
use Rattle.tx.specs.Spelling.{spelling, stripped_spelling}
use Rattle.filling.specs.declared.missing.MissingSignature.{MissingSignature}

-- BIP 144: the number of bytes of a transaction, in the form without marker, flag and witnesses where no witness has an item
abbrev pub total_size : Transaction → ℕ
total_size t = if has_witness t.inputs then length (spelling t) else length (stripped_spelling t)

-- BIP 141: three times the size without witnesses, and the whole size
abbrev pub weight_of : Transaction → ℕ
weight_of t = 3 * length (stripped_spelling t) + total_size t

-- the weight that the transaction has at most with the signatures that it lacks, each with 73 bytes: at most 72 of DER, and the hash type. The length before
-- it has one byte, as that of the empty item has
abbrev pub greatest_weight : Transaction → List MissingSignature → ℕ
greatest_weight t signatures = weight_of t + 73 * length signatures

-- the satoshis for this weight, rounded up
abbrev pub fee_at : ℕ → ℕ → ℕ
fee_at feerate_per_kw weight = (feerate_per_kw * weight + 999) / 1000
