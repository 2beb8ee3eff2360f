-- The one spelling of each field, and the bytes of a transaction (BIP 144). Numbers are little-endian.
use Rattle.std.specs.Prelude.{◌≡◌, ℕ, ◌^◌, false, List, [], ◌∷◌, ◌++◌, length, nat_lt, if◌then◌else◌, IsTrue}
use Rattle.std.specs.List.{flat_map}
use Rattle.byteorder.specs.Endian.{little_bytes}
use Rattle.digest.specs.Hash.{sha256d}
use Rattle.tx.specs.declared.input.OutPoint.{OutPoint}
use Rattle.tx.specs.declared.input.TxIn.{TxIn}
use Rattle.tx.specs.Parts.{Output}
use Rattle.tx.specs.Fields.{Transaction, KeepsLimits, has_witness}

-- a number in k bytes
unfoldable pub number : ℕ → ℕ → List ℕ
number k n = little_bytes k n

-- a count or a length as a minimal compactSize (BIP 144)
unfoldable pub compact_size : ℕ → List ℕ
compact_size n =
    if nat_lt n 0xfd then n ∷ []
    else if nat_lt n (2 ^ 16) then 0xfd ∷ number 2 n
    else if nat_lt n (2 ^ 32) then 0xfe ∷ number 4 n
    else 0xff ∷ number 8 n

-- bytes after their length as a compactSize
unfoldable pub bytes_with_length : List ℕ → List ℕ
bytes_with_length bytes = compact_size (length bytes) ++ bytes

unfoldable pub outpoint : OutPoint → List ℕ
outpoint o = o.txid ++ number 4 o.index

-- an input, whose script is empty; its witness is spelled elsewhere
unfoldable pub input : TxIn → List ℕ
input i = outpoint i.outpoint ++ compact_size 0 ++ number 4 i.sequence

unfoldable pub output : Output → List ℕ
output o = number 8 o.value ++ bytes_with_length o.script

unfoldable pub witness : List (List ℕ) → List ℕ
witness items = compact_size (length items) ++ flat_map bytes_with_length items

-- the inputs and outputs, each list after its count
unfoldable pub body : List TxIn → List Output → List ℕ
body inputs outputs = compact_size (length inputs) ++ flat_map input inputs
    ++ compact_size (length outputs) ++ flat_map output outputs

-- a witness for each input
unfoldable pub witnesses : List TxIn → List ℕ
witnesses inputs = flat_map (λ i. witness i.witness) inputs

-- version, marker, flag, inputs, outputs, witnesses, lock time
unfoldable pub spelling : Transaction → List ℕ
spelling t = number 4 t.version ++ (0 ∷ 1 ∷ []) ++ body t.inputs t.outputs ++ witnesses t.inputs ++ number 4 t.lock_time

-- version, inputs, outputs, lock time: the form without marker, flag and witnesses
unfoldable pub stripped_spelling : Transaction → List ℕ
stripped_spelling t = number 4 t.version ++ body t.inputs t.outputs ++ number 4 t.lock_time

-- The bytes are those of the transaction, which keeps the limits, has an input, and has a witness with an item.
pub record IsTransaction (t : Transaction) (bytes : List ℕ) : Type 0 where
  pub limits : KeepsLimits t
  pub signed : IsTrue (has_witness t.inputs)
  pub spelled : bytes ≡ spelling t

-- The bytes are those of the transaction in the form without marker, flag and witnesses. It keeps the limits, has an input, and has no witness item.
pub record IsStripped (t : Transaction) (bytes : List ℕ) : Type 0 where
  pub limits : KeepsLimits t
  pub unsigned : has_witness t.inputs ≡ false
  pub spelled : bytes ≡ stripped_spelling t

-- the id (BIP 141), in the hash's own byte order
unfoldable pub transaction_id : Transaction → List ℕ
transaction_id t = sha256d (stripped_spelling t)

-- the outpoint of its output at an index
abbrev pub outpoint_at : Transaction → ℕ → OutPoint
outpoint_at t index = record { txid = transaction_id t; index = index }
