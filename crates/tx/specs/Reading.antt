-- Reading from left to right, with the first fault that is met.
use Rattle.std.specs.Prelude.{◌≡◌, ℕ, zero, suc, ◌^◌, List, [], ◌∷◌, length, take, drop, Result, Ok, Err, nat_lt, ◌==◌, if◌then◌else◌}
use Rattle.byteorder.specs.Endian.{little_number}
use Rattle.tx.specs.declared.errors.DecodeError.{DecodeError}
use Rattle.tx.specs.declared.errors.DecodeError.TheVariants.{NoMemory, Truncated, LongCount, BadMarker, NoInputs, NoWitness, ValueTooLarge, Trailing, OverLimit}
use Rattle.tx.specs.declared.input.TxIn.{TxIn}
use Rattle.tx.specs.declared.limits.TheConstants.{MAX_VALUE, MAX_INPUTS, MAX_OUTPUTS, MAX_ITEMS, MAX_BYTES}
use Rattle.tx.specs.Parts.{Output}
use Rattle.tx.specs.Fields.{Transaction, has_witness}

infixl 10 ◌>>=◌
abbrev pub ◌>>=◌ : {A B : Type 0} → Result A DecodeError → (A → Result B DecodeError) → Result B DecodeError
(Ok x) >>= f = f x
(Err e) >>= f = Err e

-- What a function answered, seen through `view`, is what `read` gives, unless memory ran out.
abbrev pub Fails : {Y : Type 0} → DecodeError → Result Y DecodeError → Type 0
Fails NoMemory read = Unit {0}
Fails e read = read ≡ Err e

abbrev pub Gives : {X Y : Type 0} → (X → Y) → Result X DecodeError → Result Y DecodeError → Type 0
Gives view (Ok x) read = read ≡ Ok (view x)
Gives view (Err e) read = Fails e read

-- A field is a value and the bytes after it.
abbrev pub Field : Type 0 → Type 0
Field A = Result (A × List ℕ) DecodeError

-- the first k bytes
unfoldable pub bytes_at : ℕ → List ℕ → Field (List ℕ)
bytes_at k bytes = if nat_lt (length bytes) k then Err Truncated else Ok (take k bytes, drop k bytes)

-- a little-endian number of k bytes
unfoldable pub number_at : ℕ → List ℕ → Field ℕ
number_at k bytes = do
  digits ← bytes_at k bytes
  Ok (little_number k digits.0, digits.1)

-- a number of k bytes; below `least` it has a shorter form, so it is not minimal
unfoldable pub wide_at : ℕ → ℕ → List ℕ → Field ℕ
wide_at k least bytes = do
  n ← number_at k bytes
  if nat_lt n.0 least then Err LongCount else Ok n

-- a minimal compactSize
unfoldable pub compact_size_at : List ℕ → Field ℕ
compact_size_at [] = Err Truncated
compact_size_at (b ∷ rest) =
    if b == 0xfd then wide_at 2 0xfd rest
    else if b == 0xfe then wide_at 4 (2 ^ 16) rest
    else if b == 0xff then wide_at 8 (2 ^ 32) rest
    else Ok (b, rest)

-- a minimal compactSize of at most limit
unfoldable pub compact_size_up_to : ℕ → List ℕ → Field ℕ
compact_size_up_to limit bytes = do
  n ← compact_size_at bytes
  if nat_lt limit n.0 then Err OverLimit else Ok n

-- bytes after their length
unfoldable pub byte_string_at : List ℕ → Field (List ℕ)
byte_string_at bytes = do
  n ← compact_size_up_to MAX_BYTES bytes
  bytes_at n.0 n.1

-- n fields of one kind
unfoldable pub fields_at : {A : Type 0} → (List ℕ → Field A) → ℕ → List ℕ → Field (List A)
fields_at read zero bytes = Ok ([], bytes)
fields_at read (suc n) bytes = do
  first ← read bytes
  others ← fields_at read n first.1
  Ok (first.0 ∷ others.0, others.1)

-- the marker, or the flag
unfoldable pub marker_at : ℕ → List ℕ → Result (List ℕ) DecodeError
marker_at wanted [] = Err Truncated
marker_at wanted (b ∷ rest) = if b == wanted then Ok rest else Err BadMarker

-- an input, without its witness so far
unfoldable pub input_at : List ℕ → Field TxIn
input_at bytes = do
  txid ← bytes_at 32 bytes
  index ← number_at 4 txid.1
  script ← compact_size_up_to 0 index.1
  sequence ← number_at 4 script.1
  Ok (record { outpoint = record { txid = txid.0; index = index.0 }; sequence = sequence.0; witness = [] }, sequence.1)

unfoldable pub output_at : List ℕ → Field Output
output_at bytes = do
  value ← number_at 8 bytes
  script ← if nat_lt MAX_VALUE value.0 then Err ValueTooLarge else byte_string_at value.1
  Ok (record { value = value.0; script = script.0 }, script.1)

-- a count, and that many fields
unfoldable pub list_at : {A : Type 0} → (List ℕ → Field ℕ) → (List ℕ → Field A) → List ℕ → Field (List A)
list_at count read bytes = do
  n ← count bytes
  fields_at read n.0 n.1

-- the number of inputs
unfoldable pub input_count_at : List ℕ → Field ℕ
input_count_at bytes = do
  n ← compact_size_up_to MAX_INPUTS bytes
  if n.0 == 0 then Err NoInputs else Ok n

unfoldable pub inputs_at : List ℕ → Field (List TxIn)
inputs_at bytes = list_at input_count_at input_at bytes

unfoldable pub outputs_at : List ℕ → Field (List Output)
outputs_at bytes = list_at (compact_size_up_to MAX_OUTPUTS) output_at bytes

unfoldable pub witness_at : List ℕ → Field (List (List ℕ))
witness_at bytes = list_at (compact_size_up_to MAX_ITEMS) byte_string_at bytes

-- the input with its witness
unfoldable pub signed_input_at : TxIn → List ℕ → Field TxIn
signed_input_at i bytes = do
  items ← witness_at bytes
  Ok (record i { witness = items.0 }, items.1)

-- a witness for each input
unfoldable pub signed_inputs_at : List TxIn → List ℕ → Field (List TxIn)
signed_inputs_at [] bytes = Ok ([], bytes)
signed_inputs_at (i ∷ is) bytes = do
  first ← signed_input_at i bytes
  others ← signed_inputs_at is first.1
  Ok (first.0 ∷ others.0, others.1)

unfoldable pub witnesses_at : List TxIn → List ℕ → Field (List TxIn)
witnesses_at unsigned bytes = do
  inputs ← signed_inputs_at unsigned bytes
  if has_witness inputs.0 then Ok inputs else Err NoWitness

-- the end of the bytes
unfoldable pub end_at : List ℕ → Transaction → Result Transaction DecodeError
end_at bytes t = if length bytes == 0 then Ok t else Err Trailing

-- the version, and the marker and flag after it
unfoldable pub version_at : List ℕ → Field ℕ
version_at bytes = do
  version ← number_at 4 bytes
  marked ← marker_at 0 version.1
  flagged ← marker_at 1 marked
  Ok (version.0, flagged)

-- the transaction that all of the bytes spell
unfoldable pub reading : List ℕ → Result Transaction DecodeError
reading bytes = do
  version ← version_at bytes
  unsigned ← inputs_at version.1
  outputs ← outputs_at unsigned.1
  inputs ← witnesses_at unsigned.0 outputs.1
  lock_time ← number_at 4 inputs.1
  end_at lock_time.1 (record { version = version.0; inputs = inputs.0; outputs = outputs.0; lock_time = lock_time.0 })

-- the transaction that all of the bytes spell in the form without marker, flag and witnesses
unfoldable pub stripped_reading : List ℕ → Result Transaction DecodeError
stripped_reading bytes = do
  version ← number_at 4 bytes
  inputs ← inputs_at version.1
  outputs ← outputs_at inputs.1
  lock_time ← number_at 4 outputs.1
  end_at lock_time.1 (record { version = version.0; inputs = inputs.0; outputs = outputs.0; lock_time = lock_time.0 })
