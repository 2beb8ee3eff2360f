-- The definitions on known bytes.
use Rattle.std.proofs.Common.{◌≡◌, ℕ, Bool, true, false, List, [], ◌∷◌, ◌++◌, map, Result, Ok, Err, refl, replicate}
use Rattle.tx.specs.declared.input.TxIn.{TxIn}
use Rattle.tx.specs.declared.errors.DecodeError.{DecodeError}
use Rattle.tx.specs.declared.errors.DecodeError.TheVariants.{Truncated, LongCount, BadMarker, NoInputs, NoWitness, ValueTooLarge, Trailing, OverLimit}
use Rattle.tx.specs.Parts.{Output}
use Rattle.tx.specs.declared.errors.DecodeError.TheVariants.{NoMemory}
use Rattle.tx.specs.declared.errors.EncodeError.TheVariants as encode
use Rattle.tx.specs.declared.errors.FieldError.TheVariants as field
use Rattle.tx.specs.declared.errors.LimitError.TheVariants as limit
use Rattle.tx.specs.Refusals.{limit_refusal_number, field_refusal_number, decode_refusal_number, encode_refusal_number}
use Rattle.tx.specs.declared.limits.TheConstants.{MAX_VALUE, MAX_INPUTS, MAX_OUTPUTS, MAX_ITEMS, MAX_BYTES}
use Rattle.tx.specs.Fields.{Transaction, has_witness, transaction_with_witness, unsigned_transaction, total_value}
use Rattle.tx.specs.Spelling.{number, compact_size, bytes_with_length, outpoint, input, output, witness, body, witnesses, spelling, stripped_spelling}
use Rattle.tx.specs.Reading.{bytes_at, number_at, wide_at, compact_size_at, compact_size_up_to, byte_string_at, fields_at, marker_at, input_at, output_at, list_at, input_count_at, inputs_at, outputs_at, witness_at, signed_input_at, signed_inputs_at, witnesses_at, end_at, version_at, reading, stripped_reading, Field}

abbrev failing : DecodeError → Result Transaction DecodeError
failing e = Err e

abbrev spent : TxIn
spent = record { outpoint = record { txid = replicate 32 0; index = 0 }; sequence = 0; witness = (1 ∷ []) ∷ [] }

abbrev paid : Output
paid = record { value = 1000; script = 0 ∷ 20 ∷ replicate 20 0x11 }

-- one input, one output to a key hash, a witness of one item of one byte
abbrev small : Transaction
small = record { version = 2; inputs = spent ∷ []; outputs = paid ∷ []; lock_time = 0 }

abbrev front : List ℕ
front = 2 ∷ 0 ∷ 0 ∷ 0 ∷ 0 ∷ 1 ∷ 1 ∷ replicate 36 0

abbrev middle : List ℕ
middle = 0 ∷ 0 ∷ 0 ∷ 0 ∷ 0 ∷ 1 ∷ 0xe8 ∷ 0x03 ∷ 0 ∷ 0 ∷ 0 ∷ 0 ∷ 0 ∷ 0 ∷ 0x16 ∷ 0 ∷ 0x14 ∷ replicate 20 0x11

abbrev back : List ℕ
back = 1 ∷ 1 ∷ 1 ∷ 0 ∷ 0 ∷ 0 ∷ 0 ∷ []

small_is_spelled : spelling small ≡ front ++ (middle ++ back)
unfolding spelling body witnesses witness bytes_with_length compact_size number input outpoint output
small_is_spelled = refl

small_stripped : stripped_spelling small ≡ 2 ∷ 0 ∷ 0 ∷ 0 ∷ 1 ∷ (replicate 36 0 ++ (middle ++ (0 ∷ 0 ∷ 0 ∷ 0 ∷ [])))
unfolding stripped_spelling body bytes_with_length compact_size number input outpoint output
small_stripped = refl

counts : (compact_size 0xfc ≡ 0xfc ∷ []) × (compact_size 0xfd ≡ 0xfd ∷ 0xfd ∷ 0 ∷ []) × (compact_size 0xffff ≡ 0xfd ∷ 0xff ∷ 0xff ∷ [])
    × (compact_size 0x10000 ≡ 0xfe ∷ 0 ∷ 0 ∷ 1 ∷ 0 ∷ []) × (compact_size 0x100000000 ≡ 0xff ∷ 0 ∷ 0 ∷ 0 ∷ 0 ∷ 1 ∷ 0 ∷ 0 ∷ 0 ∷ [])
unfolding compact_size number
counts = (refl, refl, refl, refl, refl)

version_alone : reading (2 ∷ 0 ∷ 0 ∷ 0 ∷ []) ≡ failing Truncated
unfolding reading version_at number_at bytes_at marker_at
version_alone = refl

no_marker : reading (2 ∷ 0 ∷ 0 ∷ 0 ∷ 1 ∷ []) ≡ failing BadMarker
unfolding reading version_at number_at bytes_at marker_at
no_marker = refl

no_inputs : reading (2 ∷ 0 ∷ 0 ∷ 0 ∷ 0 ∷ 1 ∷ 0 ∷ []) ≡ failing NoInputs
unfolding reading version_at number_at bytes_at marker_at inputs_at list_at input_count_at compact_size_up_to compact_size_at
no_inputs = refl

-- no outputs, and a witness with no item: the lock time is not read
no_witness : reading (front ++ (0 ∷ 0 ∷ 0 ∷ 0 ∷ 0 ∷ 0 ∷ 0 ∷ [])) ≡ failing NoWitness
unfolding reading version_at number_at bytes_at marker_at inputs_at list_at input_count_at compact_size_up_to compact_size_at fields_at input_at outputs_at witnesses_at signed_inputs_at signed_input_at witness_at
no_witness = refl

small_is_read : reading (front ++ (middle ++ back)) ≡ Ok small
unfolding reading version_at number_at bytes_at marker_at inputs_at list_at input_count_at compact_size_up_to compact_size_at fields_at input_at outputs_at output_at byte_string_at witnesses_at signed_inputs_at signed_input_at witness_at end_at
small_is_read = refl

byte_too_many : reading (front ++ (middle ++ (back ++ 0 ∷ []))) ≡ failing Trailing
unfolding reading version_at number_at bytes_at marker_at inputs_at list_at input_count_at compact_size_up_to compact_size_at fields_at input_at outputs_at output_at byte_string_at witnesses_at signed_inputs_at signed_input_at witness_at end_at
byte_too_many = refl

-- ---- values and bytes from an independent script: different inputs, the second of which is not signed, different outputs,
-- and a witness of two different items

limits : (MAX_VALUE ≡ 2100000000000000) × (MAX_INPUTS ≡ 4000) × (MAX_OUTPUTS ≡ 4000) × (MAX_ITEMS ≡ 1001) × (MAX_BYTES ≡ 10000)
limits = (refl, refl, refl, refl, refl)

abbrev signed : TxIn
signed = record { outpoint = record { txid = replicate 31 7 ++ 8 ∷ []; index = 1 }; sequence = 0xfffffffd; witness = [] ∷ (1 ∷ 2 ∷ 3 ∷ []) ∷ [] }

abbrev unsigned : TxIn
unsigned = record { outpoint = record { txid = replicate 31 9 ++ 10 ∷ []; index = 0xfffffffe }; sequence = 144; witness = [] }

abbrev first_paid : Output
first_paid = record { value = 1; script = [] }

abbrev second_paid : Output
second_paid = record { value = 2100000000000000; script = 0x51 ∷ 0x52 ∷ [] }

abbrev mixed : Transaction
mixed = record { version = 2; inputs = signed ∷ unsigned ∷ []; outputs = first_paid ∷ second_paid ∷ []; lock_time = 500000001 }

abbrev mixed_bytes : List ℕ
mixed_bytes = 0x02 ∷ 0x00 ∷ 0x00 ∷ 0x00 ∷ 0x00 ∷ 0x01 ∷ 0x02 ∷ (replicate 31 7 ++ 0x08 ∷ 0x01 ∷ 0x00 ∷ 0x00 ∷ 0x00 ∷ 0x00 ∷ 0xfd ∷ 0xff ∷ 0xff ∷ 0xff ∷ (replicate 31 9 ++ 0x0a ∷ 0xfe ∷ 0xff ∷ 0xff ∷ 0xff ∷ 0x00 ∷ 0x90 ∷ 0x00 ∷ 0x00 ∷ 0x00 ∷ 0x02 ∷ 0x01 ∷ (replicate 9 0 ++ 0x40 ∷ 0x07 ∷ 0x5a ∷ 0xf0 ∷ 0x75 ∷ 0x07 ∷ 0x00 ∷ 0x02 ∷ 0x51 ∷ 0x52 ∷ 0x02 ∷ 0x00 ∷ 0x03 ∷ 0x01 ∷ 0x02 ∷ 0x03 ∷ 0x00 ∷ 0x01 ∷ 0x65 ∷ 0xcd ∷ 0x1d ∷ [])))

abbrev mixed_stripped : List ℕ
mixed_stripped = 0x02 ∷ 0x00 ∷ 0x00 ∷ 0x00 ∷ 0x02 ∷ (replicate 31 7 ++ 0x08 ∷ 0x01 ∷ 0x00 ∷ 0x00 ∷ 0x00 ∷ 0x00 ∷ 0xfd ∷ 0xff ∷ 0xff ∷ 0xff ∷ (replicate 31 9 ++ 0x0a ∷ 0xfe ∷ 0xff ∷ 0xff ∷ 0xff ∷ 0x00 ∷ 0x90 ∷ 0x00 ∷ 0x00 ∷ 0x00 ∷ 0x02 ∷ 0x01 ∷ (replicate 9 0 ++ 0x40 ∷ 0x07 ∷ 0x5a ∷ 0xf0 ∷ 0x75 ∷ 0x07 ∷ 0x00 ∷ 0x02 ∷ 0x51 ∷ 0x52 ∷ 0x01 ∷ 0x65 ∷ 0xcd ∷ 0x1d ∷ [])))

mixed_is_spelled : (spelling mixed ≡ mixed_bytes) × (stripped_spelling mixed ≡ mixed_stripped)
unfolding spelling stripped_spelling body witnesses witness bytes_with_length compact_size number input outpoint output
mixed_is_spelled = (refl, refl)

mixed_is_read : reading mixed_bytes ≡ Ok mixed
unfolding reading version_at number_at bytes_at marker_at inputs_at list_at input_count_at compact_size_up_to compact_size_at fields_at input_at outputs_at output_at byte_string_at witnesses_at signed_inputs_at signed_input_at witness_at end_at
mixed_is_read = refl

stripped_is_read : (stripped_reading mixed_stripped ≡ Ok (unsigned_transaction mixed)) × (stripped_reading (mixed_stripped ++ 0 ∷ []) ≡ failing Trailing) × (stripped_reading (2 ∷ 0 ∷ 0 ∷ 0 ∷ 0 ∷ 1 ∷ []) ≡ failing NoInputs)
unfolding stripped_reading number_at bytes_at inputs_at list_at input_count_at compact_size_up_to compact_size_at fields_at input_at outputs_at output_at byte_string_at end_at
stripped_is_read = (refl, refl, refl)

-- one witness with an item is enough, at any input
witness_found : (has_witness (signed ∷ unsigned ∷ []) ≡ true) × (has_witness (unsigned ∷ signed ∷ []) ≡ true) × (has_witness (unsigned ∷ unsigned ∷ []) ≡ false) × (has_witness [] ≡ false)
witness_found = (refl, refl, refl, refl)

second_signed : (transaction_with_witness mixed 1 ((5 ∷ []) ∷ [])).inputs ≡ signed ∷ record unsigned { witness = (5 ∷ []) ∷ [] } ∷ []
second_signed = refl

no_witness_left : (unsigned_transaction mixed).inputs ≡ record signed { witness = [] } ∷ unsigned ∷ []
no_witness_left = refl

paid_together : total_value (first_paid ∷ second_paid ∷ []) ≡ 2100000000000001
paid_together = refl

-- a count at its limit and above it, in each width
abbrev a_count : ℕ → List ℕ → Field ℕ
a_count n rest = Ok (n, rest)

abbrev no_count : DecodeError → Field ℕ
no_count e = Err e

count_limits : (compact_size_up_to MAX_INPUTS (0xfd ∷ 0xa0 ∷ 0x0f ∷ 7 ∷ []) ≡ a_count 4000 (7 ∷ [])) × (compact_size_up_to MAX_INPUTS (0xfd ∷ 0xa1 ∷ 0x0f ∷ []) ≡ no_count OverLimit)
    × (compact_size_up_to 0 (0 ∷ []) ≡ a_count 0 []) × (compact_size_up_to 0 (1 ∷ []) ≡ no_count OverLimit)
unfolding compact_size_up_to compact_size_at wide_at number_at bytes_at
count_limits = (refl, refl, refl, refl)

count_spellings : (compact_size_at [] ≡ no_count Truncated) × (compact_size_at (0xfc ∷ []) ≡ a_count 0xfc [])
    × (compact_size_at (0xfd ∷ 0xfc ∷ 0 ∷ []) ≡ no_count LongCount) × (compact_size_at (0xfd ∷ 0xfd ∷ 0 ∷ []) ≡ a_count 0xfd []) × (compact_size_at (0xfd ∷ 0xfd ∷ []) ≡ no_count Truncated)
    × (compact_size_at (0xfe ∷ 0xff ∷ 0xff ∷ 0 ∷ 0 ∷ []) ≡ no_count LongCount) × (compact_size_at (0xfe ∷ 0 ∷ 0 ∷ 1 ∷ 0 ∷ []) ≡ a_count 65536 [])
    × (compact_size_at (0xff ∷ 0xff ∷ 0xff ∷ 0xff ∷ 0xff ∷ 0 ∷ 0 ∷ 0 ∷ 0 ∷ []) ≡ no_count LongCount) × (compact_size_at (0xff ∷ 0 ∷ 0 ∷ 0 ∷ 0 ∷ 1 ∷ 0 ∷ 0 ∷ 0 ∷ []) ≡ a_count 4294967296 [])
unfolding compact_size_at wide_at number_at bytes_at
count_spellings = (refl, refl, refl, refl, refl, refl, refl, refl, refl)

-- a value at its limit and above it, before the script is read
abbrev an_output : Output → Field Output
an_output o = Ok (o, [])

abbrev no_output : DecodeError → Field Output
no_output e = Err e

value_limits : (output_at (0x00 ∷ 0x40 ∷ 0x07 ∷ 0x5a ∷ 0xf0 ∷ 0x75 ∷ 0x07 ∷ 0x00 ∷ 1 ∷ 9 ∷ []) ≡ an_output (record { value = 2100000000000000; script = 9 ∷ [] }))
    × (output_at (0x01 ∷ 0x40 ∷ 0x07 ∷ 0x5a ∷ 0xf0 ∷ 0x75 ∷ 0x07 ∷ 0x00 ∷ []) ≡ no_output ValueTooLarge)
unfolding output_at number_at bytes_at byte_string_at compact_size_up_to compact_size_at
value_limits = (refl, refl)

-- a refusal has the same number in every call
refusal_numbers : (map decode_refusal_number (NoMemory ∷ Truncated ∷ LongCount ∷ BadMarker ∷ NoInputs ∷ NoWitness ∷ ValueTooLarge ∷ Trailing ∷ OverLimit ∷ []) ≡ 0 ∷ 1 ∷ 2 ∷ 3 ∷ 4 ∷ 5 ∷ 6 ∷ 7 ∷ 8 ∷ [])
    × (map encode_refusal_number (encode.NoMemory ∷ encode.NoWitness ∷ []) ≡ 0 ∷ 5 ∷ []) × (map field_refusal_number (field.NoInputs ∷ field.ValueTooLarge ∷ field.OverLimit ∷ []) ≡ 4 ∷ 6 ∷ 8 ∷ [])
    × (map limit_refusal_number (limit.NoMemory ∷ limit.OverLimit ∷ []) ≡ 0 ∷ 8 ∷ [])
refusal_numbers = (refl, refl, refl, refl)
