-- The refusals by their numbers, which are the same in every call.
use Rattle.std.specs.Prelude.{ℕ}
use Rattle.tx.specs.declared.errors.LimitError.{LimitError}
use Rattle.tx.specs.declared.errors.LimitError.TheVariants as limit
use Rattle.tx.specs.declared.errors.FieldError.{FieldError}
use Rattle.tx.specs.declared.errors.FieldError.TheVariants as field
use Rattle.tx.specs.declared.errors.DecodeError.{DecodeError}
use Rattle.tx.specs.declared.errors.DecodeError.TheVariants as decode
use Rattle.tx.specs.declared.errors.EncodeError.{EncodeError}
use Rattle.tx.specs.declared.errors.EncodeError.TheVariants as encode

abbrev pub limit_refusal_number : LimitError → ℕ
limit_refusal_number limit.NoMemory = 0
limit_refusal_number limit.OverLimit = 8

abbrev pub field_refusal_number : FieldError → ℕ
field_refusal_number field.NoInputs = 4
field_refusal_number field.ValueTooLarge = 6
field_refusal_number field.OverLimit = 8

abbrev pub decode_refusal_number : DecodeError → ℕ
decode_refusal_number decode.NoMemory = 0
decode_refusal_number decode.Truncated = 1
decode_refusal_number decode.LongCount = 2
decode_refusal_number decode.BadMarker = 3
decode_refusal_number decode.NoInputs = 4
decode_refusal_number decode.NoWitness = 5
decode_refusal_number decode.ValueTooLarge = 6
decode_refusal_number decode.Trailing = 7
decode_refusal_number decode.OverLimit = 8

abbrev pub encode_refusal_number : EncodeError → ℕ
encode_refusal_number encode.NoMemory = 0
encode_refusal_number encode.NoWitness = 5

-- what the reader answers where a collection refuses an element
abbrev pub decoding : LimitError → DecodeError
decoding limit.NoMemory = decode.NoMemory
decoding limit.OverLimit = decode.OverLimit
