-- Outputs of transactions in JSON.
use Rattle.std.specs.Prelude.{length, nat_lt, if◌then◌else◌, Option, Some, None}
use Rattle.serde_json.specs.Data.{Data}
use Rattle.tx.specs.declared.limits.TheConstants.{MAX_VALUE, MAX_BYTES}
use Rattle.tx.specs.Parts.{Output}
use Rattle.claim.specs.Opcodes.{◌>>=◌}
use Rattle.texts.specs.Values.{array_of, item_of, u64_of, bytes_of}

-- an array of the value and the script, both within their limits
unfoldable pub output_of : Data → Option Output
output_of d = do
  pair ← array_of 2 d
  value ← item_of 0 u64_of pair
  script ← item_of 1 bytes_of pair
  if nat_lt MAX_VALUE value then None else if nat_lt MAX_BYTES (length script) then None else Some (record { value = value; script = script })
