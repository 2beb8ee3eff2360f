-- Updates in JSON, with the fields of BOLT 2's messages: arrays whose first item is the message's name.
use Rattle.std.specs.Prelude.{ℕ, if◌then◌else◌, List, Option, Some, None, codes}
use Rattle.std.specs.Str.{bytes_eq}
use Rattle.serde_json.specs.Data.{Data}
use Rattle.updates.specs.declared.changes.Update.{Update}
use Rattle.updates.specs.declared.changes.Update.TheVariants.{Add, Fulfil, Fail, Fee}
use Rattle.claim.specs.Opcodes.{◌>>=◌}
use Rattle.texts.specs.Values.{array_of, item_of, tag_of, u64_of, u32_of, bytes_of_len}

unfoldable pub add_of : Data → Option Update
add_of d = do
  form ← array_of 5 d
  id ← item_of 1 u64_of form
  amount_msat ← item_of 2 u64_of form
  hash ← item_of 3 (bytes_of_len 32) form
  expiry_height ← item_of 4 u32_of form
  Some (Add (record { id = id; amount_msat = amount_msat; hash = hash; expiry_height = expiry_height }))

unfoldable pub fulfil_of : Data → Option Update
fulfil_of d = do
  form ← array_of 3 d
  id ← item_of 1 u64_of form
  preimage ← item_of 2 (bytes_of_len 32) form
  Some (Fulfil id preimage)

unfoldable pub fail_of : Data → Option Update
fail_of d = do
  form ← array_of 2 d
  id ← item_of 1 u64_of form
  Some (Fail id)

unfoldable pub fee_of : Data → Option Update
fee_of d = do
  form ← array_of 2 d
  feerate_per_kw ← item_of 1 u32_of form
  Some (Fee feerate_per_kw)

-- reads an update by its name
unfoldable pub update_named : List ℕ → Data → Option Update
update_named name d =
    if bytes_eq name (codes "add") then add_of d
    else if bytes_eq name (codes "fulfil") then fulfil_of d
    else if bytes_eq name (codes "fail") then fail_of d
    else if bytes_eq name (codes "fee") then fee_of d
    else None

unfoldable pub update_of : Data → Option Update
update_of d = tag_of d >>= (λ name. update_named name d)
