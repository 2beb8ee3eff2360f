-- Keys and tokens in JSON.
use Rattle.std.specs.Prelude.{◌≡◌, ℕ, Bool, true, false, refl, if◌then◌else◌, List, Option, Some, None}
use Rattle.serde_json.specs.Data.{Data}
use Rattle.script.specs.Token.{is_key, is_token}
use Rattle.keys.specs.declared.compressed.Key.{Key}
use Rattle.terms.specs.declared.agreement.BaseKeys.{BaseKeys}
use Rattle.claim.specs.Opcodes.{◌>>=◌}
use Rattle.texts.specs.Values.{array_of, item_of, bytes_of_len}

abbrev pub key_if : (bytes : List ℕ) (form : Bool) → is_key bytes ≡ form → Option Key
key_if bytes true h = Some (record { bytes = bytes; form = h })
key_if bytes false h = None

-- the key of these bytes, if they have the form of one
abbrev pub key_in : List ℕ → Option Key
key_in bytes = key_if bytes (is_key bytes) refl

abbrev pub key_of : Data → Option Key
key_of d = bytes_of_len 33 d >>= key_in

-- an array of the five base keys
unfoldable pub base_keys_of : Data → Option BaseKeys
base_keys_of d = do
  keys ← array_of 5 d
  funding ← item_of 0 key_of keys
  payment ← item_of 1 key_of keys
  delayed ← item_of 2 key_of keys
  htlc ← item_of 3 key_of keys
  revocation ← item_of 4 key_of keys
  Some (record { funding = funding; payment = payment; delayed = delayed; htlc = htlc; revocation = revocation })

-- the bytes of a signature token
abbrev pub token_bytes_of : Data → Option (List ℕ)
token_bytes_of d = bytes_of_len 66 d >>= (λ bytes. if is_token bytes then Some bytes else None)
