-- The value that bytes spell, in terms of the reader of `serde_json`.
use Rattle.std.proofs.Common.{◌≡◌, ℕ, Bool, true, false, if◌then◌else◌, List, Some, None, refl}
use Rattle.std.specs.Str.{IsUtf8, is_utf8}
use Rattle.std.proofs.lemmas.Str.{IsUtf8-from_is_utf8, is_utf8-from_IsUtf8}
use Rattle.serde_json.specs.Data.{Data}
use Rattle.serde_json.specs.Read.{read}
use Rattle.spend.specs.Asking.{value_in}

pub is_value : (bytes : List ℕ) (d : Data) → IsUtf8 bytes → read bytes ≡ Some d → value_in bytes ≡ Some d
is_value bytes d utf8 found = rw (is_utf8-from_IsUtf8 bytes utf8) found

pub no_value : (bytes : List ℕ) → (IsUtf8 bytes → read bytes ≡ None) → value_in bytes ≡ None
no_value bytes none = go (is_utf8 bytes) refl
  where
    go : (utf8 : Bool) → is_utf8 bytes ≡ utf8 → (if utf8 then read bytes else None) ≡ None
    go true h = none (IsUtf8-from_is_utf8 bytes h)
    go false h = refl
