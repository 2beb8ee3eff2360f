-- Claims in JSON.
use Rattle.std.specs.Prelude.{◌≡◌, ℕ, nat_le, Bool, true, false, refl, length, if◌then◌else◌, List, Option, Some, None, codes}
use Rattle.std.specs.Str.{bytes_eq}
use Rattle.std.specs.Result.{result_ok}
use Rattle.std.proofs.lemmas.Bool.{leb-true}
use Rattle.serde_json.specs.Data.{Data}
use Rattle.serde_json.specs.Find.{as_null}
use Rattle.script.specs.declared.limits.TheConstants.{MAX_SCRIPT_ELEMENT_SIZE}
use Rattle.tx.specs.Reading.{stripped_reading}
use Rattle.claim.specs.declared.parts.WitnessItem.{WitnessItem}
use Rattle.claim.specs.declared.parts.Slot.{Slot}
use Rattle.claim.specs.declared.parts.Slot.TheVariants.{Sig, Preimage, Exact}
use Rattle.claim.specs.declared.parts.Shell.{Shell}
use Rattle.claim.specs.declared.parts.Shell.TheVariants.{Open, Fixed}
use Rattle.texts.specs.declared.claims.PlainClaim.{PlainClaim}
use Rattle.claim.specs.Opcodes.{◌>>=◌}
use Rattle.texts.specs.Values.{first_some, array_of, object_of, item_of, member_of, tag_of, list_of, u64_of, bytes_of, bytes_of_len}
use Rattle.texts.specs.Keys.{key_of}
use Rattle.texts.specs.Outpoints.{outpoint_of}

-- a witness item, of at most 520 bytes
abbrev pub item_if : (bytes : List ℕ) (short : Bool) → nat_le (length bytes) MAX_SCRIPT_ELEMENT_SIZE ≡ short → Option WitnessItem
item_if bytes true h = Some (record { item = bytes; short = leb-true (length bytes) MAX_SCRIPT_ELEMENT_SIZE h })
item_if bytes false h = None

abbrev pub witness_item_in : List ℕ → Option WitnessItem
witness_item_in bytes = item_if bytes (nat_le (length bytes) MAX_SCRIPT_ELEMENT_SIZE) refl

abbrev pub witness_item_of : Data → Option WitnessItem
witness_item_of d = bytes_of d >>= witness_item_in

unfoldable pub sig_of : Data → Option Slot
sig_of d = do
  form ← array_of 2 d
  key ← item_of 1 key_of form
  Some (Sig key)

unfoldable pub preimage_of : Data → Option Slot
preimage_of d = do
  form ← array_of 2 d
  hash ← item_of 1 (bytes_of_len 32) form
  Some (Preimage hash)

unfoldable pub exact_of : Data → Option Slot
exact_of d = do
  form ← array_of 2 d
  bytes ← item_of 1 witness_item_of form
  Some (Exact bytes)

-- reads a slot by the name of its filling
unfoldable pub slot_named : List ℕ → Data → Option Slot
slot_named name d =
    if bytes_eq name (codes "sig") then sig_of d
    else if bytes_eq name (codes "preimage") then preimage_of d
    else if bytes_eq name (codes "exact") then exact_of d
    else None

unfoldable pub slot_of : Data → Option Slot
slot_of d = tag_of d >>= (λ name. slot_named name d)

-- null, or the bytes of the fixed transaction without marker, flag and witnesses
unfoldable pub shell_of : Data → Option Shell
shell_of d = first_some (as_null d >>= (λ n. Some Open)) (bytes_of d >>= (λ bytes. result_ok (stripped_reading bytes) >>= (λ t. Some (Fixed t))))

-- an object of these seven members
unfoldable pub claim_of : Data → Option PlainClaim
claim_of d = do
  form ← object_of 7 d
  outpoint ← member_of (codes "outpoint") outpoint_of form
  path ← member_of (codes "path") u64_of form
  value ← member_of (codes "value") u64_of form
  program ← member_of (codes "program") bytes_of form
  script ← member_of (codes "script") bytes_of form
  slots ← member_of (codes "slots") (list_of slot_of) form
  shell ← member_of (codes "shell") shell_of form
  Some (record { script = script; path = path; slots = slots; place = record { outpoint = outpoint; value = value; program = program }; shell = shell })
