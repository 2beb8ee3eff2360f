-- Claims as they are written.
use Rattle.std.specs.Prelude.{◌≡◌, ℕ, ◌<◌, ◌^◌, List, ◌++◌, map, Some, decimal, codes, ⊤}
use Rattle.std.specs.List.{AllByRecursion}
use Rattle.hex.specs.Hex.{encode_lower, IsBytes}
use Rattle.serde_json.specs.Data.{Data, no_members, member, no_items, item, null, string, array, object}
use Rattle.serde_json.specs.View.{items_of}
use Rattle.script.specs.Spelling.{spelling}
use Rattle.tx.specs.Spelling.{stripped_spelling, IsStripped}
use Rattle.tx.specs.declared.input.OutPoint.{OutPoint}
use Rattle.claim.specs.declared.parts.Slot.{Slot}
use Rattle.claim.specs.declared.parts.Slot.TheVariants.{Sig, Preimage, Exact}
use Rattle.claim.specs.declared.parts.Shell.{Shell}
use Rattle.claim.specs.declared.parts.Shell.TheVariants.{Open, Fixed}
use Rattle.claim.specs.Claims.{ClaimParts}
use Rattle.texts.specs.declared.claims.PlainClaim.{PlainClaim}
use Rattle.texts.specs.Outpoints.{outpoint_of}
use Rattle.texts.specs.Claims.{slot_of, shell_of, claim_of}
use Rattle.texts.specs.Writing.{number_data, bytes_data, Is32Bytes}

-- the id in the hash's own byte order, and the index in decimal digits
unfoldable pub outpoint_data : OutPoint → Data
outpoint_data o = string (encode_lower o.txid ++ codes ":" ++ decimal o.index)

abbrev pub named_bytes : List ℕ → List ℕ → Data
named_bytes name bytes = array (item (string name) (item (bytes_data bytes) no_items))

unfoldable pub slot_data : Slot → Data
slot_data (Sig key) = named_bytes (codes "sig") key.bytes
slot_data (Preimage hash) = named_bytes (codes "preimage") hash
slot_data (Exact bytes) = named_bytes (codes "exact") bytes.item

unfoldable pub shell_data : Shell → Data
shell_data Open = null
shell_data (Fixed t) = bytes_data (stripped_spelling t)

unfoldable pub claim_data : ClaimParts → Data
claim_data c =
    object (member (codes "outpoint") (outpoint_data c.place.outpoint) (member (codes "path") (number_data c.index) (member (codes "program") (bytes_data c.place.program)
    (member (codes "script") (bytes_data (spelling c.ways.ops)) (member (codes "shell") (shell_data c.shell) (member (codes "slots") (array (items_of (map slot_data c.slots)))
    (member (codes "value") (number_data c.place.value) no_members)))))))

-- ---- what was written is read back as the same

abbrev pub IsOutPoint : OutPoint → Type 0
IsOutPoint o = Is32Bytes o.txid × (o.index < 2 ^ 32)

-- the parts of a slot are bytes, of a hash 32 of them
abbrev pub IsSlot : Slot → Type 0
IsSlot (Sig key) = IsBytes key.bytes
IsSlot (Preimage hash) = Is32Bytes hash
IsSlot (Exact bytes) = IsBytes bytes.item

-- a fixed transaction has no witness item, and its spelling is bytes
abbrev pub IsShell : Shell → Type 0
IsShell Open = ⊤
IsShell (Fixed t) = IsStripped t (stripped_spelling t) × IsBytes (stripped_spelling t)

pub record IsClaim (c : ClaimParts) : Type 0 where
  pub outpoint : IsOutPoint c.place.outpoint
  pub program : IsBytes c.place.program
  pub script : IsBytes (spelling c.ways.ops)
  pub slots : AllByRecursion IsSlot c.slots
  pub shell : IsShell c.shell

-- the claim with its script in place of its paths
abbrev pub plain_claim : ClaimParts → PlainClaim
plain_claim c = record { script = spelling c.ways.ops; path = c.index; slots = c.slots; place = c.place; shell = c.shell }

abbrev pub OutpointsComeBack : Type 0
OutpointsComeBack = (o : OutPoint) → IsOutPoint o → outpoint_of (outpoint_data o) ≡ Some o

abbrev pub SlotsComeBack : Type 0
SlotsComeBack = (s : Slot) → IsSlot s → slot_of (slot_data s) ≡ Some s

abbrev pub ShellsComeBack : Type 0
ShellsComeBack = (s : Shell) → IsShell s → shell_of (shell_data s) ≡ Some s

abbrev pub ClaimsComeBack : Type 0
ClaimsComeBack = (c : ClaimParts) → IsClaim c → claim_of (claim_data c) ≡ Some (plain_claim c)
