-- The outputs of a request in JSON (RFC 8259).
use Rattle.std.specs.Prelude.{reverse, Option, Some, codes}
use Rattle.serde_json.specs.Data.{Data}
use Rattle.tx.specs.declared.input.OutPoint.{OutPoint}
use Rattle.claim.specs.declared.parts.Place.{Place}
use Rattle.claim.specs.Opcodes.{◌>>=◌}
use Rattle.texts.specs.declared.claims.PlainClaim.{PlainClaim}
use Rattle.texts.specs.Values.{first_some, object_of, member_of, list_of, u64_of, bytes_of}
use Rattle.texts.specs.Outpoints.{outpoint_of}
use Rattle.texts.specs.Claims.{slot_of, shell_of}

-- the outpoint whose id has these bytes from the last to the first
abbrev pub turned : OutPoint → OutPoint
turned o = record { txid = reverse o.txid; index = o.index }

-- `explorer` has the id as explorers show it, `outpoint` in the hash's own byte order
abbrev pub outpoint_in : Data → Option OutPoint
outpoint_in form = first_some (member_of (codes "explorer") outpoint_of form >>= (λ o. Some (turned o))) (member_of (codes "outpoint") outpoint_of form)

abbrev pub place_in : Data → Option Place
place_in form = do
  outpoint ← outpoint_in form
  value ← member_of (codes "value") u64_of form
  program ← member_of (codes "program") bytes_of form
  Some (record { outpoint = outpoint; value = value; program = program })

-- an object of seven members: those of a claim in a book's dump, or with `explorer` in the place of `outpoint`
unfoldable pub output_of : Data → Option PlainClaim
output_of d = do
  form ← object_of 7 d
  path ← member_of (codes "path") u64_of form
  script ← member_of (codes "script") bytes_of form
  place ← place_in form
  slots ← member_of (codes "slots") (list_of slot_of) form
  shell ← member_of (codes "shell") shell_of form
  Some (record { script = script; path = path; slots = slots; place = place; shell = shell })
