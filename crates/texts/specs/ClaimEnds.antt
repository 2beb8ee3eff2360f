-- The members of a claim in JSON that are read last.
use Rattle.std.specs.Prelude.{ℕ, Result, Option, Some, codes}
use Rattle.serde_json.specs.Data.{Data}
use Rattle.claim.specs.declared.parts.Place.{Place}
use Rattle.texts.specs.declared.claims.PlainClaim.{PlainClaim}
use Rattle.texts.specs.declared.claims.ClaimEnd.{ClaimEnd}
use Rattle.texts.specs.declared.errors.ShapeError.{ShapeError}
use Rattle.claim.specs.Opcodes.{◌>>=◌}
use Rattle.texts.specs.Values.{Gives, member_of, list_of, bytes_of}
use Rattle.texts.specs.Claims.{slot_of, shell_of}

-- a claim whose path and place were read before
unfoldable pub claim_from : ℕ → Place → Data → Option PlainClaim
claim_from path place form = do
  script ← member_of (codes "script") bytes_of form
  slots ← member_of (codes "slots") (list_of slot_of) form
  shell ← member_of (codes "shell") shell_of form
  Some (record { script = script; path = path; slots = slots; place = place; shell = shell })

-- the result completes the claim, with any path and place
abbrev pub Ends : Result ClaimEnd ShapeError → Data → Type 0
Ends result form = (path : ℕ) (place : Place) → Gives (λ (end : ClaimEnd). record { script = end.script; path = path; slots = end.slots; place = place; shell = end.shell }) result (claim_from path place form)
