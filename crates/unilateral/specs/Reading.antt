-- What an unrevoked commitment lets one claim of a transaction (BOLT 5, "Unilateral Close Handling").
use Rattle.std.specs.Prelude.{ℕ, ◌+◌, if◌then◌else◌, List, [], ◌∷◌, ◌++◌, Option, Some, None}
use Rattle.std.specs.List.{cons_option}
use Rattle.tx.specs.Parts.{Output}
use Rattle.tx.specs.Fields.{Transaction}
use Rattle.claim.specs.declared.parts.Place.{Place}
use Rattle.penalty.specs.Claimable.{Claimable, place_in}
use Rattle.revoked.specs.declared.outputs.RevokedOutput.{RevokedOutput}
use Rattle.revoked.specs.Programs.{output_with}
use Rattle.unilateral.specs.declared.closes.Close.{Close}
use Rattle.unilateral.specs.Claims.{is_claimed, claims_on}

-- the claims on an output, if it is one of the commitment's
abbrev pub claims_if : Close → Option RevokedOutput → Place → List Claimable
claims_if c None place = []
claims_if c (Some o) place = claims_on c o place

abbrev pub claims_at : Close → Place → List Claimable
claims_at c place = claims_if c (output_with c.commitment place.program) place

-- the claims on outputs of a transaction, which stand from an index on
unfoldable pub claimed_from : Close → Transaction → ℕ → List Output → List Claimable
claimed_from c t index [] = []
claimed_from c t index (o ∷ os) = claims_at c (place_in t index o) ++ claimed_from c t (index + 1) os

-- an index, if nothing is claimed there
abbrev pub unless_claimed : Close → Option RevokedOutput → ℕ → Option ℕ
unless_claimed c None index = Some index
unless_claimed c (Some o) index = if is_claimed c o then None else Some index

-- the indices of the other outputs
unfoldable pub others_from : Close → ℕ → List Output → List ℕ
others_from c index [] = []
others_from c index (o ∷ os) =
    cons_option (unless_claimed c (output_with c.commitment o.script) index) (others_from c (index + 1) os)

-- all that is claimed of a transaction, and the outputs that are not
abbrev pub claimed_in : Close → Transaction → List Claimable
claimed_in c t = claimed_from c t 0 t.outputs

abbrev pub others_in : Close → Transaction → List ℕ
others_in c t = others_from c 0 t.outputs
