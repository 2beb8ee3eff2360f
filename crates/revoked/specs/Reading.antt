-- What a revoked commitment lets its owner's peer claim of a transaction (BOLT 5, "Revoked Transaction Close Handling").
use Rattle.std.specs.Prelude.{ℕ, ◌+◌, List, [], ◌∷◌, Option, Some, None, option_map}
use Rattle.std.specs.List.{cons_option}
use Rattle.tx.specs.Parts.{Output}
use Rattle.tx.specs.Fields.{Transaction}
use Rattle.claim.specs.declared.parts.Place.{Place}
use Rattle.penalty.specs.Claimable.{Claimable, place_in}
use Rattle.revoked.specs.Parts.{RevokedParts}
use Rattle.revoked.specs.declared.outputs.RevokedOutput.{RevokedOutput}
use Rattle.revoked.specs.Programs.{output_with, claim_on}

-- the claim on the output at a place, if its program is the commitment's
abbrev pub claim_at : RevokedParts → Place → Option Claimable
claim_at r place = option_map (λ o. claim_on r o place) (output_with r place.program)

-- the claims on outputs of a transaction, which stand from an index on
unfoldable pub claimed_from : RevokedParts → Transaction → ℕ → List Output → List Claimable
claimed_from r t index [] = []
claimed_from r t index (o ∷ os) =
    cons_option (claim_at r (place_in t index o)) (claimed_from r t (index + 1) os)

-- an index, if no program of the commitment is there
abbrev pub unless_found : Option RevokedOutput → ℕ → Option ℕ
unless_found None index = Some index
unless_found (Some o) index = None

-- the indices of the other outputs
unfoldable pub others_from : RevokedParts → ℕ → List Output → List ℕ
others_from r index [] = []
others_from r index (o ∷ os) =
    cons_option (unless_found (output_with r o.script) index) (others_from r (index + 1) os)

-- all that is claimed of a transaction, and the outputs that are not
abbrev pub claimed_in : RevokedParts → Transaction → List Claimable
claimed_in r t = claimed_from r t 0 t.outputs

abbrev pub others_in : RevokedParts → Transaction → List ℕ
others_in r t = others_from r 0 t.outputs
