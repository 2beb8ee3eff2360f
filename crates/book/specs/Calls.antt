-- The parts of openings and batches.
use Rattle.std.specs.Prelude.{◌≡◌, ℕ, List}
use Rattle.tx.specs.Parts.{Output}
use Rattle.keys.specs.declared.compressed.Key.{Key}
use Rattle.terms.specs.declared.sides.Side.{Side}
use Rattle.terms.specs.declared.agreement.Terms.{Terms}
use Rattle.claim.specs.Claims.{ClaimParts}
use Rattle.book.specs.declared.calls.Opening.{Opening}
use Rattle.book.specs.declared.calls.Batch.{Batch}

-- an opening has these values
pub record IsOpenedBy (terms : Terms) (side : Side) (seed : List ℕ) (first_point next_point : Key) (token : List ℕ) (o : Opening) : Type 0 where
  pub terms_is : o.terms ≡ terms
  pub side_is : o.side ≡ side
  pub seed_is : o.seed ≡ seed
  pub first_point_is : o.first_point ≡ first_point
  pub next_point_is : o.next_point ≡ next_point
  pub token_is : o.token ≡ token

-- a batch has these values
pub record IsBatchOf (claims : List ClaimParts) (outputs : List Output) (preimages : List (List ℕ)) (b : Batch) : Type 0 where
  pub claims_is : b.claims ≡ claims
  pub outputs_is : b.outputs ≡ outputs
  pub preimages_is : b.preimages ≡ preimages
