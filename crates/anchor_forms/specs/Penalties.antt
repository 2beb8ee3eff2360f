-- Penalties on the outputs of HTLCs.
use Rattle.std.specs.Prelude.{◌≡◌, ℕ, List, [], ◌∷◌, map, Some, slice_get}
use Rattle.digest.specs.Hash.{hash160}
use Rattle.paths.specs.Listing.{CheckedScript}
use Rattle.claim.specs.declared.parts.Place.{Place}
use Rattle.claim.specs.declared.parts.Shell.TheVariants.{Open}
use Rattle.claim.specs.Claims.{ClaimParts, IsAccepted}
use Rattle.forms.specs.Fillings.{Signature, Bytes, filling_of}
use Rattle.forms.specs.Ways.{key_way}

-- a form whose first path is that of the revocation key, by its hash
pub record IsPenaltyForm (revocation : List ℕ) (form : CheckedScript) : Type 0 where
  pub counted : ℕ
  pub first : slice_get form.paths 0 ≡ Some (key_way (hash160 revocation) counted)

-- the accepted claim on a form at a place, by the revocation key and its first path, whatever transaction stands round it
pub record IsPenaltyOn (revocation : List ℕ) (form : CheckedScript) (place : Place) (c : ClaimParts) : Type 0 where
  pub ways : c.ways ≡ form
  pub index : c.index ≡ 0
  pub slots : map filling_of c.slots ≡ Bytes revocation ∷ Signature revocation ∷ []
  pub place_is : c.place ≡ place
  pub shell : c.shell ≡ Open
  pub accepted : IsAccepted c
