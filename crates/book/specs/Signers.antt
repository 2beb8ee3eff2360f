-- What a signer may sign for, and whether it can fill claims.
use Rattle.std.specs.Prelude.{◌≡◌, ◌↔◌, ◌⊎◌, ℕ, Bool, true, ◌||◌, List, [], ◌∷◌, Option, Some, None, is_some, if◌then◌else◌}
use Rattle.std.specs.Option.{option_or}
use Rattle.tx.specs.Parts.{Output}
use Rattle.keys.specs.Keys.{base_keys, learnt_keys, is_among}
use Rattle.keys.specs.Rights.{Rights, MaySign}
use Rattle.claim.specs.declared.parts.Slot.{Slot}
use Rattle.claim.specs.declared.parts.Slot.TheVariants.{Sig, Preimage, Exact}
use Rattle.claim.specs.Claims.{ClaimParts}
use Rattle.filling.specs.declared.errors.FillError.{FillError}
use Rattle.filling.specs.declared.errors.FillError.TheVariants.{NoMemory, NoRight, NoPreimage, OutputsExceed, MixedShells, SameOutpoint}
use Rattle.filling.specs.Filling.{preimage_of}
use Rattle.filling.specs.Refusals.{are_mixed, share_outpoint, do_exceed, all_slots, ArePassed, AreFillable, IsFirstRefusal}

-- whether a signer may sign for a key: a base key of its own, or a key that derives from what it learnt
unfoldable pub may_sign : Rights → List ℕ → Bool
may_sign r k = is_among k (base_keys r.seed) || is_among k (learnt_keys r.seed r.points r.secrets)

-- what a slot lacks
abbrev pub lack_of : Rights → List (List ℕ) → Slot → Option FillError
lack_of r known (Sig k) = if may_sign r k.bytes then None else Some NoRight
lack_of r known (Preimage h) = if is_some (preimage_of known h) then None else Some NoPreimage
lack_of r known (Exact b) = None

-- what the first slot that cannot be filled lacks
abbrev pub first_lack : Rights → List (List ℕ) → List Slot → Option FillError
first_lack r known [] = None
first_lack r known (slot ∷ slots) = option_or (lack_of r known slot) (first_lack r known slots)

-- why claims are not filled: the first refusal in the order of the tests
unfoldable pub fill_refusal : List ClaimParts → List Output → Rights → List (List ℕ)
    → Option FillError
fill_refusal claims outputs r preimages =
    if are_mixed claims then Some MixedShells
    else if share_outpoint claims then Some SameOutpoint
    else if do_exceed claims outputs then Some OutputsExceed
    else first_lack r preimages (all_slots claims)

-- the test accepts exactly the keys that a signer may sign for
abbrev pub RightsAreTested : Type 0
RightsAreTested = (r : Rights) (key : List ℕ) → may_sign r key ≡ true ↔ MaySign r key

-- the first refusal is the one that `fill` returns, barring out-of-memory, and there is none exactly if nothing refuses the claims
pub record RefusalsAreFound : Type 0 where
  pub refused :
      (claims : List ClaimParts) (outputs : List Output) (r : Rights) (preimages : List (List ℕ)) (e : FillError) → IsFirstRefusal claims outputs r preimages e
      → (e ≡ NoMemory) ⊎ (fill_refusal claims outputs r preimages ≡ Some e)
  pub filled :
      (claims : List ClaimParts) (outputs : List Output) (r : Rights) (preimages : List (List ℕ)) → ArePassed claims outputs → AreFillable r preimages (all_slots claims)
      → fill_refusal claims outputs r preimages ≡ None
  pub only :
      (claims : List ClaimParts) (outputs : List Output) (r : Rights) (preimages : List (List ℕ)) → fill_refusal claims outputs r preimages ≡ None
      → ArePassed claims outputs × AreFillable r preimages (all_slots claims)
