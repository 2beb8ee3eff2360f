-- Known preimages.
use Rattle.std.proofs.Common.{◌≡◌, ℕ, Bool, true, false, cond, ◌||◌, List, [], ◌∷◌, Some, refl}
use Rattle.std.specs.Option.{is_some}
use Rattle.std.specs.Str.{bytes_eq}
use Rattle.sha2.specs.Sha256.{sha256}
use Rattle.resolve.specs.Preimages.{first_of, is_known}

pub found_is_known : (preimages : List (List ℕ)) (hash : List ℕ) → is_some (first_of preimages hash) ≡ is_known preimages hash
found_is_known [] hash = refl
found_is_known (x ∷ xs) hash = at (bytes_eq (sha256 x) hash) (found_is_known xs hash)
  where
    at : (b : Bool) → is_some (first_of xs hash) ≡ is_known xs hash → is_some (cond b (Some x) (first_of xs hash)) ≡ (b || is_known xs hash)
    at true e = refl
    at false e = e
