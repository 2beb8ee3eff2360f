-- Chains whose grants have distinct ids.
use Rattle.std.specs.Prelude.{◌≡◌, ℕ, ◌<◌, false, List}
use Rattle.std.specs.Str.{bytes_eq}
use Rattle.chain.specs.Blocks.{Contents, grant_id, grants_in, has_id}

-- no two grants have the same id, and no transaction on the chain has the id of a grant
pub record GrantsAreApart (blocks : List Contents) : Type 0 where
  pub among_grants : (g h : ℕ) → g < h → h < grants_in blocks → bytes_eq (grant_id g) (grant_id h) ≡ false
  pub from_transactions : (g : ℕ) → g < grants_in blocks → has_id blocks (grant_id g) ≡ false
