-- What a watch gives after a block.
use Rattle.std.specs.Prelude.{◌≡◌, ℕ, List}
use Rattle.tx.specs.Fields.{Transaction}
use Rattle.claim.specs.Claims.{ClaimParts}
use Rattle.penalty.specs.Sets.{AreClaimsOn}
use Rattle.resolve.specs.declared.known.Known.{Known}
use Rattle.watch.specs.Watching.{Seen, spends_after, claims_after}
use Rattle.watch.specs.Learning.{htlcs_by, learnt_in}

-- what it gives after a block at a height, by what was seen before: accepted claims, and the preimages that the block shows
pub record IsSight (seen : Seen) (height : ℕ) (txs : List Transaction) (known : Known) (claims : List ClaimParts) (learnt : List (List ℕ)) : Type 0 where
  pub due : AreClaimsOn (claims_after seen height txs known) claims
  pub shown : learnt ≡ learnt_in (htlcs_by known (spends_after seen height txs known)) txs
