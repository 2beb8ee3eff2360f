-- A filling of due claims passes the next block as a whole (BIP 65, BIP 68, BIP 141).
use Rattle.std.specs.Prelude.{◌≡◌, ◌⊎◌, ◌<◌, ◌≤◌, ℕ, ◌+◌, false, List, ◌∷◌, length, Some, None}
use Rattle.std.specs.List.{AllByRecursion}
use Rattle.tx.specs.Parts.{Output}
use Rattle.tx.specs.Fields.{Transaction, KeepsLimits, unsigned_transaction}
use Rattle.tx.specs.Spelling.{transaction_id}
use Rattle.chain.specs.Blocks.{Contents as Block, Coin, empty_block, coin_at}
use Rattle.chain.specs.Checks.{transaction_refusal}
use Rattle.claim.specs.Fitting.{output_at}
use Rattle.claim.specs.Claims.{ClaimParts, IsWhole, sequence_of, lock_time_of}
use Rattle.filling.specs.Filling.{filling_of}
use Rattle.filling.specs.Refusals.{ArePassed}
use Rattle.resolve.specs.declared.known.Known.{Known}
use Rattle.safety.specs.Standing.{StandsAt}
use Rattle.safety.specs.Passing.{HasTwinOn}
use Rattle.safety.specs.Holdings.{Holding, KeepsRules}
use Rattle.due_laws.specs.Knowing.{IsKnownTo}
use Rattle.due_laws.specs.Filling.{OwnsBases, IsDueBy}

-- the claim's output stands on the chain, unspent, and the next block is above the claim's age and lock time
pub record IsRipe (blocks : List Block) (x : ClaimParts) : Type 0 where
  pub coin : Coin
  pub there : coin_at blocks x.place.outpoint ≡ Some coin
  pub output : coin.output ≡ output_at x.place
  pub unspent : coin.spent ≡ false
  pub age : coin.height + sequence_of x ≤ length blocks
  pub above : lock_time_of x < length blocks

-- Claims that a side may fill together. There are some, each is due and ripe, and each is what an accepted claim is. They are on different outputs, they are one with a fixed transaction or open ones alone, and what is
-- paid is at most what they are worth (`ArePassed`)
pub record MayBeFilled (known : Known) (blocks : List Block) (claims : List ClaimParts) (outputs : List Output) : Type 0 where
  pub some : 0 < length claims
  pub due : AllByRecursion (IsDueBy known) claims
  pub whole : AllByRecursion IsWhole claims
  pub passed : ArePassed claims outputs
  pub ripe : AllByRecursion (IsRipe blocks) claims

-- transactions keep their limits, as their types say: the one that fills the claims, and one on the chain that has its id
pub record KeepLimits (blocks : List Block) (t : Transaction) : Type 0 where
  pub twins : (height : ℕ) (u : Transaction) → StandsAt blocks height u → transaction_id u ≡ transaction_id t → KeepsLimits (unsigned_transaction u)
  pub filling : KeepsLimits t

-- Then the transaction that fills them passes all tests of the next block. Or what is hashed for its id collides with what is hashed for the id of one on the chain
abbrev pub FillingsPass : Type 0
FillingsPass =
    (h : Holding) → KeepsRules h → OwnsBases h → (known : Known) → IsKnownTo h known → (blocks : List Block) (claims : List ClaimParts) (outputs : List Output) → MayBeFilled known blocks claims outputs
    → KeepLimits blocks (filling_of claims outputs known.preimages)
    → (transaction_refusal (empty_block ∷ blocks) (filling_of claims outputs known.preimages) ≡ None) ⊎ HasTwinOn blocks (filling_of claims outputs known.preimages)
