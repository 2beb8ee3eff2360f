-- What a reader of blocks has is what the chain shows, after each of its calls; and what it tells stays told.
use Rattle.std.specs.Prelude.{◌≡◌, ℕ, true, false, List, ◌∷◌, ◌++◌, map, length, Some}
use Rattle.tx.specs.declared.input.OutPoint.{OutPoint}
use Rattle.chain.specs.Blocks.{Contents as Block, is_named}
use Rattle.penalty.specs.Sets.{claimed_by}
use Rattle.resolve.specs.declared.known.Known.{Known}
use Rattle.sights.specs.declared.sighted.Sighted.{Sighted}
use Rattle.sights.specs.declared.telling.Told.{Told}
use Rattle.sights.specs.Sights.{read_block, sights_in, up_to, made_at, was_taken}
use Rattle.sights.specs.Telling.{close_of, IsTold}

-- After the next block, after the blocks above a height were taken off, and after one more channel opened whose funding output no block takes
pub record SightsFollow : Type 0 where
  pub block : (fundings : List OutPoint) (b : Block) (older : List Block) → read_block fundings (length older) b.transactions (sights_in fundings older) ≡ sights_in fundings (b ∷ older)
  pub disconnect : (fundings : List OutPoint) (newer : List Block) (b : Block) (older : List Block) → up_to (length older) (sights_in fundings (newer ++ b ∷ older)) ≡ sights_in fundings (b ∷ older)
  pub opening : (fundings : List OutPoint) (o : OutPoint) (blocks : List Block) → is_named blocks o ≡ false → sights_in (o ∷ fundings) blocks ≡ sights_in fundings blocks

-- What is told of a channel stays told by the same knowledge, whatever blocks come, as long as that which closed it stands: the same claims, each with its output's height and deadline
pub record ToldStays (fundings : List OutPoint) (newer blocks : List Block) (known : Known) (before after : List Told) : Type 0 where
  pub claims : map (λ x. claimed_by x.claim) after ≡ map (λ x. claimed_by x.claim) before
  pub made : (o : OutPoint) (height : ℕ) → made_at o (sights_in fundings blocks) ≡ Some height → made_at o (sights_in fundings (newer ++ blocks)) ≡ Some height
  pub taken : (o : OutPoint) → was_taken o (sights_in fundings blocks) ≡ true → was_taken o (sights_in fundings (newer ++ blocks)) ≡ true

abbrev pub SightsStay : Type 0
SightsStay =
    (fundings : List OutPoint) (newer blocks : List Block) (known : Known) (s : Sighted) → close_of known.terms.funding (sights_in fundings blocks) ≡ Some s
    → (before after : List Told) → IsTold (sights_in fundings blocks) known before → IsTold (sights_in fundings (newer ++ blocks)) known after → ToldStays fundings newer blocks known before after
