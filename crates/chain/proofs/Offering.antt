-- How a block takes those of the transactions that pass.
use Rattle.std.proofs.Common.{◌≡◌, List, [], ◌∷◌, ◌++◌, length, Option, Some, None, refl, sym, ap, subst, ◌∙◌, append_assoc, arith}
use Rattle.tx.specs.Fields.{Transaction}
use Rattle.chain.specs.declared.errors.ChainError.{ChainError}
use Rattle.chain.specs.declared.errors.ChainError.TheVariants.{NoMemory}
use Rattle.chain.specs.Blocks.{Contents, Standing}
use Rattle.chain.specs.Refusals.{UnlessMemory}
use Rattle.chain.specs.Checks.{transaction_refusal}
use Rattle.chain.specs.Connecting.{unless_refusal, passing_added, refusals_of}
use Rattle.chain.specs.Storing.{ChangesNewest, Offers}
use Rattle.chain.proofs.Growing.{changes_more}

-- a refusal other than for memory is the stated one
pub named : (P : Type 0) (e : ChainError) → (e ≡ NoMemory → ⊥) → UnlessMemory e P → P
named P NoMemory other h = absurd (other refl)
named P e other h = h

-- each transaction has its answer
pub length_refusals : (blocks : List Contents) (ts : List Transaction) → length (refusals_of blocks ts) ≡ length ts
length_refusals blocks [] = refl
length_refusals blocks (t ∷ ts) = let rest = length_refusals (unless_refusal (transaction_refusal blocks t) blocks t) ts in omega arith

-- the other blocks stay
pub newest_offered : (first s s' : Standing) (t : Transaction) (refusal : Option ChainError) → ChangesNewest first s → Offers s t refusal s' → ChangesNewest first s'
newest_offered first s s' t None c (at, after) = changes_more first s s' t c after
newest_offered first s s' t (Some r) c (at, after) = subst (ChangesNewest first) (sym after) c

offered : (s s' : Standing) (t : Transaction) (refusal : Option ChainError) → Offers s t refusal s' → s' ≡ record s { blocks = unless_refusal (transaction_refusal s.blocks t) s.blocks t }
offered s s' t refusal (at, after) = after ∙ ap (λ r. record s { blocks = unless_refusal r s.blocks t }) at

-- the others are still to be offered
pub still_passing : (s s' : Standing) (t : Transaction) (rest : List Transaction) (refusal : Option ChainError) (whole : List Contents) → Offers s t refusal s'
    → passing_added s.blocks (t ∷ rest) ≡ whole → passing_added s'.blocks rest ≡ whole
still_passing s s' t rest refusal whole o e = ap (λ (x : Standing). passing_added x.blocks rest) (offered s s' t refusal o) ∙ e

-- and the answer is the next
pub answer_given : (s s' : Standing) (t : Transaction) (rest : List Transaction) (refusal : Option ChainError) (given more whole : List (Option ChainError)) → Offers s t refusal s' → more ≡ given ++ refusal ∷ []
    → given ++ refusals_of s.blocks (t ∷ rest) ≡ whole → more ++ refusals_of s'.blocks rest ≡ whole
answer_given s s' t rest refusal given more whole o m e =
    let behind = refusals_of (unless_refusal (transaction_refusal s.blocks t) s.blocks t) rest in
    ap (λ xs. xs ++ refusals_of s'.blocks rest) m
    ∙ append_assoc given (refusal ∷ []) (refusals_of s'.blocks rest)
    ∙ ap (λ xs. given ++ refusal ∷ xs) (ap (λ (x : Standing). refusals_of x.blocks rest) (offered s s' t refusal o))
    ∙ ap (λ r. given ++ r ∷ behind) o.0
    ∙ e
