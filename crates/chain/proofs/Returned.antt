-- What is offered to a block comes back where it is refused.
use Rattle.std.proofs.Common.{◌≡◌, List, [], ◌∷◌, ◌++◌, Option, Some, None, refl, sym, ap, subst, ◌∙◌, append_assoc}
use Rattle.std.specs.List.{cons_option}
use Rattle.tx.specs.Fields.{Transaction}
use Rattle.chain.specs.declared.errors.ChainError.{ChainError}
use Rattle.chain.specs.declared.refused.Refused.{Refused}
use Rattle.chain.specs.Blocks.{Contents, Standing}
use Rattle.chain.specs.Checks.{transaction_refusal}
use Rattle.chain.specs.Connecting.{unless_refusal, passing_added}
use Rattle.chain.specs.Storing.{ChangesNewest}
use Rattle.chain.specs.Waiting.{if_refused, refused_of, OffersBack}
use Rattle.chain.proofs.Growing.{changes_more}

-- the other blocks stay
pub newest_changes : (first s s' : Standing) (t : Transaction) (refused : Option Refused) → ChangesNewest first s → OffersBack s t refused s' → ChangesNewest first s'
newest_changes first s s' t refused c (back, after) = by (transaction_refusal s.blocks t) after
  where
    by : (r : Option ChainError) → s' ≡ record s { blocks = unless_refusal r s.blocks t } → ChangesNewest first s'
    by None e = changes_more first s s' t c e
    by (Some r) e = subst (ChangesNewest first) (sym e) c

-- the others are still to be offered
pub still_added : (s s' : Standing) (t : Transaction) (rest : List Transaction) (refused : Option Refused) (whole : List Contents) → OffersBack s t refused s'
    → passing_added s.blocks (t ∷ rest) ≡ whole → passing_added s'.blocks rest ≡ whole
still_added s s' t rest refused whole (back, after) e = ap (λ (x : Standing). passing_added x.blocks rest) after ∙ e

in_front : (r : Option ChainError) (t : Transaction) (rest : List Refused) → if_refused r t [] ++ rest ≡ if_refused r t rest
in_front None t rest = refl
in_front (Some r) t rest = refl

pub given_back : (s s' : Standing) (t : Transaction) (rest : List Transaction) (refused : Option Refused) (given more whole : List Refused) → OffersBack s t refused s' → more ≡ given ++ cons_option refused []
    → given ++ refused_of s.blocks (t ∷ rest) ≡ whole → more ++ refused_of s'.blocks rest ≡ whole
given_back s s' t rest refused given more whole (back, after) m e =
    let r = transaction_refusal s.blocks t in
    let behind = refused_of (unless_refusal r s.blocks t) rest in
    ap (λ xs. xs ++ refused_of s'.blocks rest) (m ∙ ap (λ xs. given ++ xs) back)
    ∙ ap (λ (x : Standing). (given ++ if_refused r t []) ++ refused_of x.blocks rest) after
    ∙ append_assoc given (if_refused r t []) behind
    ∙ ap (λ xs. given ++ xs) (in_front r t behind)
    ∙ e

-- a transaction that is refused changes nothing
pub came_back : (s : Standing) (t : Transaction) (refusal : ChainError) → transaction_refusal s.blocks t ≡ Some refusal → OffersBack s t (Some (record { confirmed = t; refusal = refusal })) s
came_back s t refusal e = (
  sym (ap (λ r. if_refused r t []) e),
  sym (ap (λ r. record s { blocks = unless_refusal r s.blocks t }) e),
)
