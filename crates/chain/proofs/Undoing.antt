-- Chains that only grew since a mark.
use Rattle.std.proofs.Common.{◌≡◌, ℕ, ◌+◌, false, List, [], ◌∷◌, ◌++◌, ◌||◌, Option, Some, None, Result, Ok, Err, sym, ap, ◌∙◌, refl, append_assoc}
use Rattle.std.specs.List.{list_any}
use Rattle.std.proofs.lemmas.List.Folds.{list_any-append}
use Rattle.tx.specs.Fields.{Transaction}
use Rattle.chain.specs.declared.errors.ChainError.{ChainError}
use Rattle.chain.specs.declared.errors.BlockError.{BlockError}
use Rattle.chain.specs.Blocks.{Contents, Standing, empty_block}
use Rattle.chain.specs.Checks.{transaction_refusal}
use Rattle.chain.specs.Connecting.{added, unless_refused, unless_refusal, passing_added, has_grant, Connects, ConnectsSome}
use Rattle.chain.specs.declared.refused.Refused.{Refused}
use Rattle.chain.specs.Waiting.{ConnectsWaiting}
use Rattle.chain.specs.Marking.{IsGrown}

-- a chain grew by nothing, or by more blocks
pub grown_itself : (s : Standing) → IsGrown s s
grown_itself s = record { above = []; blocks = refl; no_grant = refl }

none_in_both : (xs ys : List Contents) → list_any has_grant xs ≡ false → list_any has_grant ys ≡ false → list_any has_grant (xs ++ ys) ≡ false
none_in_both xs ys n m = list_any-append has_grant xs ys ∙ ap (λ x. x || list_any has_grant ys) n ∙ m

pub grown_further : (first s s' : Standing) → IsGrown first s → IsGrown s s' → IsGrown first s'
grown_further first s s' g h = record {
  above = h.above ++ g.above;
  blocks = h.blocks ∙ ap (λ bs. h.above ++ bs) g.blocks ∙ sym (append_assoc h.above g.above first.blocks);
  no_grant = none_in_both h.above g.above h.no_grant g.no_grant;
}

abbrev pub Newest : List Contents → Contents → List Contents → Type 0
Newest blocks b older = (c : Contents) × (blocks ≡ c ∷ older) × (c.granted ≡ b.granted)

-- only the newest block changes
pub passing_newest : (b : Contents) (older : List Contents) (ts : List Transaction) → Newest (passing_added (b ∷ older) ts) b older
passing_newest b older [] = (b, refl, refl)
passing_newest b older (t ∷ ts) =
    elim (transaction_refusal (b ∷ older) t) as (λ r. Newest (passing_added (unless_refusal r (b ∷ older) t) ts) b older) [
      | None ↦ passing_newest (record b { transactions = t ∷ b.transactions }) older ts
      | Some e ↦ passing_newest b older ts
    ]

same_blocks : (a b : List Contents) (x : Result (List Contents) BlockError) → x ≡ Ok a → x ≡ Ok b → a ≡ b
same_blocks a b x e f = cc

added_newest : (index : ℕ) (b : Contents) (older : List Contents) (ts : List Transaction) (new : List Contents) → added index (b ∷ older) ts ≡ Ok new → Newest new b older
added_newest index b older [] new = λ e. (b, sym (same_blocks (b ∷ older) new (Ok (b ∷ older)) refl e), refl)
added_newest index b older (t ∷ ts) new =
    elim (transaction_refusal (b ∷ older) t) as (λ r. unless_refused index r (added (index + 1) (record b { transactions = t ∷ b.transactions } ∷ older) ts) ≡ Ok new → Newest new b older) [
      | None ↦ added_newest (index + 1) (record b { transactions = t ∷ b.transactions }) older ts new
      | Some r ↦ λ e. absurd (let x : Err (record { index = index; refusal = r }) ≡ Ok new = e in cc)
    ]

by_newest : (old new : Standing) → Newest new.blocks empty_block old.blocks → IsGrown old new
by_newest old new n = record { above = n.0 ∷ []; blocks = n.1; no_grant = rw n.2 refl }

-- each new block is such growth
pub grown_by_some : (old new : Standing) (txs : List Transaction) (refusals : List (Option ChainError)) → ConnectsSome old txs refusals new → IsGrown old new
grown_by_some old new txs refusals h = let n = passing_newest empty_block old.blocks txs in by_newest old new (n.0, h.0 ∙ n.1, n.2)

pub grown_by_waiting : (old new : Standing) (txs : List Transaction) (refused : List Refused) → ConnectsWaiting old txs refused new → IsGrown old new
grown_by_waiting old new txs refused h = let n = passing_newest empty_block old.blocks txs in by_newest old new (n.0, h.0 ∙ n.1, n.2)

pub grown_by_connect : (old new : Standing) (txs : List Transaction) (height : ℕ) → Connects old txs (Ok height) new → IsGrown old new
grown_by_connect old new txs height h = by_newest old new (added_newest 0 empty_block old.blocks txs new.blocks h.0)
