-- What a watch of one channel has read and given, and what it gives after a block.
use Rattle.std.specs.Prelude.{◌≡◌, ℕ, Bool, ◌&&◌, ◌||◌, ◌==◌, if◌then◌else◌, not, nat_le, length, List, [], ◌∷◌, ◌++◌, map, filter}
use Rattle.std.specs.List.{list_any, flat_map}
use Rattle.tx.specs.declared.input.OutPoint.{OutPoint}
use Rattle.tx.specs.Fields.{Transaction, same_outpoint}
use Rattle.chain.specs.Blocks.{names}
use Rattle.penalty.specs.Claimable.{Claimable}
use Rattle.resolve.specs.declared.known.Known.{Known}
use Rattle.resolve.specs.Due.{due_of}
use Rattle.watch.specs.declared.spends.Spend.{Spend}
use Rattle.watch.specs.declared.unclaimed.Given.{Given}
use Rattle.watch.specs.Verdicts.{verdict_of}

-- a list is another, and more after it
pub record Extends {A : Type 0} (old new : List A) : Type 0 where
  pub more : List A
  pub is : new ≡ old ++ more

-- the transactions read that spend the funding output, and the claims given, each in order and with the height of its block
pub record Seen : Type 0 where
  pub spends : List Spend
  pub given : List Given

abbrev pub nothing_seen : Seen
nothing_seen = record { spends = []; given = [] }

-- the transactions of a block at a height that spend an output
abbrev pub spend_at : ℕ → Transaction → Spend
spend_at height t = record { height = height; tx = t }

abbrev pub spends_in : OutPoint → ℕ → List Transaction → List Spend
spends_in funding height txs = map (spend_at height) (filter (names funding) txs)

-- a transaction that spends the output was read, or is one of these
abbrev pub is_spent : OutPoint → Seen → List Transaction → Bool
is_spent funding seen txs = not (length seen.spends == 0) || list_any (names funding) txs

-- one was read
abbrev pub has_spends : Seen → Bool
has_spends seen = not (length seen.spends == 0)

-- all that were read, once this block is read too
abbrev pub spends_after : Seen → ℕ → List Transaction → Known → List Spend
spends_after seen height txs known = seen.spends ++ spends_in known.terms.funding height txs

-- what is due by their verdicts
abbrev pub due_by : Known → List Spend → List Claimable
due_by known spends = flat_map (λ s. due_of known (verdict_of known s.tx)) spends

-- a claim of this outpoint and this path was given
abbrev pub is_given : List Given → Claimable → Bool
is_given given o = list_any (λ g. same_outpoint g.outpoint o.place.outpoint && g.path == o.path) given

abbrev pub given_at : ℕ → Claimable → Given
given_at height o = record { outpoint = o.place.outpoint; path = o.path; height = height }

-- those that weren't given yet, each once
unfoldable pub unclaimed : ℕ → List Given → List Claimable → List Claimable
unclaimed height given [] = []
unclaimed height given (o ∷ os) = if is_given given o then unclaimed height given os else o ∷ unclaimed height (given ++ given_at height o ∷ []) os

-- what a watch gives after a block
abbrev pub claims_after : Seen → ℕ → List Transaction → Known → List Claimable
claims_after seen height txs known = unclaimed height seen.given (due_by known (spends_after seen height txs known))

-- what it has read and given then
abbrev pub seen_after : Seen → ℕ → List Transaction → Known → Seen
seen_after seen height txs known = record {
  spends = spends_after seen height txs known;
  given = seen.given ++ map (given_at height) (claims_after seen height txs known);
}

-- what is left of it once the blocks above a height were taken off
abbrev pub seen_up_to : ℕ → Seen → Seen
seen_up_to height seen = record {
  spends = filter (λ s. nat_le s.height height) seen.spends;
  given = filter (λ g. nat_le g.height height) seen.given;
}
