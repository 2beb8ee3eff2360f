-- A transaction on the chain is told by its bytes without witnesses.
use Rattle.std.proofs.Common.{◌≡◌, ℕ, Bool, true, List, sym, ap, ◌∙◌}
use Rattle.std.specs.List.{list_any}
use Rattle.std.specs.Str.{bytes_eq}
use Rattle.std.proofs.lemmas.Slice.Eq.{bytes_eq-Decides}
use Rattle.tx.specs.Fields.{Transaction, KeepsLimits, unsigned_transaction}
use Rattle.tx.specs.Spelling.{stripped_spelling}
use Rattle.chain.specs.Blocks.{Contents as Block}
use Rattle.safety.specs.Standing.{StandsAt}
use Rattle.safety.specs.Whereabouts.{IsOnChain}
use Rattle.safety.proofs.Slots.{same_bytes}
use Rattle.safety.proofs.Ids.{unsigned_bytes, unsigned_limits, same_stripped}
use Rattle.safety.proofs.Lists.{at_reversed, any_found, any_holds}
use Rattle.safety.proofs.Standing.{block_in}

-- ---- on the chain

-- a transaction of these bytes without witnesses stands there
abbrev pub has_stripped : List Block → Transaction → Bool
has_stripped blocks u = list_any (λ b. list_any (λ t. bytes_eq (stripped_spelling t) (stripped_spelling u)) b.transactions) blocks

pub on_chain : (blocks : List Block) → ((height : ℕ) (t : Transaction) → StandsAt blocks height t → KeepsLimits t) → (u : Transaction) → KeepsLimits u → unsigned_transaction u ≡ u
    → has_stripped blocks u ≡ true → IsOnChain blocks u
on_chain blocks limits u k same e =
    let b = any_found (λ (x : Block). list_any (λ (t : Transaction). bytes_eq (stripped_spelling t) (stripped_spelling u)) x.transactions) blocks e in
    let t = any_found (λ (t : Transaction). bytes_eq (stripped_spelling t) (stripped_spelling u)) b.0.transactions b.2 in
    let h = at_reversed blocks b.0 b.1 in
    let s : StandsAt blocks h.0 t.0 = record { block = b.0; there = h.1; within = t.1 } in
    record { height = h.0; signed = t.0; stands = s; same = same_stripped t.0 u (unsigned_limits t.0 (limits h.0 t.0 s)) (unsigned_limits u k) (same_bytes (stripped_spelling t.0) (stripped_spelling u) t.2) ∙ same }

pub by_bytes : (blocks : List Block) (u : Transaction) → IsOnChain blocks u → has_stripped blocks u ≡ true
by_bytes blocks u o =
    let s = o.stands in
    let e : stripped_spelling o.signed ≡ stripped_spelling u = sym (unsigned_bytes o.signed) ∙ ap stripped_spelling o.same in
    any_holds (λ (x : Block). list_any (λ (t : Transaction). bytes_eq (stripped_spelling t) (stripped_spelling u)) x.transactions) blocks s.block (block_in blocks o.height o.signed s)
    (any_holds (λ (t : Transaction). bytes_eq (stripped_spelling t) (stripped_spelling u)) s.block.transactions o.signed s.within
    ((bytes_eq-Decides (stripped_spelling o.signed) (stripped_spelling u)).1 e))
