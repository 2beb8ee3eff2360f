-- Sums over a chain.
use Rattle.std.specs.Prelude.{◌≡◌, ℕ, not, if◌then◌else◌, List, [], ◌∷◌, length, map, filter, sum_by}
use Rattle.tx.specs.declared.input.OutPoint.{OutPoint}
use Rattle.chain.specs.declared.totals.Unspent.{Unspent}
use Rattle.chain.specs.Blocks.{Contents, Creation, is_named, unspent_of}

-- the value at an outpoint, unless an input spends it
abbrev pub unspent_value : List Contents → OutPoint → ℕ → List ℕ
unspent_value blocks o value = if is_named blocks o then [] else value ∷ []

-- the values of those that no input spends
abbrev pub unspent_values : List Contents → List Creation → List ℕ
unspent_values blocks list = map (λ c. c.output.value) (filter (λ c. not (is_named blocks c.outpoint)) list)

-- the number of outputs that no input spends, and the sum of their values
pub record IsUnspent (blocks : List Contents) (u : Unspent) : Type 0 where
  pub count : u.count ≡ length (unspent_of blocks)
  pub value : u.value ≡ sum_by (λ c. c.output.value) (unspent_of blocks)
