-- Chains whose transactions passed their checks when they were added.
use Rattle.std.specs.Prelude.{Bool, true, ◌&&◌, List, [], ◌∷◌}
use Rattle.std.specs.Option.{is_none}
use Rattle.tx.specs.Fields.{Transaction}
use Rattle.chain.specs.Blocks.{Contents}
use Rattle.chain.specs.Checks.{transaction_refusal}

-- the transactions of the newest block passed, each after those before it
abbrev pub have_passed : List Contents → List Transaction → Bool
have_passed older [] = true
have_passed older (t ∷ ts) = is_none (transaction_refusal (record { transactions = ts; granted = [] } ∷ older) t) && have_passed older ts

abbrev pub is_checked : List Contents → Bool
is_checked [] = true
is_checked (b ∷ older) = have_passed older b.transactions && is_checked older
