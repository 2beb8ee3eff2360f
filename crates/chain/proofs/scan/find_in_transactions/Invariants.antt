use Rattle.std.proofs.Common.{◌≡◌, ℕ, drop}
use Rattle.std.specs.List.{flat_map}
use Rattle.chain.specs.Blocks.{created_by}
use Rattle.chain.specs.Scanning.{found_in}
use Rattle.chain.proofs.scan.find_in_transactions.Given as goal

abbrev pub invariant-loop-confirmed : goal.invariant-loop-confirmed
invariant-loop-confirmed l = (height : ℕ) → found_in l.outpoint (flat_map (created_by height) (drop l.confirmed-index l.transactions)) ≡ found_in l.outpoint (flat_map (created_by height) l.transactions)
