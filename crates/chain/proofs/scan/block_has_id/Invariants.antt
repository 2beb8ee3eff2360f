use Rattle.std.proofs.Common.{◌≡◌, drop}
use Rattle.std.specs.List.{list_any}
use Rattle.std.specs.Str.{bytes_eq}
use Rattle.tx.specs.Spelling.{transaction_id}
use Rattle.chain.proofs.scan.block_has_id.Given as goal

abbrev pub invariant-loop-confirmed : goal.invariant-loop-confirmed
invariant-loop-confirmed l = list_any (λ t. bytes_eq (transaction_id t) l.id) (drop l.confirmed-index l.confirmed-items) ≡ list_any (λ t. bytes_eq (transaction_id t) l.id) l.block.transactions
