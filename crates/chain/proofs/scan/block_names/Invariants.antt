use Rattle.std.proofs.Common.{◌≡◌, drop}
use Rattle.std.specs.List.{list_any}
use Rattle.chain.specs.Blocks.{names}
use Rattle.chain.proofs.scan.block_names.Given as goal

abbrev pub invariant-loop-confirmed : goal.invariant-loop-confirmed
invariant-loop-confirmed l = list_any (names l.outpoint) (drop l.confirmed-index l.confirmed-items) ≡ list_any (names l.outpoint) l.block.transactions
