use Rattle.std.proofs.Common.{◌≡◌, take, reverse}
use Rattle.chain.specs.Blocks.{transactions_of}
use Rattle.chain.proofs.connecting.copied.Given as goal

abbrev pub invariant-loop-block : goal.invariant-loop-block
invariant-loop-block l = l.txs.items ≡ reverse (transactions_of (reverse (take l.block-index l.blocks)))
