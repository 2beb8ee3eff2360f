use Rattle.std.proofs.Common.{◌≡◌, drop}
use Rattle.chain.specs.Blocks.{is_named}
use Rattle.chain.proofs.scan.is_named.Given as goal

abbrev pub invariant-loop-block : goal.invariant-loop-block
invariant-loop-block l = is_named (drop l.block-index l.blocks) l.outpoint ≡ is_named l.blocks l.outpoint
