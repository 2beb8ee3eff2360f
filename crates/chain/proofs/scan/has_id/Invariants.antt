use Rattle.std.proofs.Common.{◌≡◌, drop}
use Rattle.chain.specs.Blocks.{has_id}
use Rattle.chain.proofs.scan.has_id.Given as goal

abbrev pub invariant-loop-block : goal.invariant-loop-block
invariant-loop-block l = has_id (drop l.block-index l.blocks) l.id ≡ has_id l.blocks l.id
