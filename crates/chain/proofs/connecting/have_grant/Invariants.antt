use Rattle.std.proofs.Common.{◌≡◌, drop}
use Rattle.std.specs.List.{list_any}
use Rattle.chain.specs.Connecting.{has_grant}
use Rattle.chain.proofs.connecting.have_grant.Given as goal

abbrev pub invariant-loop-block : goal.invariant-loop-block
invariant-loop-block l = list_any has_grant (drop l.block-index l.blocks) ≡ list_any has_grant l.blocks
