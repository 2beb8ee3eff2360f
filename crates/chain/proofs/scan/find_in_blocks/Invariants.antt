use Rattle.std.proofs.Common.{◌≡◌, ◌%◌, ◌^◌, take, drop}
use Rattle.chain.specs.Blocks.{grants_in}
use Rattle.chain.specs.Scanning.{found_in, created_from}
use Rattle.chain.proofs.scan.find_in_blocks.Given as goal

abbrev pub invariant-loop-height : goal.invariant-loop-height
invariant-loop-height l =
    (l.grants ≡ grants_in (take l.height l.blocks) % 2 ^ 64)
    × (found_in l.outpoint (created_from l.height (grants_in (take l.height l.blocks)) (drop l.height l.blocks)) ≡ found_in l.outpoint (created_from 0 0 l.blocks))
