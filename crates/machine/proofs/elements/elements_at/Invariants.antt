use Rattle.std.proofs.Common.{◌≡◌, ◌≤◌, drop}
use Rattle.machine.specs.Elements.{elements_at, elements_from}
use Rattle.machine.specs.Skips.{depth_of}
use Rattle.machine.specs.Passing.{run_state_of}
use Rattle.machine.proofs.elements.elements_at.Given as goal

-- the elements that what is left leads to are those that the whole leads to
abbrev pub invariant-loop-at : goal.invariant-loop-at
invariant-loop-at l =
    (elements_from l.spend l.at (drop l.at l.ops) l.index (run_state_of l.machine (drop l.at l.ops)) ≡ elements_at l.spend l.ops l.witness l.index)
    × (l.machine.counted ≤ 201)
    × (depth_of l.machine.skip ≤ l.machine.counted)
