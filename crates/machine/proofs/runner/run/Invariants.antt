use Rattle.std.proofs.Common.{◌≡◌, ◌≤◌, drop}
use Rattle.script.specs.Run.{outcome, outcome_from}
use Rattle.machine.specs.Skips.{depth_of}
use Rattle.machine.specs.Passing.{run_state_of}
use Rattle.machine.proofs.runner.run.Given as goal

-- the outcome of what is left is the outcome of the whole
abbrev pub invariant-loop-at : goal.invariant-loop-at
invariant-loop-at l =
    (outcome_from l.spend l.at (drop l.at l.ops) (run_state_of l.machine (drop l.at l.ops)) ≡ outcome l.spend l.ops l.witness)
    × (l.machine.counted ≤ 201)
    × (depth_of l.machine.skip ≤ l.machine.counted)
