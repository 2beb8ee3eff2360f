use Rattle.std.proofs.Common.{◌≡◌, length}
use Rattle.script.proofs.Choice.{greedy}
use Rattle.machine.proofs.multisig.is_assigned.Given as goal

abbrev pub invariant-loop-key : goal.invariant-loop-key
invariant-loop-key l = greedy l.sigs l.keys l.digest ≡ greedy l.initial.sigs l.initial.keys l.digest

abbrev pub decreases-loop-key : goal.decreases-loop-key
decreases-loop-key l = length l.keys
