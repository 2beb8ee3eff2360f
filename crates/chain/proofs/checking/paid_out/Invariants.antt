use Rattle.std.proofs.Common.{◌≡◌, ◌+◌, ◌*◌, ◌≤◌, drop}
use Rattle.chain.specs.Blocks.{paid_out}
use Rattle.chain.proofs.checking.paid_out.Given as goal

abbrev pub invariant-loop-output : goal.invariant-loop-output
invariant-loop-output l = (l.paid + paid_out (drop l.output-index l.outputs) ≡ paid_out l.outputs) × (l.paid ≤ l.output-index * 2100000000000000)
