use Rattle.std.proofs.Common.{◌≡◌, ◌+◌, ◌*◌, ◌≤◌, drop}
use Rattle.chain.specs.Blocks.{paid_in}
use Rattle.chain.specs.Checks.{inputs_refusal}
use Rattle.chain.proofs.checking.check_inputs.Given as goal

abbrev pub invariant-loop-index : goal.invariant-loop-index
invariant-loop-index g l =
    let blocks = (g.S.Store.standing l.store).blocks in
    record {
      refused : inputs_refusal blocks l.height l.tx (drop l.index l.inputs) ≡ inputs_refusal blocks l.height l.tx l.inputs;
      paid : l.paid + paid_in blocks (drop l.index l.inputs) ≡ paid_in blocks l.inputs;
      few : l.paid ≤ l.index * 2100000000000000;
    }
