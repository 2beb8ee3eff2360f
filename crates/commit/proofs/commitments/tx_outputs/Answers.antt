use Rattle.std.proofs.Common.{◌≤◌, length, refl, arith}
use Rattle.tx.specs.declared.limits.TheConstants.{MAX_OUTPUTS}
use Rattle.commit.specs.Commitments.{tx_output}
use Rattle.commit.proofs.Limited.{no_refusal, all_there}
use Rattle.commit.proofs.commitments.tx_outputs.Goals as goal

pub unreachable-requires-in-Err-from_vec : goal.unreachable-requires-in-Err-from_vec
unreachable-requires-in-Err-from_vec c =
    let n = all_there tx_output c.loop-output.items.items c.loop-output.output-index c.args.outputs.now c.loop-output-test.false c.loop-output.invariant in
    let f = c.requires.few in
    let l : length c.loop-output.items.items ≤ MAX_OUTPUTS = omega (arith, n, f) in
    no_refusal _ _ _ _ _ _ l c.in-Err-from_vec.is (c.from_vec.ensures.by_number (λ x. refl))
