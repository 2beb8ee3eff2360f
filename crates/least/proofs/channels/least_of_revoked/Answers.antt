use Rattle.std.proofs.Common.{ℕ, true}
use Rattle.channel.specs.declared.commitments.CommitmentState.{CommitmentState}
use Rattle.channel.specs.Tokens.{contents_of}
use Rattle.penalty.specs.Worth.{staged, value_of}
use Rattle.least.proofs.Least.{least_step}
use Rattle.least.proofs.channels.least_of_revoked.Goals as goal

pub loop-commitment-preserved : goal.loop-commitment-preserved
loop-commitment-preserved c =
    let l = c.loop-commitment in
    let gives : CommitmentState → ℕ = λ k. value_of (staged (λ _. true) (contents_of c.args.terms.now k)) in
    least_step gives c.args.commitments.now l.commitment-index c.commitment-item.result l.least_sat c.min-least_sat.result c.in_ok-revoked_left_sat.field-0 _ c.loop-commitment-test.true c.commitment-item.is c.min-least_sat.ensures
    c.in_ok-revoked_left_sat.ensures l.invariant
