use Rattle.std.proofs.Common.{ℕ, false}
use Rattle.channel.specs.declared.commitments.CommitmentState.{CommitmentState}
use Rattle.channel.specs.Tokens.{contents_of}
use Rattle.worth_laws.specs.Counted.{known_by}
use Rattle.worth_laws.specs.Shares.{counted_sat}
use Rattle.least.proofs.Least.{least_step}
use Rattle.least.proofs.channels.least_of_open.Goals as goal

pub loop-commitment-preserved : goal.loop-commitment-preserved
loop-commitment-preserved c =
    let l = c.loop-commitment in
    let gives : CommitmentState → ℕ = λ k. counted_sat false (known_by c.args.known.now) (contents_of c.args.terms.now k).outputs in
    least_step gives c.args.commitments.now l.commitment-index c.commitment-item.result l.least_sat c.min-least_sat.result c.in_ok-theirs_sat.field-0 _ c.loop-commitment-test.true c.commitment-item.is c.min-least_sat.ensures
    c.in_ok-theirs_sat.ensures l.invariant
