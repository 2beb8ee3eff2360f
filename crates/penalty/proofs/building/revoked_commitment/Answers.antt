use Rattle.std.proofs.lemmas.Result.{IfOk-weaker}
use Rattle.penalty.proofs.Standing.{state_pays, in_state}
use Rattle.penalty.proofs.building.revoked_commitment.Goals as goal

pub payable_commitment-requires : goal.payable_commitment-requires
payable_commitment-requires c = state_pays c.args.state.now

pub returns-clause-value : goal.returns-clause-value
returns-clause-value c = IfOk-weaker c.payable_commitment.result _ _ (λ k e. in_state c.args.state.now c.point-point.result.bytes k c.point-point.ensures e) c.payable_commitment.ensures.value
