use Rattle.spend.proofs.Planned.{planned}
use Rattle.spend.proofs.plans.plan_of.Goals as goal

pub returns : goal.returns
returns c =
    planned c.args.asked.now (record { spend = c.in_ok-spend.spend; weight = c.in_ok-weight.weight; fee_sat = c.fee_sat-fee.result }) c.in_ok-value_sat.value_sat
    c.in_ok-weight.ensures.value.0 c.in_ok-weight.ensures.value.1 c.fee_sat-fee.ensures c.in_ok-value_sat.ensures.value.0 c.in_ok-value_sat.ensures.value.1 c.in_ok-spend.ensures
