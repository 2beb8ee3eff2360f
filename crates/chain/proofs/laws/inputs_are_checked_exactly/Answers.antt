use Rattle.chain.proofs.Spending.{checked_exactly}
use Rattle.chain.proofs.laws.inputs_are_checked_exactly.Goals as goal

pub returns : goal.returns
returns c = checked_exactly
