use Rattle.restart_laws.proofs.Fulfilled.{fulfilled_are_not_failed}
use Rattle.restart_laws.proofs.laws.fulfilled_are_not_failed.Goals as goal

pub returns : goal.returns
returns c = fulfilled_are_not_failed
