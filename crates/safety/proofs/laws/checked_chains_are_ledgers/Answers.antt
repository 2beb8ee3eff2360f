use Rattle.safety.proofs.Ledgers.{checked_are_ledgers}
use Rattle.safety.proofs.laws.checked_chains_are_ledgers.Goals as goal

pub returns : goal.returns
returns c = checked_are_ledgers
