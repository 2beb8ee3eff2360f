use Rattle.safety.specs.Breaks.{Breaks}
use Rattle.balance_laws.specs.OwnBreaks.{OwnBreaks}
use Rattle.balance_laws.proofs.Times.{nothing_is_late}
use Rattle.balance_laws.proofs.laws.nothing_is_late.Goals as goal

pub returns-clause-peers : goal.returns-clause-peers
returns-clause-peers c = nothing_is_late Breaks

pub returns-clause-own : goal.returns-clause-own
returns-clause-own c = nothing_is_late OwnBreaks
