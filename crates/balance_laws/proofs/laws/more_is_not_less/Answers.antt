use Rattle.balance_laws.proofs.Knowing.{more_is_not_less}
use Rattle.balance_laws.proofs.laws.more_is_not_less.Goals as goal

pub returns : goal.returns
returns c = more_is_not_less
