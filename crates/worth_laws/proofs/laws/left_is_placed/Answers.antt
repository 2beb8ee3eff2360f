use Rattle.worth_laws.proofs.Left.{left_is_placed}
use Rattle.worth_laws.proofs.laws.left_is_placed.Goals as goal

pub returns : goal.returns
returns c = left_is_placed c.there_is_one_order.ensures
