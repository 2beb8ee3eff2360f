use Rattle.due_laws.proofs.Coins.{sights_are_coins}
use Rattle.due_laws.proofs.laws.sights_are_coins.Goals as goal

pub returns : goal.returns
returns c = sights_are_coins c.inputs_have_passed.ensures c.coins_have_heights.ensures
