use Rattle.safety.proofs.Standing.{coins_have_heights}
use Rattle.safety.proofs.laws.coins_have_heights.Goals as goal

pub returns : goal.returns
returns c = coins_have_heights
