use Rattle.filling.proofs.AcceptedFit.{fillings_fit}
use Rattle.filling.proofs.laws.fillings_fit.Goals as goal

pub returns : goal.returns
returns c = fillings_fit c.listed_paths_are_sound.ensures c.accepted_claims_spend.ensures.spends
