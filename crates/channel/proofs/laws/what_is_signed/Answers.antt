use Rattle.channel.proofs.Learnt.{sides_learn, sides_are_limited}
use Rattle.channel.proofs.Offered.{sides_offer_own}
use Rattle.channel.proofs.laws.what_is_signed.Goals as goal

pub returns-clause-revealed : goal.returns-clause-revealed
returns-clause-revealed c = sides_learn

pub returns-clause-limited : goal.returns-clause-limited
returns-clause-limited c = sides_are_limited

pub returns-clause-offered : goal.returns-clause-offered
returns-clause-offered c = sides_offer_own
