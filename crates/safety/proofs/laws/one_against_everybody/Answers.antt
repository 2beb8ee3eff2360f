use Rattle.safety.proofs.Everybody.{each_channel_stands}
use Rattle.safety.proofs.laws.one_against_everybody.Goals as goal

pub returns : goal.returns
returns c = each_channel_stands c.commitments_spend.ensures
