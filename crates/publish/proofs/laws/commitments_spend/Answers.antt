use Rattle.publish.proofs.Opened.{commitments_open}
use Rattle.publish.proofs.laws.commitments_spend.Goals as goal

pub returns : goal.returns
returns c = commitments_open
