use Rattle.channel.proofs.Theorem.{peers_agree}
use Rattle.channel.proofs.laws.peers_agree.Goals as goal

pub returns : goal.returns
returns c = record { reached = peers_agree }
