use Rattle.channel.proofs.Standing.{peers_still_agree, behind_is_told}
use Rattle.channel.proofs.Playing.{plays_agree}
use Rattle.channel.proofs.laws.peers_still_agree.Goals as goal

pub returns-clause-agreed : goal.returns-clause-agreed
returns-clause-agreed c = peers_still_agree

pub returns-clause-told : goal.returns-clause-told
returns-clause-told c = behind_is_told

pub returns-clause-played : goal.returns-clause-played
returns-clause-played c = plays_agree
