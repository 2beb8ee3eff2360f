use Rattle.restart_laws.proofs.Unlost.{put_back_goes_on, put_back_is_answered}
use Rattle.restart_laws.proofs.laws.put_back_goes_on.Goals as goal

pub returns-clause-reached : goal.returns-clause-reached
returns-clause-reached c = put_back_goes_on c.peers_still_agree.ensures.agreed c.peers_still_agree.ensures.told

pub returns-clause-answered : goal.returns-clause-answered
returns-clause-answered c = put_back_is_answered c.peers_still_agree.ensures.agreed c.peers_still_agree.ensures.told
