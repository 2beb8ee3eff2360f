use Rattle.claim.proofs.Meeting.{judgement_of-opens}
use Rattle.claim.proofs.Judged.{fits-clean, fits-timed}
use Rattle.claim.proofs.laws.accepted_claims_spend.Goals as goal

pub returns-clause-spends : goal.returns-clause-spends
returns-clause-spends c = λ x w p e. judgement_of-opens x.ways x.index x.slots x.place x.shell p w.ops w.short (c.listed_paths_are_sound.ensures x.ways.ops x.ways.paths w.listed) e

pub returns-clause-clean : goal.returns-clause-clean
returns-clause-clean c = λ x t input w f. (c.runs_are_exact.ensures.clean _ _ _ _ _).0 (fits-clean x t input w (c.listed_paths_are_sound.ensures x.ways.ops x.ways.paths w.listed) f)

pub returns-clause-timed : goal.returns-clause-timed
returns-clause-timed c = λ x t input w f. fits-timed x t input (c.listed_paths_are_sound.ensures x.ways.ops x.ways.paths w.listed) f
