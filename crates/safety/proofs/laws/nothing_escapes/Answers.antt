use Rattle.safety.proofs.Fates.{signed_with_commitment, nothing_escapes, nothing_escapes_on_chains}
use Rattle.safety.proofs.laws.nothing_escapes.Goals as goal

pub returns-clause-digests : goal.returns-clause-digests
returns-clause-digests c = signed_with_commitment

pub returns-clause-fates : goal.returns-clause-fates
returns-clause-fates c = nothing_escapes

pub returns-clause-above : goal.returns-clause-above
returns-clause-above c = λ blocks height state o t input coin at k. nothing_escapes state o height t input coin k

pub returns-clause-chains : goal.returns-clause-chains
returns-clause-chains c = nothing_escapes_on_chains
