use Rattle.sighash.proofs.Witnesses.{same_digest}
use Rattle.sighash.proofs.laws.digests_ignore_witnesses.Goals as goal

pub returns : goal.returns
returns c = λ t u index code value e. same_digest t u index code value e
