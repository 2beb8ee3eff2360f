use Rattle.std.proofs.Common.{refl}
use Rattle.tx.proofs.Witnesses.{same_id, unsigned_again, unsigned_twice}
use Rattle.tx.proofs.laws.ids_ignore_witnesses.Goals as goal

pub returns-clause-of_stripped : goal.returns-clause-of_stripped
returns-clause-of_stripped c = λ t u e. same_id t u e

pub returns-clause-of_signing : goal.returns-clause-of_signing
returns-clause-of_signing c = λ t index items. rw (unsigned_again t.inputs index items) refl

pub returns-clause-of_stripping : goal.returns-clause-of_stripping
returns-clause-of_stripping c = λ t. rw (unsigned_twice t.inputs) refl
