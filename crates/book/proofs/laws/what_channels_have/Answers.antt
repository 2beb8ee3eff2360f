use Rattle.book.proofs.Lived.{channels_are_lived, bases_are_own}
use Rattle.book.proofs.Asked.{offers_are_asked_for}
use Rattle.book.proofs.Apart.{fundings_are_apart}
use Rattle.book.proofs.laws.what_channels_have.Goals as goal

pub returns-clause-lived : goal.returns-clause-lived
returns-clause-lived c = channels_are_lived

pub returns-clause-apart : goal.returns-clause-apart
returns-clause-apart c = fundings_are_apart

pub returns-clause-asked : goal.returns-clause-asked
returns-clause-asked c = offers_are_asked_for

pub returns-clause-bases : goal.returns-clause-bases
returns-clause-bases c = bases_are_own
