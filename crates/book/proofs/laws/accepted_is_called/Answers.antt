use Rattle.book.proofs.Accepted.{accepted_means}
use Rattle.book.proofs.laws.accepted_is_called.Goals as goal

pub returns : goal.returns
returns c = accepted_means
