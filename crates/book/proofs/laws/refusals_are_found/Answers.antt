use Rattle.book.proofs.Refusing.{refusals_are_found}
use Rattle.book.proofs.laws.refusals_are_found.Goals as goal

pub returns : goal.returns
returns c = refusals_are_found
