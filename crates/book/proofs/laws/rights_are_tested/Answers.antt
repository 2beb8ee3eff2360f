use Rattle.book.proofs.Deciding.{rights_are_tested}
use Rattle.book.proofs.laws.rights_are_tested.Goals as goal

pub returns : goal.returns
returns c = rights_are_tested
