use Rattle.book.proofs.Sets.{penalty_sets_are_exact}
use Rattle.book.proofs.laws.penalty_sets_are_exact.Goals as goal

pub returns : goal.returns
returns c = penalty_sets_are_exact
