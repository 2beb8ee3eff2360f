use Rattle.book.proofs.Closed.{closed_stays_newest, closes_again, closed_stays_closed}
use Rattle.book.proofs.laws.what_is_closed_stays_closed.Goals as goal

pub returns-clause-newest : goal.returns-clause-newest
returns-clause-newest c = closed_stays_newest

pub returns-clause-again : goal.returns-clause-again
returns-clause-again c = closes_again

pub returns-clause-later : goal.returns-clause-later
returns-clause-later c = closed_stays_closed
