use Rattle.book_laws.proofs.Complete.{holdings_are_complete}
use Rattle.book_laws.proofs.laws.holdings_are_complete.Goals as goal

pub returns : goal.returns
returns c = holdings_are_complete
