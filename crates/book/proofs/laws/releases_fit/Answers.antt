use Rattle.book.proofs.ReleasedFit.{releases_fit}
use Rattle.book.proofs.laws.releases_fit.Goals as goal

pub returns : goal.returns
returns c = releases_fit c.fillings_fit.ensures
