use Rattle.book.proofs.KeptReleases.{kept_are_fillable}
use Rattle.book.proofs.laws.kept_are_fillable.Goals as goal

pub returns : goal.returns
returns c = kept_are_fillable
