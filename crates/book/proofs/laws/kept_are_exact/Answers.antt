use Rattle.book.proofs.KeptSets.{kept_are_exact}
use Rattle.book.proofs.laws.kept_are_exact.Goals as goal

pub returns : goal.returns
returns c = kept_are_exact c.sides_are_sound.ensures.numbered
