use Rattle.book.proofs.Guarded.{accepted_is_guarded}
use Rattle.book.proofs.KeptSets.{guarded_means}
use Rattle.book.proofs.laws.signing_is_guarded.Goals as goal

pub returns-clause-guarded : goal.returns-clause-guarded
returns-clause-guarded c = accepted_is_guarded

pub returns-clause-between : goal.returns-clause-between
returns-clause-between c = guarded_means c.sides_are_sound.ensures.numbered
