use Rattle.paths.proofs.SoundListing.{exact_sound}
use Rattle.paths.proofs.ForcedListing.{exact_exhaustive}
use Rattle.paths.proofs.listing.check.Goals as goal

pub returns-clause-sound : goal.returns-clause-sound
returns-clause-sound c = exact_sound c.args.script c.list.result c.list.ensures.exact

pub returns-clause-exhaustive : goal.returns-clause-exhaustive
returns-clause-exhaustive c = exact_exhaustive c.args.script c.list.result c.list.ensures.exact
