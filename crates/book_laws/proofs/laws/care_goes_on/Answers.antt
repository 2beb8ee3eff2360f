use Rattle.book_laws.proofs.Going.{care_goes_on}
use Rattle.book_laws.proofs.laws.care_goes_on.Goals as goal

pub returns : goal.returns
returns c = care_goes_on c.channels_grow.ensures
