use Rattle.book_laws.proofs.Awaiting.{awaiting_miss_none}
use Rattle.book_laws.proofs.laws.awaiting_miss_none.Goals as goal

pub returns : goal.returns
returns c = awaiting_miss_none c.accepted_is_called.ensures
