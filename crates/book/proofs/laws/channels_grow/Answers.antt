use Rattle.book.proofs.Growing.{channels_grow}
use Rattle.book.proofs.laws.channels_grow.Goals as goal

pub returns : goal.returns
returns c = channels_grow
