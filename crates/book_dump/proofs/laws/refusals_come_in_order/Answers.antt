use Rattle.book_dump.proofs.Shapes.{refusals_come_in_order}
use Rattle.book_dump.proofs.laws.refusals_come_in_order.Goals as goal

pub returns : goal.returns
returns c = refusals_come_in_order
