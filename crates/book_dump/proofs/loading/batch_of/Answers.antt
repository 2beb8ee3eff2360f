use Rattle.book_dump.proofs.SameOpenings.{batch_is}
use Rattle.book_dump.proofs.loading.batch_of.Goals as goal

pub returns : goal.returns
returns c = batch_is c.args.claims c.args.outputs c.args.preimages c.new.result c.new.ensures.some c.new.ensures.parts
