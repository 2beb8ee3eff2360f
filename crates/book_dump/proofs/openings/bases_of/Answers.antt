use Rattle.book.proofs.SameKeys.{same_bases}
use Rattle.book_dump.proofs.openings.bases_of.Goals as goal

pub returns : goal.returns
returns c = same_bases c.args.seed.now c.of.result (rw c.new-signer.ensures at c.of.ensures)
