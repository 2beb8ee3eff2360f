use Rattle.book.proofs.matching.keeps.Goals as goal

pub returns : goal.returns
returns c = let w = c.path.ensures.whole in record { each = w.ops; listed = w.listed }
