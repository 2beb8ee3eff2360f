use Rattle.std.proofs.Common.{length}
use Rattle.keys.proofs.indexing.+insert_all.Given as goal

abbrev pub decreases-insert_all : goal.decreases-insert_all
decreases-insert_all l = length l.keys.now
