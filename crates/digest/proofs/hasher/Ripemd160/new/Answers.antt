use Rattle.std.proofs.Common.{rules}
use Rattle.digest.specs.Ripemd160.{hash_after, blocks}
use Rattle.digest.specs.Hasher.{Holds}
use Rattle.digest.proofs.hasher.Ripemd160.new.Goals as goal

pub returns : goal.returns
unfolding Holds hash_after blocks
returns c = search rules
