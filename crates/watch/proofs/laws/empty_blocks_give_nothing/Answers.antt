use Rattle.std.proofs.Common.{[], refl}
use Rattle.watch.proofs.Settled.{settled, quiet_seen, quiet_sight}
use Rattle.watch.proofs.laws.empty_blocks_give_nothing.Goals as goal

pub returns-clause-settles : goal.returns-clause-settles
returns-clause-settles c = settled

pub returns-clause-nothing : goal.returns-clause-nothing
returns-clause-nothing c seen height known given = (quiet_sight seen height [] known [] [] refl given refl refl, quiet_seen seen height [] known refl given)
