use Rattle.revoked.proofs.Collisions.{sharing}
use Rattle.revoked.proofs.laws.sharing_collides.Goals as goal

pub returns : goal.returns
returns c = sharing
