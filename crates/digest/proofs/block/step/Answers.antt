use Rattle.std.proofs.Common.{refl, slice_index}
use Rattle.digest.proofs.Lines.{add32_last}
use Rattle.digest.proofs.block.step.Goals as goal

pub returns : goal.returns
returns c = rw (c.rotate_left.ensures, c.rotate_left-2.ensures, add32_last (slice_index c.args.v 0) c.args.f c.args.constant c.args.word) refl
