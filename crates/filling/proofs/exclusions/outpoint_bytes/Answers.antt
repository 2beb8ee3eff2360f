use Rattle.std.proofs.Common.{refl, ◌∙◌}
use Rattle.filling.proofs.Outpoints.{spelt}
use Rattle.filling.proofs.exclusions.outpoint_bytes.Goals as goal

pub returns : goal.returns
returns c = spelt _ _ _ c.args.outpoint.now c.copy_from_slice.ensures.after c.copy_from_slice.ensures.len refl (c.copy_from_slice-2.ensures.after ∙ c.to_le_bytes.ensures)
