use Rattle.std.proofs.Common.{◌∙◌}
use Rattle.enforce_c.proofs.Spelled.{to_local_spells}
use Rattle.enforce_c.proofs.script_bytes.to_local.Goals as goal

pub returns : goal.returns
returns c = to_local_spells c.joined.result _ _ _ c.args.delay_blocks _ c.told-revocation c.told-delayed c.from.ensures (c.bytes.ensures ∙ c.in_ok-delay.ensures) c.joined.ensures
