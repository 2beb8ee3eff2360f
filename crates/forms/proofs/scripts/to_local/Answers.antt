use Rattle.std.proofs.Common.{arith}
use Rattle.forms.proofs.Forms.{to_local_filled, taken, built}
use Rattle.forms.proofs.scripts.to_local.Goals as goal

pub instance_of-requires : goal.instance_of-requires
instance_of-requires c = taken _ _ _ _ c.args.patterns.now.of_to_local (to_local_filled c.args.revocation.now.bytes c.args.delay_blocks c.args.delayed.now.bytes (omega arith) c.args.revocation.now.form c.args.delayed.now.form)

pub returns : goal.returns
returns c = built c.instance_of.result _ _ _ _ c.args.patterns.now.of_to_local (to_local_filled c.args.revocation.now.bytes c.args.delay_blocks c.args.delayed.now.bytes (omega arith) c.args.revocation.now.form c.args.delayed.now.form) c.instance_of.ensures
