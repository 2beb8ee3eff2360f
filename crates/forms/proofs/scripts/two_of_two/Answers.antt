use Rattle.forms.proofs.Forms.{two_of_two_filled, taken, built}
use Rattle.forms.proofs.scripts.two_of_two.Goals as goal

pub instance_of-requires : goal.instance_of-requires
instance_of-requires c = taken _ _ _ _ c.args.patterns.now.of_two_of_two (two_of_two_filled c.args.first.now.bytes c.args.second.now.bytes c.args.first.now.form c.args.second.now.form)

pub returns : goal.returns
returns c = built c.instance_of.result _ _ _ _ c.args.patterns.now.of_two_of_two (two_of_two_filled c.args.first.now.bytes c.args.second.now.bytes c.args.first.now.form c.args.second.now.form) c.instance_of.ensures
