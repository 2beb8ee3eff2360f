use Rattle.std.proofs.Common.{◌∙◌}
use Rattle.script.proofs.Choice.{greedy-assigned}
use Rattle.machine.proofs.Choosing.{all_chosen}
use Rattle.machine.proofs.multisig.is_assigned.Goals as goal

pub returns : goal.returns
returns c =
    c.is_empty.ensures ∙ all_chosen c.loop-key.sigs c.loop-key.keys c.args.digest.now (c.in_default.ensures.0) ∙ c.loop-key.invariant ∙ greedy-assigned c.args.sigs c.args.keys c.args.digest.now
