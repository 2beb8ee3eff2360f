use Rattle.std.proofs.Common.{subst, ◌<◌, ◌^◌}
use Rattle.watch.proofs.Numbers.{same_number}
use Rattle.watch.proofs.verdicts.number_in.Goals as goal

pub returns : goal.returns
returns c = same_number c.args.terms.now c.args.tx.now _ (subst (λ x. x < 2 ^ 48) c.mask.ensures.value c.mask.ensures.range) c.number_of.ensures
