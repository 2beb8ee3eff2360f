use Rattle.channel.proofs.Giving.{nothing_new, signs_once}
use Rattle.channel.proofs.FirstOrder.{goes_out_in_order}
use Rattle.channel.proofs.laws.nothing_new_goes_out.Goals as goal

pub returns-clause-old : goal.returns-clause-old
returns-clause-old c = nothing_new

pub returns-clause-ordered : goal.returns-clause-ordered
returns-clause-ordered c = goes_out_in_order

pub returns-clause-once : goal.returns-clause-once
returns-clause-once c = signs_once
