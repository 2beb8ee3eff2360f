use Rattle.std.proofs.Common.{subst, arith}
use Rattle.tx.specs.Reading.{Gives}
use Rattle.tx.proofs.Whole.{is_found, all_again}
use Rattle.tx.proofs.reading.decode.Goals as goal

pub returns-clause-found : goal.returns-clause-found
returns-clause-found c = is_found c.args.bytes.now c.all.result (λ i. omega (arith, c.type_inv.bytes i)) c.all.ensures

pub returns-clause-only : goal.returns-clause-only
returns-clause-only c = λ t is. subst (λ r. Gives (λ u. u) c.all.result r) (all_again t c.args.bytes.now is) c.all.ensures
