use Rattle.std.proofs.Common.{subst, arith}
use Rattle.tx.specs.Reading.{Gives}
use Rattle.tx.proofs.Whole.{stripped_found, stripped_again}
use Rattle.tx.proofs.reading.decode_stripped.Goals as goal

pub returns-clause-found : goal.returns-clause-found
returns-clause-found c = stripped_found c.args.bytes.now c.all_stripped.result (λ i. omega (arith, c.type_inv.bytes i)) c.all_stripped.ensures

pub returns-clause-only : goal.returns-clause-only
returns-clause-only c = λ t is. subst (λ r. Gives (λ u. u) c.all_stripped.result r) (stripped_again t c.args.bytes.now is) c.all_stripped.ensures
