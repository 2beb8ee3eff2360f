use Rattle.tx.proofs.Whole.{one_stripped_value}
use Rattle.tx.proofs.laws.one_stripped_spelling.Goals as goal

pub returns-clause-of_bytes : goal.returns-clause-of_bytes
returns-clause-of_bytes c = λ t u bytes first second. one_stripped_value t u bytes first second
