use Rattle.std.proofs.Common.{sym, ◌∙◌}
use Rattle.tx.proofs.Whole.{one_value}
use Rattle.tx.proofs.laws.one_spelling.Goals as goal

pub returns-clause-of_value : goal.returns-clause-of_value
returns-clause-of_value c = λ t a b first second. first.spelled ∙ sym second.spelled

pub returns-clause-of_bytes : goal.returns-clause-of_bytes
returns-clause-of_bytes c = λ t u bytes first second. one_value t u bytes first second
