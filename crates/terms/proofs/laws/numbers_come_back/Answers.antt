use Rattle.terms.proofs.Revealing.{numbers_come_back, fields_come_back}
use Rattle.terms.proofs.laws.numbers_come_back.Goals as goal

pub returns-clause-numbers : goal.returns-clause-numbers
returns-clause-numbers c = numbers_come_back

pub returns-clause-fields : goal.returns-clause-fields
returns-clause-fields c = fields_come_back
