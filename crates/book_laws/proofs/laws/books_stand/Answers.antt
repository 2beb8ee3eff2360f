use Rattle.book_laws.proofs.Keeping.{books_stand}
use Rattle.book_laws.proofs.laws.books_stand.Goals as goal

pub returns : goal.returns
returns c = books_stand c.books_keep_rules.ensures.rules c.one_against_everybody.ensures
