use Rattle.due_laws.proofs.Books.{books_have_dues}
use Rattle.due_laws.proofs.laws.books_have_dues.Goals as goal

pub returns : goal.returns
returns c =
    books_have_dues c.what_channels_have.ensures.bases c.books_keep_rules.ensures.rules c.what_is_due_is_counted.ensures.judged c.what_is_due_is_counted.ensures.counted c.dues_are_fillable.ensures c.fillings_pass.ensures
