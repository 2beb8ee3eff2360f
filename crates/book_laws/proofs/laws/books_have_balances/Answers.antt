use Rattle.book_laws.proofs.Books.{books_have_balances}
use Rattle.book_laws.proofs.laws.books_have_balances.Goals as goal

pub returns : goal.returns
returns c = books_have_balances c.what_channels_have.ensures.lived c.books_keep_rules.ensures.rules c.own_are_resolved.ensures.rules c.balances_are_there.ensures.there c.all_balances_are_there.ensures c.peers_tokens_came.ensures.came
