use Rattle.std.proofs.Common.{rules}
use Rattle.std.proofs.lemmas.Bool.Decides.{Decides-at}
use Rattle.book.proofs.SameStates.{terms_test, terms_decides}
use Rattle.book.proofs.comparing.are_same_terms.Goals as goal

pub returns : goal.returns
returns c = Decides-at c.eq.result (terms_test _ c.args.a.now c.args.b.now) c.eq.ensures (terms_decides c.args.a.now c.args.b.now _ (search rules))
