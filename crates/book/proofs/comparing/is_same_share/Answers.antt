use Rattle.std.proofs.Common.{rules}
use Rattle.std.proofs.lemmas.Slice.Eq.{slice_eq-Decides}
use Rattle.book.proofs.SameStates.{share_decides}
use Rattle.book.proofs.comparing.is_same_share.Goals as goal

pub returns-then-a-b : goal.returns-then-a-b
returns-then-a-b c =
    share_decides c.args.a.now c.args.b.now c.values.result.now c.values-then-a-b.result.now c.eq.result c.values.ensures c.values-then-a-b.ensures c.if-a-b.true
    (slice_eq-Decides (λ a b. search rules) c.values.result.now c.values-then-a-b.result.now c.eq.result c.eq.ensures)
