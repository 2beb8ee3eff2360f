use Rattle.std.proofs.Common.{◌≡◌, true, ◌∙◌, rules}
use Rattle.tx.proofs.Lists.{list_all-always, contradicts}
use Rattle.tx.proofs.limited.LimitedList.from_vec.Goals as goal
use Rattle.tx.proofs.limited.LimitedList.from_vec.Goals.{then-not-are_bounded-via-then-not-are_bounded, then-not-are_bounded-via-else-not-are_bounded+then-len-LIMIT}

pub returns-then-not-are_bounded-clause-by_number : goal.returns-then-not-are_bounded-clause-by_number
returns-then-not-are_bounded-clause-by_number g c = λ always.
    let e : c.are_bounded.result ≡ true = c.are_bounded.ensures.value ∙ list_all-always g.T.Element.is_bounded always c.as_slice.result.now in
    elim c.then-not-are_bounded.branch [
      | then-not-are_bounded-via-then-not-are_bounded w ↦ absurd (contradicts c.are_bounded.result e w.if-not-are_bounded.true)
      | then-not-are_bounded-via-else-not-are_bounded+then-len-LIMIT w ↦ search rules
    ]
