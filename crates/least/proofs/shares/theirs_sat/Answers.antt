use Rattle.std.proofs.Common.{false, sym, ap, ◌∙◌}
use Rattle.worth_laws.specs.Counted.{known_by}
use Rattle.worth_laws.specs.Placed.{placed_sat}
use Rattle.least.proofs.shares.theirs_sat.Goals as goal

pub returns : goal.returns
returns c =
    let k = c.args.commitment.now in
    let known = known_by c.args.known.now in
    c.peers_sat.ensures ∙ ap (placed_sat false known) c.in_ok-amounts.ensures ∙ sym (c.shares_are_placed.ensures.counted c.args.terms.now k.view k.owner false k.number k.point.bytes known)
