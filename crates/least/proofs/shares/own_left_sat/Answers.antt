use Rattle.std.proofs.Common.{sym, ap, ◌∙◌}
use Rattle.worth_laws.specs.Counted.{known_by}
use Rattle.worth_laws.specs.Left.{owners_left_sat}
use Rattle.least.proofs.shares.own_left_sat.Goals as goal

pub returns : goal.returns
returns c =
    let k = c.args.commitment.now in
    let known = known_by c.args.known.now in
    c.owners_left_sat.ensures ∙ ap (owners_left_sat known k.view.feerate_per_kw) c.in_ok-amounts.ensures ∙ sym (c.left_is_placed.ensures.own c.args.terms.now k.view k.owner k.number k.point.bytes known)
