use Rattle.std.proofs.Common.{sym, ap, ◌∙◌}
use Rattle.worth_laws.specs.Left.{all_left_sat}
use Rattle.least.proofs.shares.revoked_left_sat.Goals as goal

pub returns : goal.returns
returns c =
    let k = c.args.commitment.now in
    c.all_left_sat.ensures ∙ ap (all_left_sat k.view.feerate_per_kw) c.in_ok-amounts.ensures ∙ sym (c.left_is_placed.ensures.all c.args.terms.now k.view k.owner k.number k.point.bytes)
