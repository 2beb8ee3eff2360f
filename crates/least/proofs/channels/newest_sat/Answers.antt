use Rattle.worth_laws.specs.Counted.{known_by}
use Rattle.least.proofs.Least.{newest_fits}
use Rattle.least.proofs.channels.newest_sat.Goals as goal

pub returns-clause-bound : goal.returns-clause-bound
returns-clause-bound c =
    newest_fits c.shares_are_worth.ensures.all c.shares_are_placed.ensures c.left_is_placed.ensures (known_by c.args.known.now) c.args.channel.now c.terms-terms.result.now c.own_commitments-commitments.result.now c.number-number.result c.index-commitments-number.result
    c.own_left_sat.result c.terms-terms.ensures c.number-number.ensures.number c.own_commitments-commitments.ensures.numbered c.index-commitments-number.is c.own_left_sat.ensures
