use Rattle.std.proofs.Common.{take, drop, ap, ◌∙◌}
use Rattle.worth_laws.specs.Counted.{known_by}
use Rattle.least.proofs.Least.{least_is}
use Rattle.least.proofs.channels.at_least_sat.Goals as goal

pub returns : goal.returns
returns c =
    let s = c.args.channel.now in
    least_is (known_by c.args.known.now) s c.terms-terms.result.now _ _ c.in_ok-newest_sat.newest_sat c.in_ok-open_sat.open_sat c.in_ok-least_sat.least_sat c.terms-terms.ensures
    (c.split_at.ensures.back ∙ ap (drop c.peer_number.result) c.peers_commitments-signed.ensures.commitments ∙ ap (λ n. drop n s.signed) c.peer_number.ensures.number)
    (c.split_at.ensures.front ∙ ap (take c.peer_number.result) c.peers_commitments-signed.ensures.commitments ∙ ap (λ n. take n s.signed) c.peer_number.ensures.number)
    c.in_ok-newest_sat.ensures.own c.in_ok-open_sat.ensures c.in_ok-least_sat.ensures
