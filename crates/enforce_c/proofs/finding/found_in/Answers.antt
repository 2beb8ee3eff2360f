use Rattle.enforce_c.proofs.FoundClaims.{found_if}
use Rattle.enforce_c.proofs.finding.found_in.Goals as goal

pub returns : goal.returns
returns c =
    found_if c.args.question c.args.close.now c.args.funding_keys c.args.tx.now c.args.confirmed_height c.in_ok-found.found.claims c.in_ok-found.found.others c.finding_of.result c.listed_paths_are_sound.ensures
    c.scripts_are_satisfied_exactly.ensures c.nothing_is_left_out.ensures.on_outputs c.in_ok-found.ensures.claims c.in_ok-found.ensures.others c.finding_of.ensures.lists c.finding_of.ensures.ready c.finding_of.ensures.found
    c.finding_of.ensures.others
