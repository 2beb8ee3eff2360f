use Rattle.world.proofs.TwoEnds.{Laws}
use Rattle.world.proofs.Moments.{worlds_hold}
use Rattle.world.proofs.laws.worlds_hold.Goals as goal

pub returns : goal.returns
returns c =
    let laws : Laws = record {
      agree = c.peers_agree.ensures.reached;
      record_all = c.sides_are_sound.ensures.recorded;
      number_all = c.sides_are_sound.ensures.numbered;
      pass = c.inputs_have_passed.ensures;
      own = c.what_is_recorded.ensures.own;
      grants = c.what_is_recorded.ensures.grants;
      taken = c.taken.ensures.inputs;
      inputs = c.delayed_claims_wait.ensures.inputs;
      owners = c.due_places.ensures.owners;
      peers = c.due_places.ensures.peers;
      revoked = c.due_places.ensures.revoked;
      fundings = c.what_commitments_spend.ensures.fundings;
      outputs = c.what_commitments_spend.ensures.outputs;
      channels_apart = c.who_takes.ensures.channels;
      grants_apart = c.who_takes.ensures.grants;
    } in
    worlds_hold c.accepted_is_called.ensures c.signing_is_guarded.ensures.guarded c.kept_are_exact.ensures c.releases_fit.ensures c.claims_spend.ensures.spends c.nothing_escapes.ensures.above laws.agree laws.number_all laws
    c.deliveries_are_taken.ensures c.what_is_closed_stays_closed.ensures.newest
