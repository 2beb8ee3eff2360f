use Rattle.revoked.proofs.Accepting.{has_penalty, by_hash, of_penalty_on}
use Rattle.std.proofs.lemmas.Result.{IfOk-weaker}
use Rattle.commit.specs.Keys.{bytes_of}
use Rattle.revoked.specs.Programs.{form_of_htlc}
use Rattle.revoked.proofs.claiming.claim_on_htlc.Goals as goal

pub htlc_penalty-requires-clause-form : goal.htlc_penalty-requires-clause-form
htlc_penalty-requires-clause-form c = has_penalty c.args.channel_type c.args.keys.now c.args.htlc.now c.in_ok-checked.checked c.in_ok-checked.ensures

pub htlc_penalty-requires-clause-program : goal.htlc_penalty-requires-clause-program
htlc_penalty-requires-clause-program c =
    by_hash (form_of_htlc c.args.channel_type (bytes_of c.args.keys.now) c.args.htlc.now) c.in_ok-checked.checked c.args.place.program c.in_ok-checked.ensures c.requires

pub returns : goal.returns
returns c =
    IfOk-weaker c.htlc_penalty.result _ _
    (λ claim p. of_penalty_on c.args.channel_type c.args.keys.now c.args.htlc.now c.in_ok-checked.checked c.args.place claim c.in_ok-checked.ensures p)
    c.htlc_penalty.ensures
