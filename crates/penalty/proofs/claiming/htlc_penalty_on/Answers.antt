use Rattle.std.proofs.lemmas.Result.{IfOk-weaker}
use Rattle.penalty.proofs.Accepting.{claims_htlc, open_way, as_htlc_penalty}
use Rattle.penalty.proofs.Programs.{on_htlc}
use Rattle.penalty.proofs.claiming.htlc_penalty_on.Goals as goal

pub claim_of-requires-clause-form : goal.claim_of-requires-clause-form
claim_of-requires-clause-form c = claims_htlc c.keys-keys.result.now c.args.direction c.args.htlc.now c.in_ok-checked.checked c.args.place c.in_ok-checked.ensures

pub claim_of-requires-clause-way : goal.claim_of-requires-clause-way
claim_of-requires-clause-way c = open_way _ c.in_ok-checked.checked 0 c.args.place (claims_htlc c.keys-keys.result.now c.args.direction c.args.htlc.now c.in_ok-checked.checked c.args.place c.in_ok-checked.ensures)

pub claim_of-requires-clause-program : goal.claim_of-requires-clause-program
claim_of-requires-clause-program c =
    on_htlc c.args.commitment.now _ c.args.direction c.args.htlc.now _ _ c.keys-keys.ensures c.in_ok-checked.ensures c.requires.program

pub returns : goal.returns
returns c = IfOk-weaker c.claim_of.result _ _ (λ claim i. as_htlc_penalty c.args.commitment.now c.keys-keys.result.now c.args.direction c.args.htlc.now c.in_ok-checked.checked c.args.place claim c.keys-keys.ensures c.in_ok-checked.ensures i) c.claim_of.ensures
