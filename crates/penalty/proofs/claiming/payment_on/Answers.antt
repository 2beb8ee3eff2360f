use Rattle.std.proofs.lemmas.Result.{IfOk-weaker}
use Rattle.penalty.proofs.Accepting.{claims_key, open_way, as_payment}
use Rattle.penalty.proofs.Programs.{on_key}
use Rattle.std.proofs.Common.{ap}
use Rattle.commit.specs.Keys.{KeyBytes}
use Rattle.penalty.proofs.claiming.payment_on.Goals as goal

pub claim_of-requires-clause-form : goal.claim_of-requires-clause-form
claim_of-requires-clause-form c = claims_key c.keys.result.now.remote c.in_ok-checked.checked c.args.place c.in_ok-checked.ensures

pub claim_of-requires-clause-way : goal.claim_of-requires-clause-way
claim_of-requires-clause-way c = open_way _ c.in_ok-checked.checked 0 c.args.place (claims_key c.keys.result.now.remote c.in_ok-checked.checked c.args.place c.in_ok-checked.ensures)

pub claim_of-requires-clause-program : goal.claim_of-requires-clause-program
claim_of-requires-clause-program c =
    on_key c.args.commitment.now _ _ _ (ap (λ (b : KeyBytes). b.remote) c.keys.ensures) c.in_ok-checked.ensures c.requires

pub returns : goal.returns
returns c = IfOk-weaker c.claim_of.result _ _ (λ claim i. as_payment c.args.commitment.now c.keys.result.now c.in_ok-checked.checked c.args.place claim c.keys.ensures c.in_ok-checked.ensures i) c.claim_of.ensures
