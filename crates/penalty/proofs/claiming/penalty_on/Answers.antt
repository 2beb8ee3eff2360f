use Rattle.std.proofs.lemmas.Result.{IfOk-weaker}
use Rattle.penalty.proofs.Accepting.{claims_to_local, open_way, as_to_local, as_penalty}
use Rattle.penalty.proofs.Programs.{on_to_local}
use Rattle.penalty.proofs.claiming.penalty_on.Goals as goal

pub claim_of-requires-clause-form : goal.claim_of-requires-clause-form
claim_of-requires-clause-form c = claims_to_local c.keys-keys.result.now.revocation c.delay_blocks.result c.keys-keys.result.now.delayed.bytes c.in_ok-checked.checked c.args.place c.in_ok-checked.ensures

pub claim_of-requires-clause-way : goal.claim_of-requires-clause-way
claim_of-requires-clause-way c = open_way _ c.in_ok-checked.checked 0 c.args.place (claims_to_local c.keys-keys.result.now.revocation c.delay_blocks.result c.keys-keys.result.now.delayed.bytes c.in_ok-checked.checked c.args.place c.in_ok-checked.ensures)

pub claim_of-requires-clause-program : goal.claim_of-requires-clause-program
claim_of-requires-clause-program c =
    on_to_local c.args.commitment.now _ _ (as_to_local c.args.commitment.now c.keys-keys.result.now _ _ c.keys-keys.ensures c.delay_blocks.ensures c.in_ok-checked.ensures) c.requires

pub returns : goal.returns
returns c = IfOk-weaker c.claim_of.result _ _ (λ claim i. as_penalty c.args.commitment.now c.keys-keys.result.now c.delay_blocks.result c.in_ok-checked.checked c.args.place claim c.keys-keys.ensures c.delay_blocks.ensures c.in_ok-checked.ensures i) c.claim_of.ensures
