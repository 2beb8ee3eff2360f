use Rattle.std.proofs.Common.{arith}
use Rattle.std.proofs.lemmas.Result.{IfOk-weaker}
use Rattle.penalty.proofs.Accepting.{open_way, as_to_local}
use Rattle.penalty.proofs.Programs.{on_to_local}
use Rattle.resolve.proofs.Accepting.{claims_delayed, as_delayed}
use Rattle.resolve.proofs.claiming.delayed_on.Goals as goal

pub claim_of-requires-clause-form : goal.claim_of-requires-clause-form
claim_of-requires-clause-form c = claims_delayed c.keys-keys.result.now.revocation.bytes c.delay_blocks.result c.keys-keys.result.now.delayed c.in_ok-checked.checked c.args.place (omega arith) c.in_ok-checked.ensures

pub claim_of-requires-clause-way : goal.claim_of-requires-clause-way
claim_of-requires-clause-way c =
    open_way _ c.in_ok-checked.checked 1 c.args.place
    (claims_delayed c.keys-keys.result.now.revocation.bytes c.delay_blocks.result c.keys-keys.result.now.delayed c.in_ok-checked.checked c.args.place (omega arith) c.in_ok-checked.ensures)

pub claim_of-requires-clause-program : goal.claim_of-requires-clause-program
claim_of-requires-clause-program c =
    on_to_local c.args.commitment.now _ _ (as_to_local c.args.commitment.now c.keys-keys.result.now _ _ c.keys-keys.ensures c.delay_blocks.ensures c.in_ok-checked.ensures) c.requires

pub returns : goal.returns
returns c = IfOk-weaker c.claim_of.result _ _ (λ claim i. as_delayed c.args.commitment.now c.keys-keys.result.now c.delay_blocks.result c.in_ok-checked.checked c.args.place claim c.keys-keys.ensures c.delay_blocks.ensures c.in_ok-checked.ensures i) c.claim_of.ensures
