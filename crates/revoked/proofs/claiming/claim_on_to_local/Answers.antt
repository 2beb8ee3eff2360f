use Rattle.penalty.proofs.Accepting.{claims_to_local, open_way}
use Rattle.revoked.proofs.claiming.claim_on_to_local.Goals as goal

pub claim_of-requires-clause-form : goal.claim_of-requires-clause-form
claim_of-requires-clause-form c =
    claims_to_local c.args.keys.now.revocation c.args.delay_blocks c.args.keys.now.delayed.bytes c.in_ok-checked.checked c.args.place c.in_ok-checked.ensures

pub claim_of-requires-clause-way : goal.claim_of-requires-clause-way
claim_of-requires-clause-way c =
    open_way _ c.in_ok-checked.checked 0 c.args.place
    (claims_to_local c.args.keys.now.revocation c.args.delay_blocks c.args.keys.now.delayed.bytes c.in_ok-checked.checked c.args.place c.in_ok-checked.ensures)
