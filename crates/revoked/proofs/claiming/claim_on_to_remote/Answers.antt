use Rattle.penalty.proofs.Accepting.{claims_key, open_way}
use Rattle.revoked.proofs.Accepting.{by_key}
use Rattle.revoked.proofs.claiming.claim_on_to_remote.Goals as goal

pub claim_of-requires-clause-form : goal.claim_of-requires-clause-form
claim_of-requires-clause-form c = claims_key c.args.keys.now.remote c.in_ok-checked.checked c.args.place c.in_ok-checked.ensures

pub claim_of-requires-clause-way : goal.claim_of-requires-clause-way
claim_of-requires-clause-way c =
    open_way _ c.in_ok-checked.checked 0 c.args.place (claims_key c.args.keys.now.remote c.in_ok-checked.checked c.args.place c.in_ok-checked.ensures)

pub claim_of-requires-clause-program : goal.claim_of-requires-clause-program
claim_of-requires-clause-program c = by_key c.args.keys.now.remote.bytes c.in_ok-checked.checked c.args.place.program c.in_ok-checked.ensures c.requires
