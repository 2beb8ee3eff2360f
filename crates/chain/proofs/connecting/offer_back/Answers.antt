use Rattle.std.proofs.Common.{◌≡◌, Some}
use Rattle.chain.specs.Checks.{transaction_refusal}
use Rattle.chain.proofs.Offering.{named}
use Rattle.chain.proofs.Returned.{came_back}
use Rattle.chain.proofs.connecting.offer_back.Goals as goal

pub returns-in_ok-push-in_default-refusal-clause-ok : goal.returns-in_ok-push-in_default-refusal-clause-ok
returns-in_ok-push-in_default-refusal-clause-ok g c =
    let s = g.S.Store.standing c.args.store.now in
    let t = c.args.confirmed in
    let refusal = c.in-Err.refusal in (
      Some (record { confirmed = t; refusal = refusal }),
      c.in_ok-push-in_default-refusal.ensures.items,
      came_back s t refusal (named (transaction_refusal s.blocks t ≡ Some refusal) refusal c.in_default-refusal.not-NoMemory c.in-Err.ensures),
    )
