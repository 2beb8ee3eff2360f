use Rattle.std.proofs.Common.{Bor, refl, ◌∙◌}
use Rattle.std.proofs.lemmas.List.{take_all}
use Rattle.claim.specs.Claims.{ClaimParts}
use Rattle.book.proofs.Recorded.{took}
use Rattle.book.proofs.releasing.lent.Goals as goal

pub loop-claim-preserved : goal.loop-claim-preserved
loop-claim-preserved c =
    let l = c.loop-claim in
    took (λ (r : Bor ClaimParts). r.now) l.lent.items c.push.new.self.items _ c.claim-item.result c.args.claims.now l.claim-index c.in_ok-push.ensures.items l.invariant c.loop-claim-test.true refl c.claim-item.is

pub returns : goal.returns
returns c = c.loop-claim.invariant ∙ take_all c.loop-claim.claim-index c.args.claims.now c.loop-claim-test.false
