use Rattle.std.proofs.Common.{[], refl, ap}
use Rattle.std.specs.List.{cons_option, filter_map}
use Rattle.trace.specs.Claims.{htlc_claim}
use Rattle.trace.proofs.Made.{one_more, none_left, first_of}
use Rattle.trace.proofs.dumps.claims.push_htlcs.Goals as goal

pub loop-htlc-preserved : goal.loop-htlc-preserved
loop-htlc-preserved c =
    let claim_of = htlc_claim c.args.close c.args.hashes.now c.args.direction in
    one_more (filter_map claim_of) (λ htlc. cons_option (claim_of htlc) []) (first_of claim_of) c.args.htlcs.now c.loop-htlc.htlc-index _ _ _ _ _ c.loop-htlc-test.true (ap (λ claim. cons_option claim []) c.htlc_claim.ensures) c.in_ok-push_some.ensures c.loop-htlc.invariant

pub returns : goal.returns
returns c =
    let claim_of = htlc_claim c.args.close c.args.hashes.now c.args.direction in
    none_left (filter_map claim_of) refl c.args.htlcs.now c.loop-htlc.htlc-index _ _ c.loop-htlc-test.false c.loop-htlc.invariant
