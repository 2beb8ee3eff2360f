use Rattle.std.proofs.Common.{sym, ap, ◌∙◌, nat_cmp, arith}
use Rattle.std.specs.Cmp.Lexicographic.{slice_cmp}
use Rattle.std.specs.BTreeSet.{contains}
use Rattle.tx.specs.Spelling.{outpoint}
use Rattle.filling.proofs.Repeated.{hit, next, end}
use Rattle.filling.proofs.exclusions.share_outpoint.Goals as goal

pub returns-then-contains : goal.returns-then-contains
returns-then-contains c =
    hit (contains (slice_cmp nat_cmp) c.loop-claim.seen) c.args.claims.now c.loop-claim.claim-index _ c.claim-item.result c.outpoint_bytes-bytes.result (omega arith) c.claim-item.is
    (c.outpoint_bytes-bytes.ensures ∙ ap outpoint c.outpoint.ensures) (sym c.contains.ensures ∙ c.if-contains.true) c.loop-claim.invariant

pub loop-claim-preserved : goal.loop-claim-preserved
loop-claim-preserved c =
    next (contains (slice_cmp nat_cmp) c.loop-claim.seen) (contains (slice_cmp nat_cmp) c.insert.new.self) c.args.claims.now c.loop-claim.claim-index _ c.claim-item.result c.outpoint_bytes-bytes.result (omega arith) c.claim-item.is
    (c.outpoint_bytes-bytes.ensures ∙ ap outpoint c.outpoint.ensures) (sym c.contains.ensures ∙ c.if-contains.false) c.in_ok-insert.ensures.updates.0 c.loop-claim.invariant

pub returns : goal.returns
returns c = end (contains (slice_cmp nat_cmp) c.loop-claim.seen) c.args.claims.now c.loop-claim.claim-index (omega arith) c.loop-claim.invariant
