use Rattle.std.proofs.Common.{sym, ap, ◌∙◌, ◌+◌, arith}
use Rattle.tx.specs.Fields.{same_outpoint}
use Rattle.chain.specs.Scanning.{found_in}
use Rattle.chain.proofs.Finding.{granted_in_order, grants_here, grants_end}
use Rattle.chain.proofs.Growing.{counts_on}
use Rattle.chain.proofs.scan.find_in_grants.Goals as goal

pub returns-then-same_outpoint : goal.returns-then-same_outpoint
returns-then-same_outpoint c = λ height g e.
    let place = c.grant_outpoint.ensures (g + c.loop-index.index) (counts_on c.args.before g c.loop-index.index e) in
    sym (ap (found_in c.args.outpoint.now) (granted_in_order height g c.args.granted.now)
    ∙ sym (c.loop-index.invariant height g e)
    ∙ grants_here c.args.outpoint.now height g c.args.granted.now c.loop-index.index c.index-granted-index.result c.index-granted-index.is (omega arith)
    (ap (λ p. same_outpoint p c.args.outpoint.now) (sym place) ∙ sym c.same_outpoint.ensures ∙ c.if-same_outpoint.true))

pub returns : goal.returns
returns c = λ height g e.
    sym (ap (found_in c.args.outpoint.now) (granted_in_order height g c.args.granted.now)
    ∙ sym (c.loop-index.invariant height g e)
    ∙ grants_end c.args.outpoint.now height (g + c.loop-index.index) c.args.granted.now c.loop-index.index (omega arith))
