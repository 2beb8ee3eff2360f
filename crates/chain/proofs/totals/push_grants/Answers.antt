use Rattle.std.proofs.Common.{ℕ, ◌+◌, ◌++◌, drop, ap, ◌∙◌, arith}
use Rattle.tx.specs.declared.input.OutPoint.{OutPoint}
use Rattle.chain.specs.Blocks.{grant_outpoint}
use Rattle.chain.specs.Totals.{unspent_value}
use Rattle.chain.specs.Scanning.{grants_from}
use Rattle.chain.proofs.Finding.{drop-past}
use Rattle.chain.proofs.Growing.{counts_on}
use Rattle.chain.proofs.Sums.{grants_on, nothing_left}
use Rattle.chain.proofs.totals.push_grants.Goals as goal

pub loop-index-preserved : goal.loop-index-preserved
loop-index-preserved g c =
    let blocks = (g.S.Store.standing c.args.store.now).blocks in
    let i = c.loop-index.index in
    let values = c.loop-index.values.items in
    λ height n e.
    grants_on blocks height n i c.args.granted.now c.index-granted-index.result values c.push_unless_named.new.values.items _ c.index-granted-index.is (omega arith)
    (c.in_ok-push_unless_named.ensures
    ∙ ap (λ (o : OutPoint). values ++ unspent_value blocks o c.value.result) (c.grant_outpoint-outpoint.ensures (n + i) (counts_on c.args.before n i e))
    ∙ ap (λ (v : ℕ). values ++ unspent_value blocks (grant_outpoint (n + i)) v) c.value.ensures.value)
    (c.loop-index.invariant height n e)

pub returns : goal.returns
returns g c =
    let blocks = (g.S.Store.standing c.args.store.now).blocks in
    let i = c.loop-index.index in
    λ height n e.
    nothing_left blocks c.loop-index.values.items _ (grants_from height (n + i) (drop i c.args.granted.now)) (ap (grants_from height (n + i)) (drop-past c.args.granted.now i (omega arith))) (c.loop-index.invariant height n e)
