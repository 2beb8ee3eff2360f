use Rattle.std.proofs.Common.{◌≡◌, ◌∷◌, List, length, suc, sym, ap, ◌∙◌, rules, arith}
use Rattle.std.specs.Vec.Iter.{into_iter_items}
use Rattle.tx.specs.Fields.{Transaction}
use Rattle.chain.specs.Connecting.{added}
use Rattle.chain.proofs.Growing.{changes_more, goes_on, still_may_take_off}
use Rattle.chain.proofs.connecting.add_all.Goals as goal

pub add_one-requires : goal.add_one-requires
add_one-requires g c =
    let standing = g.S.Store.standing in
    still_may_take_off (standing c.args.store.now) (standing c.loop-tx.store) c.loop-tx.invariant.newest c.requires

pub loop-tx-preserved : goal.loop-tx-preserved
loop-tx-preserved g c =
    let standing = g.S.Store.standing in
    let s = standing c.loop-tx.store in
    let after = standing c.add_one.new.store in
    let t = c.in-Some.tx in
    let left = into_iter_items c.next.new.self in
    let e : into_iter_items c.loop-tx.tx-iterator ≡ t ∷ left = search rules in
    let count : length (into_iter_items c.loop-tx.tx-iterator) ≡ suc (length left) = ap length e in
    record {
      newest = changes_more (standing c.args.store.now) s after t c.loop-tx.invariant.newest c.in_default.ensures.1;
      rest = goes_on s after c.loop-tx.index t left _ (ap (λ (ts : List Transaction). added c.loop-tx.index s.blocks ts) (sym e) ∙ c.loop-tx.invariant.rest) c.in_default.ensures.0 c.in_default.ensures.1;
      index = omega (arith, count, c.loop-tx.invariant.index);
    }
