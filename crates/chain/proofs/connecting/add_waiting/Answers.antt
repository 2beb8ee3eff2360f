use Rattle.std.proofs.Common.{◌≡◌, ◌∷◌, ◌++◌, List, sym, ap, ◌∙◌, rules}
use Rattle.std.specs.Vec.Iter.{into_iter_items}
use Rattle.tx.specs.Fields.{Transaction}
use Rattle.chain.specs.Connecting.{passing_added}
use Rattle.chain.specs.Waiting.{refused_of}
use Rattle.chain.proofs.Growing.{still_may_take_off}
use Rattle.chain.proofs.Returned.{newest_changes, still_added, given_back}
use Rattle.chain.proofs.connecting.add_waiting.Goals as goal

pub offer_back-requires : goal.offer_back-requires
offer_back-requires g c =
    let standing = g.S.Store.standing in
    still_may_take_off (standing c.args.store.now) (standing c.loop-confirmed.store) c.loop-confirmed.invariant.newest c.requires

pub loop-confirmed-preserved : goal.loop-confirmed-preserved
loop-confirmed-preserved g c =
    let standing = g.S.Store.standing in
    let s = standing c.loop-confirmed.store in
    let t = c.in-Some.confirmed in
    let left = into_iter_items c.next.new.self in
    let (back, pushed, offered) = c.in_ok-offer_back.ensures.ok in
    let e : into_iter_items c.loop-confirmed.confirmed-iterator ≡ t ∷ left = search rules in
    record {
      newest = newest_changes (standing c.args.store.now) s (standing c.offer_back.new.store) t back c.loop-confirmed.invariant.newest offered;
      blocks = still_added s (standing c.offer_back.new.store) t left back _ offered (ap (λ (ts : List Transaction). passing_added s.blocks ts) (sym e) ∙ c.loop-confirmed.invariant.blocks);
      given =
          given_back s (standing c.offer_back.new.store) t left back c.loop-confirmed.refused.items c.offer_back.new.refused.items _ offered pushed
          (ap (λ (ts : List Transaction). c.loop-confirmed.refused.items ++ refused_of s.blocks ts) (sym e) ∙ c.loop-confirmed.invariant.given);
    }
