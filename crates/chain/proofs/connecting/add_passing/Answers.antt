use Rattle.std.proofs.Common.{◌≡◌, ◌∷◌, ◌++◌, List, sym, ap, ◌∙◌, rules}
use Rattle.std.specs.Vec.Iter.{into_iter_items}
use Rattle.tx.specs.Fields.{Transaction}
use Rattle.chain.specs.Connecting.{passing_added, refusals_of}
use Rattle.chain.proofs.Growing.{still_may_take_off}
use Rattle.chain.proofs.Offering.{newest_offered, still_passing, answer_given}
use Rattle.chain.proofs.connecting.add_passing.Goals as goal

pub offer-requires : goal.offer-requires
offer-requires g c =
    let standing = g.S.Store.standing in
    still_may_take_off (standing c.args.store.now) (standing c.loop-tx.store) c.loop-tx.invariant.newest c.requires

pub loop-tx-preserved : goal.loop-tx-preserved
loop-tx-preserved g c =
    let standing = g.S.Store.standing in
    let s = standing c.loop-tx.store in
    let t = c.in-Some.tx in
    let left = into_iter_items c.next.new.self in
    let refusal = c.in_ok-offer.field-0 in
    let e : into_iter_items c.loop-tx.tx-iterator ≡ t ∷ left = search rules in
    record {
      newest = newest_offered (standing c.args.store.now) s (standing c.offer.new.store) t refusal c.loop-tx.invariant.newest c.in_ok-offer.ensures.ok;
      blocks = still_passing s (standing c.offer.new.store) t left refusal _ c.in_ok-offer.ensures.ok (ap (λ (ts : List Transaction). passing_added s.blocks ts) (sym e) ∙ c.loop-tx.invariant.blocks);
      given =
          answer_given s (standing c.offer.new.store) t left refusal c.loop-tx.refusals.items c.push.new.self.items _ c.in_ok-offer.ensures.ok c.in_ok-push.ensures.items
          (ap (λ (ts : List Transaction). c.loop-tx.refusals.items ++ refusals_of s.blocks ts) (sym e) ∙ c.loop-tx.invariant.given);
    }
