use Rattle.std.proofs.Common.{◌≡◌, ◌++◌, List, ℕ, false, ap, ◌∙◌}
use Rattle.resolve.specs.declared.known.Known.{Known}
use Rattle.watch.specs.Lookouts.{some_changes}
use Rattle.watch.proofs.Learnt.{kept_htlcs, kept_settled, kept_known}
use Rattle.watch.proofs.lookout.Lookout.learn.Goals as goal

pub invariant_of-self : goal.invariant_of-self
invariant_of-self c =
    let i = c.self.inside in
    let d = c.deref_mut.result.now in
    let same : record d { preimages = c.extend.new.self } ≡ i.known.value =
    ap (λ (xs : List (List ℕ)). record d { preimages = xs }) c.in_err-extend.ensures.err ∙ c.deref_mut.ensures.value in
    kept_known (record d { preimages = c.extend.new.self }) i.known.value i.watch i.commitments i.is_settled same c.self.invariant

pub invariant_of-self-then-changes : goal.invariant_of-self-then-changes
invariant_of-self-then-changes c =
    let i = c.self.inside in
    let k = i.known.value in
    let d = c.deref_mut.result.now in
    let ps = c.extend.new.self in
    kept_known (record d { preimages = ps }) (record k { preimages = ps }) i.watch i.commitments false (ap (λ (x : Known). record x { preimages = ps }) c.deref_mut.ensures.value)
    (kept_htlcs ps k i.watch.spends i.commitments c.self.invariant.0, tt)

pub invariant_of-self-else-changes : goal.invariant_of-self-else-changes
invariant_of-self-else-changes c =
    let i = c.self.inside in
    let k = i.known.value in
    let d = c.deref_mut.result.now in
    let ps = c.extend.new.self in
    let more = c.args.preimages.now in
    kept_known (record d { preimages = ps }) (record k { preimages = ps }) i.watch i.commitments i.is_settled (ap (λ (x : Known). record x { preimages = ps }) c.deref_mut.ensures.value) (
      kept_htlcs ps k i.watch.spends i.commitments c.self.invariant.0,
      kept_settled i.is_settled c.some_changes-changes.result more ps k i.watch c.spends.result.now
          (c.in_ok-extend.ensures.ok ∙ ap (λ (x : Known). x.preimages ++ more) c.deref_mut.ensures.value) c.if-changes.false
          (c.some_changes-changes.ensures ∙ ap (λ (x : Known). some_changes x more c.spends.result.now) c.deref.ensures) c.spends.ensures c.self.invariant.1,
    )
