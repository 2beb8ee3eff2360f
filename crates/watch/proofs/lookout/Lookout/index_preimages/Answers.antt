use Rattle.std.proofs.Common.{◌≡◌, List, ℕ, ap, ◌∙◌}
use Rattle.watch.proofs.Learnt.{kept_known}
use Rattle.watch.proofs.lookout.Lookout.index_preimages.Goals as goal

pub invariant_of-self : goal.invariant_of-self
invariant_of-self c =
    let i = c.self.inside in
    let d = c.deref_mut.result.now in
    let same : record d { preimages = c.index.new.self } ≡ i.known.value =
    ap (λ (xs : List (List ℕ)). record d { preimages = xs }) c.index.ensures ∙ c.deref_mut.ensures.value in
    kept_known (record d { preimages = c.index.new.self }) i.known.value i.watch i.commitments i.is_settled same c.self.invariant

pub invariant_of-self-in_err-index : goal.invariant_of-self-in_err-index
invariant_of-self-in_err-index c =
    let i = c.self.inside in
    let d = c.deref_mut.result.now in
    let same : record d { preimages = c.index.new.self } ≡ i.known.value =
    ap (λ (xs : List (List ℕ)). record d { preimages = xs }) c.index.ensures ∙ c.deref_mut.ensures.value in
    kept_known (record d { preimages = c.index.new.self }) i.known.value i.watch i.commitments i.is_settled same c.self.invariant
