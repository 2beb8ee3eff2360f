use Rattle.std.proofs.Common.{ap, ◌∙◌, ◌++◌, ◌∷◌, [], nat_cmp}
use Rattle.std.specs.Cmp.Lexicographic.{slice_cmp}
use Rattle.std.specs.BTreeSet.{contains}
use Rattle.keys.proofs.Undoing.{pushed, learnt_both}
use Rattle.keys.proofs.signing.Signer.learn_revocation.Goals as goal

pub invariant_of-self-2 : goal.invariant_of-self-2
invariant_of-self-2 c =
    let i = c.self.inside in
    let p = c.args.next_point.now.bytes in
    let s = c.args.secret.now in
    learnt_both (contains (slice_cmp nat_cmp) i.learnt) (contains (slice_cmp nat_cmp) c.insert_all.new.set) i.bases i.points.items i.secrets.items c.push.new.self.items c.push-2.new.self.items c.keys_after-keys.result p s c.point.result.bytes
    c.point.ensures
    c.keys_after-keys.ensures
    (pushed c.push.result c.unwrap.result c.push.new.self.items (c.reserve.new.self.items ++ p ∷ []) c.reserve.new.self.items c.unwrap.ensures c.push.ensures.items ∙ ap (λ ps. ps ++ p ∷ []) c.in_ok-reserve.ensures.items)
    (pushed c.push-2.result c.unwrap-2.result c.push-2.new.self.items (c.reserve-2.new.self.items ++ s ∷ []) c.reserve-2.new.self.items c.unwrap-2.ensures c.push-2.ensures.items ∙ ap (λ ss. ss ++ s ∷ []) c.in_ok-reserve-2.ensures.items)
    c.in_ok-insert_all.ensures.ok
    c.self.invariant
