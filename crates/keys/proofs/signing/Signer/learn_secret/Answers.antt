use Rattle.std.proofs.Common.{ap, ◌∙◌, ◌++◌, ◌∷◌, [], nat_cmp}
use Rattle.std.specs.Cmp.Lexicographic.{slice_cmp}
use Rattle.std.specs.BTreeSet.{contains}
use Rattle.keys.proofs.Undoing.{pushed, learnt_one_secret}
use Rattle.keys.proofs.signing.Signer.learn_secret.Goals as goal

pub invariant_of-self-2 : goal.invariant_of-self-2
invariant_of-self-2 c =
    let i = c.self.inside in
    let s = c.args.secret.now in
    learnt_one_secret (contains (slice_cmp nat_cmp) i.learnt) (contains (slice_cmp nat_cmp) c.insert_all.new.set) i.bases i.points.items i.secrets.items c.push.new.self.items c.revocations_at.result s c.point.result.bytes c.point.ensures c.revocations_at.ensures (pushed c.push.result c.unwrap.result c.push.new.self.items (c.reserve.new.self.items ++ s ∷ []) c.reserve.new.self.items c.unwrap.ensures c.push.ensures.items ∙ ap (λ ss. ss ++ s ∷ []) c.in_ok-reserve.ensures.items) c.in_ok-insert_all.ensures.ok c.self.invariant
