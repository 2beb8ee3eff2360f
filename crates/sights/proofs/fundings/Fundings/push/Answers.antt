use Rattle.std.proofs.Common.{sym, ap, ◌∙◌}
use Rattle.std.specs.BTreeSet.{contains}
use Rattle.chain.specs.Indexing.{outpoint_cmp}
use Rattle.sights.specs.Sights.{is_funding}
use Rattle.sights.proofs.Reading.{added}
use Rattle.sights.proofs.fundings.Fundings.push.Goals as goal

pub invariant_of-self-in_default : goal.invariant_of-self-in_default
invariant_of-self-in_default c =
    λ o. added c.self.inside.outpoints c.args.outpoint (contains outpoint_cmp c.self.inside.set) (contains outpoint_cmp c.insert.new.self) c.self.invariant c.in_default.ensures.updates.0 o
    ∙ ap (λ fs. is_funding fs o) (sym c.in_ok-push.ensures.pushed)
