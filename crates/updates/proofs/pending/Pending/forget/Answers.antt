use Rattle.std.proofs.Common.{rules, ◌∙◌, ap, map}
use Rattle.std.proofs.lemmas.Fn.{filter_same}
use Rattle.updates.specs.Pending.{is_offered, unnoted}
use Rattle.updates.proofs.pending.Pending.forget.Goals as goal

pub returns-clause-htlcs : goal.returns-clause-htlcs
returns-clause-htlcs c = c.unnote.ensures.htlcs ∙ ap (map (unnoted c.args.removed)) (filter_same _ (is_offered c.args.added) _ (λ x b f k. search rules) _ _ c.retain.ensures.filtered)
