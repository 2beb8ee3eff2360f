use Rattle.std.proofs.Common.{sym, ◌∙◌}
use Rattle.sights.proofs.Noted.{one_more, one_already}
use Rattle.sights.proofs.origins.note.Goals as goal

pub returns-then-contains_key-clause-ok : goal.returns-then-contains_key-clause-ok
returns-then-contains_key-clause-ok c = one_already c.args.origins.now c.args.id.now c.args.origin (sym c.contains_key.ensures ∙ c.if-contains_key.true)

pub returns-clause-ok : goal.returns-clause-ok
returns-clause-ok c = one_more c.args.origins.now c.insert.new.self c.args.id.now c.args.origin (sym c.contains_key.ensures ∙ c.if-contains_key.false) c.in_ok-insert.ensures.updates.0
