use Rattle.world_laws.proofs.Caring.{sides_are_careful, sides_keep_rules}
use Rattle.world_laws.proofs.laws.sides_keep_rules.Goals as goal

pub returns-clause-careful : goal.returns-clause-careful
returns-clause-careful c = sides_are_careful c.books_keep_rules.ensures.revoked c.what_is_recorded.ensures.grants

pub returns-clause-rules : goal.returns-clause-rules
returns-clause-rules c = sides_keep_rules c.books_keep_rules.ensures.rules c.books_keep_rules.ensures.revoked c.what_is_recorded.ensures.grants
