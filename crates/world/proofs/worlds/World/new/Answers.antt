use Rattle.std.proofs.Common.{sym, ◌∙◌}
use Rattle.world.proofs.Begun.{agreed_each}
use Rattle.world.proofs.worlds.World.new.Goals as goal

pub begin_all-requires-clause-agreed : goal.begin_all-requires-clause-agreed
begin_all-requires-clause-agreed c = agreed_each 0 c.args.terms.now (sym c.first_bad_terms.ensures ∙ c.in-None.is)
