use Rattle.script.proofs.OneEnd.{jump_is_exact, clean_is_exact, stop_is_exact}
use Rattle.script.proofs.laws.runs_are_exact.Goals as goal

pub returns-clause-jump : goal.returns-clause-jump
returns-clause-jump c = jump_is_exact

pub returns-clause-clean : goal.returns-clause-clean
returns-clause-clean c = clean_is_exact

pub returns-clause-stopped : goal.returns-clause-stopped
returns-clause-stopped c = stop_is_exact
