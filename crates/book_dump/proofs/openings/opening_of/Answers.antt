use Rattle.std.proofs.Common.{sym, ◌∙◌}
use Rattle.book_dump.proofs.SameOpenings.{no_opening, opening_is}
use Rattle.book_dump.proofs.openings.opening_of.Goals as goal

pub returns-in_err-terms : goal.returns-in_err-terms
returns-in_err-terms c = c.from_residual.ensures ∙ no_opening c.args.plain.now (sym c.in_err-terms.ensures)

pub returns : goal.returns
returns c = opening_is c.args.plain.now c.in_ok-terms.terms c.new.result (sym c.in_ok-terms.ensures) c.new.ensures.some c.new.ensures.parts
