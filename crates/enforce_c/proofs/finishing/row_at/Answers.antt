use Rattle.std.proofs.Common.{length, refl}
use Rattle.std.proofs.lemmas.Option.{slice_get_past, slice_get_read}
use Rattle.enforce_c.proofs.finishing.row_at.Goals as goal

pub returns-in-Some : goal.returns-in-Some
returns-in-Some c = slice_get_read c.args.rows.now (length c.args.rows.now) c.args.index c.in-Some.row.now refl c.in-Some.ensures.lookup.3.0 c.in-Some.ensures.lookup.1

pub returns-in-None : goal.returns-in-None
returns-in-None c = slice_get_past c.args.rows.now c.args.index c.in-None.ensures.lookup.3
