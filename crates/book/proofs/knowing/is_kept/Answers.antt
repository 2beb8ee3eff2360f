use Rattle.std.proofs.Common.{false, length, refl, sym, ap}
use Rattle.std.specs.Prelude.{unwrap_or}
use Rattle.std.proofs.lemmas.Option.{slice_get_past, slice_get_read}
use Rattle.book.proofs.knowing.is_kept.Goals as goal

pub returns-in-Some : goal.returns-in-Some
returns-in-Some c =
    let flags = c.args.flags.now in
    sym (ap (λ o. unwrap_or o false) (slice_get_read flags (length flags) c.args.number c.in-Some.is_kept.now refl c.in-Some.ensures.lookup.3.0 c.in-Some.ensures.lookup.1))

pub returns-in-None : goal.returns-in-None
returns-in-None c = sym (ap (λ o. unwrap_or o false) (slice_get_past c.args.flags.now c.args.number c.in-None.ensures.lookup.3))
