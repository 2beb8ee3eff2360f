use Rattle.std.proofs.Common.{List, length, refl, sym, ap, ◌∙◌}
use Rattle.std.specs.Prelude.{slice_get}
use Rattle.std.proofs.lemmas.Option.{slice_get_read}
use Rattle.std.proofs.lemmas.Result.{err_from_is_err_and}
use Rattle.paths.specs.declared.state.Path.{Path}
use Rattle.enforce_c.proofs.Prepared.{not_judged, is_prepared}
use Rattle.enforce_c.proofs.preparing.prepared.Goals as goal

pub returns-in_err-judged : goal.returns-in_err-judged
returns-in_err-judged c =
    let at = ap (λ (ps : List Path). slice_get ps c.args.path) (sym c.paths.ensures.value)
    ∙ slice_get_read c.paths.result.now (length c.paths.result.now) c.args.path c.in-Some.asked.now refl c.in-Some.ensures.lookup.3.0 c.in-Some.ensures.lookup.1 in
    let p = err_from_is_err_and c.from_residual-in_err-judged.result c.from_residual-in_err-judged.ensures.1 in
    rw (p.1, p.2) (not_judged c.args.script.now c.args.path c.args.keys.now c.args.preimages.now c.in_ok-checked.checked c.in-Some.asked.now c.in_ok-lists.lists c.in_err-judged.field-0.0
    c.in_ok-checked.ensures at c.in_ok-lists.ensures c.in_err-judged.ensures)

pub returns : goal.returns
returns c =
    let at = ap (λ (ps : List Path). slice_get ps c.args.path) (sym c.paths.ensures.value)
    ∙ slice_get_read c.paths.result.now (length c.paths.result.now) c.args.path c.in-Some.asked.now refl c.in-Some.ensures.lookup.3.0 c.in-Some.ensures.lookup.1 in
    is_prepared c.args.script.now c.args.path c.args.keys.now c.args.preimages.now c.in_ok-checked.checked c.in-Some.asked.now c.in_ok-lists.lists
    c.in_ok-checked.ensures at c.in_ok-lists.ensures c.in_ok-judged.ensures
