use Rattle.std.proofs.Common.{◌≡◌, List, Option, Some, length, slice_get, refl, sym, ap, subst, ◌∙◌}
use Rattle.std.proofs.lemmas.Option.{slice_get_read}
use Rattle.std.proofs.lemmas.Result.{err_from_is_err_and}
use Rattle.tx.specs.declared.input.TxIn.{TxIn}
use Rattle.chain.specs.declared.errors.ChainError.{ChainError}
use Rattle.chain.specs.Refusals.{UnlessMemory}
use Rattle.chain.proofs.Passing.{asked}
use Rattle.chain.proofs.checking.check_input.Goals as goal

pub returns : goal.returns
returns g c =
    let blocks = (g.S.Store.standing c.args.store.now).blocks in
    let inputs = c.inputs.result.now in
    let there : slice_get c.args.tx.now.inputs c.args.index ≡ Some c.in-Some.input.now =
    ap (λ (is : List TxIn). slice_get is c.args.index) (sym c.inputs.ensures.value)
    ∙ slice_get_read inputs (length inputs) c.args.index c.in-Some.input.now refl c.in-Some.ensures.lookup.3.0 c.in-Some.ensures.lookup.1 in
    sym (asked blocks (length blocks) (length c.blocks-2.result.now) c.args.tx.now _ c.in-Some.input.now there c.blocks-2.ensures.count) ∙ c.in_ok-check_indexed.ensures.answers

pub returns-in_err-check_indexed : goal.returns-in_err-check_indexed
returns-in_err-check_indexed g c =
    let blocks = (g.S.Store.standing c.args.store.now).blocks in
    let inputs = c.inputs.result.now in
    let there : slice_get c.args.tx.now.inputs c.args.index ≡ Some c.in-Some.input.now =
    ap (λ (is : List TxIn). slice_get is c.args.index) (sym c.inputs.ensures.value)
    ∙ slice_get_read inputs (length inputs) c.args.index c.in-Some.input.now refl c.in-Some.ensures.lookup.3.0 c.in-Some.ensures.lookup.1 in
    let same = asked blocks (length blocks) (length c.blocks-2.result.now) c.args.tx.now _ c.in-Some.input.now there c.blocks-2.ensures.count in
    let p = err_from_is_err_and c.from_residual.result c.from_residual.ensures.1 in
    rw (p.1, p.2) (subst (λ (r : Option ChainError). UnlessMemory c.in_err-check_indexed.field-0.0 (r ≡ Some c.in_err-check_indexed.field-0.0)) same c.in_err-check_indexed.ensures.answers)
