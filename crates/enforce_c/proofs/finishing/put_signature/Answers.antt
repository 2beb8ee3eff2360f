use Rattle.std.proofs.Common.{List, length, refl, sym, ap, ◌∙◌}
use Rattle.std.specs.Prelude.{slice_get}
use Rattle.std.proofs.lemmas.Option.{slice_get_past, slice_get_read}
use Rattle.tx.specs.declared.input.TxIn.{TxIn}
use Rattle.tx.specs.Fields.{transaction_with_witness}
use Rattle.enforce_c.proofs.SignedSpends.{put_there, put_nowhere}
use Rattle.enforce_c.proofs.finishing.put_signature.Goals as goal

pub returns-in-None : goal.returns-in-None
returns-in-None c =
    let tx = c.args.tx.now in
    let m = c.args.missing.now in
    let none = ap (λ (xs : List TxIn). slice_get xs m.input) (sym c.inputs.ensures.value) ∙ slice_get_past c.inputs.result.now m.input c.in-None.ensures.lookup.3 in
    ap (λ inputs. record tx { inputs = inputs }) (sym (put_nowhere tx.inputs m.input m.item c.args.signature.now none))

pub returns : goal.returns
returns c =
    let tx = c.args.tx.now in
    let m = c.args.missing.now in
    let xs = c.inputs.result.now in
    let x = c.in-Some.input.now in
    let there = ap (λ (ys : List TxIn). slice_get ys m.input) (sym c.inputs.ensures.value) ∙ slice_get_read xs (length xs) m.input x refl c.in-Some.ensures.lookup.3.0 c.in-Some.ensures.lookup.1 in
    c.set_witness.ensures
    ∙ ap (λ w. transaction_with_witness tx m.input w) c.in_ok-witness-in-Some.ensures
    ∙ ap (λ inputs. record tx { inputs = inputs }) (put_there tx.inputs m.input x m.item c.args.signature.now there)
