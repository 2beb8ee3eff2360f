use Rattle.std.proofs.Common.{rules, ◌≡◌, [], ◌∷◌, ◌∙◌, sym, arith, length}
use Rattle.terms.proofs.Revealing.{alone, numbered}
use Rattle.terms.proofs.numbers.number_of.Goals as goal

pub returns : goal.returns
returns c n =
    let one : length c.inputs.result.now ≡ 1 = omega arith in
    let only : c.args.tx.now.inputs ≡ c.input-item.result ∷ [] = sym c.inputs.ensures.value ∙ alone c.input-item.result c.inputs.result.now one c.input-item.is in
    let spent : c.input-item.result.outpoint ≡ c.args.terms.now.funding = search rules in
    rw (c.reveal.ensures, c.lock_time.ensures) (numbered c.args.terms.now c.args.tx.now c.input-item.result n c.mask.result c.mask.ensures.value c.mask.ensures.range only spent)
