use Rattle.std.proofs.Common.{◌≡◌, [], drop, sym, ap, ◌∙◌, arith}
use Rattle.chain.specs.Blocks.{paid_in}
use Rattle.chain.specs.Checks.{inputs_refusal}
use Rattle.chain.proofs.Finding.{drop-past}
use Rattle.chain.proofs.Passing.{input_passed}
use Rattle.chain.proofs.Sums.{paid_more}
use Rattle.chain.proofs.checking.check_inputs.Goals as goal

pub loop-index-preserved : goal.loop-index-preserved
loop-index-preserved g c =
    let blocks = (g.S.Store.standing c.args.store.now).blocks in
    let inputs = c.inputs-inputs.result.now in
    let i = c.loop-index.index in
    let x = c.index-inputs-index.result in
    record {
      refused = input_passed blocks c.args.height c.args.tx.now inputs i x _ c.index-inputs-index.is (omega arith) c.in_ok-paid.ensures.answers c.loop-index.invariant.refused;
      paid = paid_more blocks inputs i x c.loop-index.paid _ _ c.index-inputs-index.is (omega arith) c.in_ok-paid.ensures.value c.loop-index.invariant.paid;
      few = omega (arith, c.in_ok-paid.ensures.limit);
    }

pub returns : goal.returns
returns g c =
    let blocks = (g.S.Store.standing c.args.store.now).blocks in
    let inputs = c.inputs-inputs.result.now in
    let none : drop c.loop-index.index inputs ≡ [] = drop-past inputs c.loop-index.index (omega arith) in
    let same = c.inputs-inputs.ensures.value in
    record {
      answers = ap (inputs_refusal blocks c.args.height c.args.tx.now) (sym same) ∙ sym c.loop-index.invariant.refused ∙ ap (inputs_refusal blocks c.args.height c.args.tx.now) none;
      value = omega (arith, c.loop-index.invariant.paid, ap (paid_in blocks) none, ap (paid_in blocks) same);
    }
