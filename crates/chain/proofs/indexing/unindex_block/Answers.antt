use Rattle.std.proofs.Common.{◌≡◌, sym, ap, ◌∙◌, ◌∷◌, arith}
use Rattle.chain.specs.Blocks.{Contents}
use Rattle.chain.proofs.indexing.unindex_block.Goals as goal

pub loop-confirmed-preserved : goal.loop-confirmed-preserved
loop-confirmed-preserved c =
    let granted : c.pop.new.self.granted ≡ c.args.block.granted = sym (ap (λ (b : Contents). b.granted) c.in-Some.ensures) ∙ c.loop-confirmed.invariant.granted in
    record {
      granted = granted;
      rest = λ older at none i.
          c.unindex_transaction.ensures (c.pop.new.self ∷ older) (granted ∙ none) (at ∙ omega arith)
          (rw c.in-Some.ensures at (c.loop-confirmed.invariant.rest older at none i));
    }
