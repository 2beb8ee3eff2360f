use Rattle.std.proofs.Common.{◌≡◌, ap, ◌∙◌, arith}
use Rattle.std.specs.Prelude.{slice_get}
use Rattle.filling.proofs.Standing.{here-at}
use Rattle.filling.proofs.Going.{values, at-index}
use Rattle.filling.proofs.Lacking.{missing-next}
use Rattle.filling.proofs.missing.missing_signatures.Goals as goal

pub add_missing_of-requires : goal.add_missing_of-requires
add_missing_of-requires c = record {
  here = ap (λ t. slice_get t.inputs c.loop-input.input) c.new-cache.ensures
      ∙ here-at (values c.args.claims.now) c.args.tx.now c.loop-input.input c.index-claims-input.result.now c.requires.unsigned (at-index c.args.claims.now c.loop-input.input _ c.index-claims-input.result (omega arith) c.index-claims-input.is);
}

pub loop-input-preserved : goal.loop-input-preserved
loop-input-preserved c =
    missing-next c.args.tx.now c.new-cache.result c.args.claims.now c.loop-input.input _ c.index-claims-input.result c.loop-input.missing.items c.add_missing_of.new.missing.items
    c.new-cache.ensures (omega arith) c.index-claims-input.is c.in_ok-add_missing_of.ensures c.loop-input.invariant
