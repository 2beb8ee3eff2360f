use Rattle.std.proofs.Common.{ap, sym, ◌∙◌, Some, below_more}
use Rattle.secrets.proofs.Storing.{differs-tells, same-tells}
use Rattle.secrets.proofs.store.leads_to.Goals as goal

pub returns-then-ne : goal.returns-then-ne
returns-then-ne c = (
  λ t. cc,
  λ holds. absurd (differs-tells c.args.lowest_entries.now c.hash_flipped.result c.loop-b.b c.loop-b-test.true
      (sym c.ne.ensures ∙ c.if-ne.true) (holds c.loop-b.b c.loop-b-test.true ∙ ap Some (sym c.hash_flipped.ensures))),
)

pub loop-b-preserved : goal.loop-b-preserved
loop-b-preserved c =
    below_more _ _ c.loop-b.invariant
    (same-tells c.args.lowest_entries.now c.hash_flipped.result c.loop-b.b c.loop-b-test.true
    (sym c.ne.ensures ∙ c.if-ne.false) ∙ ap Some c.hash_flipped.ensures)
