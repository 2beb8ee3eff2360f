use Rattle.std.proofs.Common.{Bool, ◌&&◌, ◌==◌, List, length, sym, ap, ◌∙◌}
use Rattle.strictness.specs.declared.branches.StrictEnd.{StrictEnd}
use Rattle.strictness.specs.Exact.{ends_as_in_consensus}
use Rattle.strictness.proofs.Steps.{nothing_left, carried_on}
use Rattle.strictness.proofs.branches.walk.Goals.{then-is_refused, else-is_refused}
use Rattle.strictness.proofs.branches.walk.Goals as goal

pub loop-turn-preserved : goal.loop-turn-preserved
loop-turn-preserved c = carried_on c.args.ops.now c.in-Some.branch c.loop-turn.waiting c.pop.new.self c.follow.new.waiting (ends_as_in_consensus c.args.ops.now) (length c.loop-turn.strict.items == 0) c.loop-turn.is_refused (length c.follow.new.strict.items == 0) c.in_ok-ends.ends c.if-is_refused.is_refused
    c.loop-turn.invariant c.in-Some.ensures c.in_ok-ends.ensures (elim c.if-is_refused.branch [
      | then-is_refused w ↦ w.is_refused-is ∙ ap (λ (t : Bool). t && c.in_ok-ends.ends) (sym w.if-is_refused.true)
      | else-is_refused w ↦ w.is_refused-is ∙ w.if-is_refused.false ∙ ap (λ (t : Bool). t && c.in_ok-ends.ends) (sym w.if-is_refused.false)
    ])

pub returns : goal.returns
returns c = λ t. nothing_left c.args.ops.now c.loop-turn.waiting (length c.loop-turn.strict.items == 0) c.loop-turn.is_refused (ends_as_in_consensus c.args.ops.now) c.loop-turn.invariant
    (ap (λ (l : List StrictEnd). c.loop-turn.is_refused && length l == 0 && (length c.loop-turn.waiting == 0)) (sym c.as_slice.ensures.value) ∙ sym c.has_ended.ensures ∙ t)
