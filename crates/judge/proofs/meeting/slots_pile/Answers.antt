use Rattle.std.proofs.Common.{reverse, ◌∙◌}
use Rattle.facts.specs.Meaning.{slot_of}
use Rattle.judge.proofs.Piles.{one_more}
use Rattle.judge.proofs.meeting.slots_pile.Goals as goal

pub loop-slot-preserved : goal.loop-slot-preserved
loop-slot-preserved c =
    one_more (slot_of (reverse c.args.items.now)) _ _ c.in-Some.slot.now _ _ _ _ c.in-Some.ensures.cases.0 (c.in_ok-from_slice.ensures ∙ c.item.ensures) c.in_ok-push.ensures.pushed c.loop-slot.invariant
