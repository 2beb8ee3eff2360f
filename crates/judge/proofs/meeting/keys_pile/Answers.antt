use Rattle.std.proofs.Common.{reverse, ◌∙◌}
use Rattle.facts.specs.Meaning.{key_of}
use Rattle.judge.proofs.Piles.{one_more}
use Rattle.judge.proofs.meeting.keys_pile.Goals as goal

pub loop-key-preserved : goal.loop-key-preserved
loop-key-preserved c =
    one_more (key_of (reverse c.args.items.now)) _ _ c.in-Some.key.now _ _ _ _ c.in-Some.ensures.cases.0 (c.in_ok-from_slice.ensures ∙ c.key_bytes.ensures) c.in_ok-push.ensures.pushed c.loop-key.invariant
