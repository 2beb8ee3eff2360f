-- The text so far, with what is left, is the whole.
use Rattle.std.proofs.Common.{◌≡◌, ◌++◌, drop}
use Rattle.std.specs.List.{flat_map}
use Rattle.script_words.specs.Texts.{fact_line}
use Rattle.script_words.proofs.listings.push_facts.Given as goal

abbrev pub invariant-loop-stated : goal.invariant-loop-stated
invariant-loop-stated l = l.text.bytes.items ++ flat_map fact_line (drop l.stated-index l.facts) ≡ l.initial.text.bytes.items ++ flat_map fact_line l.facts
