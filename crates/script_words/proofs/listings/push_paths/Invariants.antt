-- The text so far, with what is left, is the whole.
use Rattle.std.proofs.Common.{◌≡◌, ◌++◌, drop}
use Rattle.script_words.specs.Texts.{texts_from}
use Rattle.script_words.proofs.listings.push_paths.Given as goal

abbrev pub invariant-loop-k : goal.invariant-loop-k
invariant-loop-k l = l.text.bytes.items ++ texts_from l.k (drop l.k l.paths) ≡ l.initial.text.bytes.items ++ texts_from 0 l.paths
