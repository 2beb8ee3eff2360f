use Rattle.std.proofs.Common.{◌≡◌, ℕ, List, drop, nat_cmp}
use Rattle.std.specs.Cmp.Lexicographic.{slice_cmp}
use Rattle.std.specs.BTreeMap.{get}
use Rattle.std.specs.Option.{option_or}
use Rattle.filling.specs.Filling.{preimage_of}
use Rattle.filling.proofs.preimages.indexed.Given as goal

abbrev pub invariant-loop-preimage : goal.invariant-loop-preimage
invariant-loop-preimage l = (h : List ℕ) → option_or (preimage_of (drop l.preimage-index l.given) h) (get (slice_cmp nat_cmp) l.by_hash h) ≡ preimage_of l.given h
