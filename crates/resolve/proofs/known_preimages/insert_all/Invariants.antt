use Rattle.std.proofs.Common.{◌≡◌, ℕ, List, drop, nat_cmp}
use Rattle.std.specs.Option.{option_or}
use Rattle.std.specs.Cmp.Lexicographic.{slice_cmp}
use Rattle.std.specs.BTreeMap.{get}
use Rattle.resolve.specs.Preimages.{first_of}
use Rattle.resolve.proofs.known_preimages.insert_all.Given as goal

-- what the map has, then what is left, is the whole
abbrev pub invariant-loop-preimage : goal.invariant-loop-preimage
invariant-loop-preimage l = (h : List ℕ) → option_or (get (slice_cmp nat_cmp) l.by_hash h) (first_of (drop l.preimage-index l.more) h) ≡ option_or (get (slice_cmp nat_cmp) l.fn.by_hash h) (first_of l.more h)
