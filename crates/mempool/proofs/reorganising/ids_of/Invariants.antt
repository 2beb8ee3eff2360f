use Rattle.std.proofs.Common.{◌≡◌, ℕ, List, take}
use Rattle.std.specs.Ordering.{nat_cmp}
use Rattle.std.specs.Cmp.Lexicographic.{slice_cmp}
use Rattle.std.specs.BTreeSet.{contains}
use Rattle.mempool.specs.Mining.{has_waiting}
use Rattle.mempool.proofs.reorganising.ids_of.Given as goal

abbrev pub invariant-loop-tx : goal.invariant-loop-tx
invariant-loop-tx l = (id : List ℕ) → contains (slice_cmp nat_cmp) l.ids id ≡ has_waiting (take l.tx-index l.txs) id
