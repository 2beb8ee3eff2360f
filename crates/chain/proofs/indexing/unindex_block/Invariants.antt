use Rattle.std.proofs.Common.{◌≡◌, List, [], ◌∷◌, length, nat_cmp}
use Rattle.std.specs.Cmp.Lexicographic.{slice_cmp}
use Rattle.std.specs.BTreeSet.{contains}
use Rattle.chain.specs.Blocks.{Contents}
use Rattle.chain.specs.Indexing.{noted, IsIndex}
use Rattle.chain.proofs.indexing.unindex_block.Given as goal

abbrev pub invariant-loop-confirmed : goal.invariant-loop-confirmed
invariant-loop-confirmed l =
    record {
      granted : l.block.granted ≡ l.fn.block.granted;
      rest : (older : List Contents) → l.height ≡ length older → l.fn.block.granted ≡ [] → IsIndex (l.fn.block ∷ older) (noted l.fn.coins) (contains (slice_cmp nat_cmp) l.fn.ids) → IsIndex (l.block ∷ older) (noted l.coins) (contains (slice_cmp nat_cmp) l.ids);
    }

abbrev pub decreases-loop-confirmed : goal.decreases-loop-confirmed
decreases-loop-confirmed l = length l.block.transactions
