use Rattle.std.proofs.Common.{sym, ap, ◌∙◌, ◌%◌, ◌^◌, nat_cmp}
use Rattle.std.specs.Cmp.Lexicographic.{slice_cmp}
use Rattle.std.specs.BTreeSet.{contains}
use Rattle.std.specs.List.{each_same}
use Rattle.chain.specs.Blocks.{grants_in}
use Rattle.chain.specs.Indexing.{noted}
use Rattle.chain.proofs.Copying.{same_coins, same_ids}
use Rattle.chain.proofs.Indexed.{same_index}
use Rattle.chain.proofs.index.Index.copy.Goals as goal

pub invariant_of-result : goal.invariant_of-result
invariant_of-result c =
    let s = c.self.inside in (
      c.self.invariant.0 ∙ ap (λ bs. grants_in bs % 2 ^ 64) (sym c.in_ok-copy.ensures),
      rw c.in_ok-copy.ensures
          (same_index s.blocks (noted s.coins) (noted c.in_ok-coins.coins) (contains (slice_cmp nat_cmp) s.ids) (contains (slice_cmp nat_cmp) c.in_ok-ids.ids)
          (λ q. same_coins s.coins c.in_ok-coins.coins q c.in_ok-coins.ensures.cases)
          (λ id. same_ids s.ids c.in_ok-ids.ids _ id (λ x y h. each_same x y h.whole) c.in_ok-ids.ensures.cases)
          c.self.invariant.1),
    )
