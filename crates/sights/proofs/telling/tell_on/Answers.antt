use Rattle.std.proofs.Common.{option_map}
use Rattle.std.specs.BTreeSet.{contains}
use Rattle.chain.specs.Indexing.{outpoint_cmp}
use Rattle.sights.proofs.Claimed.{of_reverse, told_if}
use Rattle.sights.proofs.telling.tell_on.Goals as goal

pub told_all-requires : goal.told_all-requires
told_all-requires c = of_reverse (contains outpoint_cmp c.in_ok-taken.taken) c.args.records.now c.values.result.now c.values.ensures c.in_ok-taken.ensures

pub returns : goal.returns
returns c =
    told_if _ c.args.records.now c.args.known.now c.args.verdict (option_map (λ k. k.now) c.args.commitment) c.in_ok-claims.claims.items c.told_all.result c.requires c.in_ok-claims.ensures c.told_all.ensures
