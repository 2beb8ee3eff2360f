use Rattle.std.proofs.Common.{sym, ap, ◌∙◌, ◌%◌, ◌^◌, ◌-◌, nat_cmp}
use Rattle.std.specs.Cmp.Lexicographic.{slice_cmp}
use Rattle.std.specs.BTreeSet.{contains}
use Rattle.chain.specs.Blocks.{grants_in}
use Rattle.chain.specs.Indexing.{noted}
use Rattle.chain.proofs.Growing.{counts_on, grants_in_more}
use Rattle.chain.proofs.Indexed.{follows_grant}
use Rattle.chain.proofs.index.IndexStore.add_grant.Goals as goal

pub invariant_of-self-2 : goal.invariant_of-self-2
invariant_of-self-2 c = (
  counts_on c.self.inside.grants (grants_in c.self.inside.blocks) 1 c.self.invariant.0
      ∙ ap (λ n. n % 2 ^ 64) (sym (grants_in_more c.self.inside.blocks c.args.output c.in_default.ensures.some))
      ∙ ap (λ bs. grants_in bs % 2 ^ 64) (sym c.in_default.ensures.ok),
  follows_grant c.self.inside.blocks c.grant.new.self c.args.output (noted c.self.inside.coins) (noted c.note_output.new.coins) (contains (slice_cmp nat_cmp) c.self.inside.ids) c.grant_outpoint-outpoint.result _ c.in_default.ensures.some c.in_default.ensures.ok (c.grant_outpoint-outpoint.ensures (grants_in c.self.inside.blocks) c.self.invariant.0) (ap (λ n. n - 1) c.as_slice.ensures.count) c.in_ok-note_output.ensures.ok c.self.invariant.1,
)
