use Rattle.std.proofs.Common.{rules}
use Rattle.std.proofs.lemmas.List.Sorted.{answers_always}
use Rattle.commit.specs.Order.{stands_before}
use Rattle.commit.proofs.Ordered.{weak, by_sorting}
use Rattle.commit.proofs.ordering.put_in_order.Goals as goal

pub returns : goal.returns
returns c = by_sorting _ _ (c.in_ok-sort_by.ensures.sorted stands_before weak (answers_always _ _ _ (λ f a r q k. search rules))) (c.in_ok-sort_by.ensures.stable stands_before weak (answers_always _ _ _ (λ f a r q k. search rules)))
