use Rattle.std.proofs.Common.{ap, ◌∙◌, option_map}
use Rattle.chain.specs.Blocks.{Standing, is_named}
use Rattle.chain.specs.Indexing.{indexed_coin}
use Rattle.chain.proofs.Indexed.{spent_named, none_spent}
use Rattle.chain.proofs.index.IndexStore.is_named.Goals as goal

pub returns-in-Some : goal.returns-in-Some
returns-in-Some c =
    spent_named c.self.inside.blocks c.args.outpoint.now (indexed_coin c.in-Some.coin.now) (ap (option_map indexed_coin) c.in-Some.ensures.value ∙ c.self.invariant.1.coins_are c.args.outpoint.now)
    ∙ ap (λ (s : Standing). is_named s.blocks c.args.outpoint.now) c.self.view_is

pub returns-in-None : goal.returns-in-None
returns-in-None c =
    none_spent c.self.inside.blocks c.args.outpoint.now c.self.invariant.1.checked (ap (option_map indexed_coin) c.in-None.ensures.value ∙ c.self.invariant.1.coins_are c.args.outpoint.now)
    ∙ ap (λ (s : Standing). is_named s.blocks c.args.outpoint.now) c.self.view_is
