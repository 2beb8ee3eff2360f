use Rattle.std.proofs.Common.{sym, ap, option_map, eq-eqb}
use Rattle.chain.specs.Indexing.{noted, indexed_coin}
use Rattle.chain.proofs.Noting.{noted_less, taken_away}
use Rattle.chain.proofs.coin_map.forget_output.Goals as goal

pub returns-then-coin-height : goal.returns-then-coin-height
returns-then-coin-height c =
    taken_away (noted c.args.coins.now) (noted c.remove.new.self) c.args.outpoint.now c.args.height (indexed_coin c.in-Some.coin.now) (ap (option_map indexed_coin) (sym c.in-Some.ensures.value)) (eq-eqb _ _ c.if-coin-height.true) (noted_less c.args.coins.now c.remove.new.self c.args.outpoint.now c.remove.ensures.updates.0)
