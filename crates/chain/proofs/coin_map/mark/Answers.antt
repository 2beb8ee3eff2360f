use Rattle.std.proofs.Common.{rules, sym, ap, option_map}
use Rattle.chain.specs.Indexing.{noted, indexed_coin}
use Rattle.chain.proofs.Noting.{noted_with, marks_one, marks_none}
use Rattle.chain.specs.declared.coin_map.IndexedCoin.{IndexedCoin}
use Rattle.chain.proofs.coin_map.mark.Goals as goal

pub returns-in-Some : goal.returns-in-Some
returns-in-Some c =
    let after : IndexedCoin = record { output = c.in-Some.coin.now.output; height = c.in-Some.coin.now.height; spent = c.args.spent } in
    marks_one (noted c.args.coins.now) (noted (c.get_mut.follows.lender after)) c.args.outpoint.now c.args.spent (indexed_coin c.in-Some.coin.now) (ap (option_map indexed_coin) (sym c.in-Some.ensures.value))
    (noted_with c.args.coins.now (c.get_mut.follows.lender after) c.args.outpoint.now after ((c.get_mut.follows.holds after).3 (search rules)).0)

pub returns-in_default : goal.returns-in_default
returns-in_default c =
    marks_none (noted c.args.coins.now) (noted c.get_mut.follows.lender-at-none) c.args.outpoint.now c.args.spent (ap (option_map indexed_coin) (sym c.in_default.ensures.value)) (λ q. ap (λ m. noted m q) c.get_mut.follows.holds-at-none)
