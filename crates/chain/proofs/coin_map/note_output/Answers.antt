use Rattle.std.proofs.Common.{sym, ap, ◌∙◌, false}
use Rattle.tx.specs.Parts.{Output}
use Rattle.chain.specs.Blocks.{Coin}
use Rattle.chain.specs.Indexing.{noted}
use Rattle.chain.proofs.Noting.{noted_with, none_noted, some_noted, one_more, one_already}
use Rattle.chain.proofs.coin_map.note_output.Goals as goal

pub returns-then-contains_key-clause-ok : goal.returns-then-contains_key-clause-ok
returns-then-contains_key-clause-ok c =
    one_already (noted c.args.coins.now) (record { outpoint = c.args.outpoint; output = c.args.output.now; height = c.args.height }) (some_noted c.args.coins.now c.args.outpoint (sym c.contains_key.ensures ∙ c.if-contains_key.true))

pub returns-clause-ok : goal.returns-clause-ok
returns-clause-ok c =
    one_more (noted c.args.coins.now) (noted c.insert.new.self) (record { outpoint = c.args.outpoint; output = c.args.output.now; height = c.args.height }) _
    (none_noted c.args.coins.now c.args.outpoint (sym c.contains_key.ensures ∙ c.if-contains_key.false))
    (ap (λ (o : Output). let x : Coin = record { output = o; height = c.args.height; spent = false } in x) c.in_ok-copy.ensures)
    (noted_with c.args.coins.now c.insert.new.self c.args.outpoint _ c.in_ok-insert.ensures.updates.0)
