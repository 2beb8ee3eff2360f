use Rattle.std.proofs.Common.{sym}
use Rattle.running.proofs.Finding.{finds_replaced, finds_none, finds_block}
use Rattle.running.proofs.watching.look_at.Goals as goal

pub returns-then-follower-round-clause-found : goal.returns-then-follower-round-clause-found
returns-then-follower-round-clause-found c =
    finds_replaced c.args.pool.now c.args.top c.args.follower c.fork_since-fork.result c.round-round.result c.round-round.ensures c.fork_since-fork.ensures c.if-follower-round.true

pub returns-in-Some-clause-found : goal.returns-in-Some-clause-found
returns-in-Some-clause-found c =
    finds_block c.args.pool.now c.args.top c.args.follower c.saturating_add-height.result c.round-round.result c.in-Some.block.now c.read_next.result c.round-round.ensures c.if-follower-round.false
    c.saturating_add-height.ensures (sym c.in-Some.ensures) c.read_next.ensures.next

pub returns-in-None-clause-found : goal.returns-in-None-clause-found
returns-in-None-clause-found c =
    finds_none c.args.pool.now c.args.top c.args.follower c.saturating_add-height.result c.round-round.result c.round-round.ensures c.if-follower-round.false c.saturating_add-height.ensures (sym c.in-None.ensures)
