use Rattle.running.proofs.Same.{plays_by_a, plays_by_b}
use Rattle.running.proofs.chain_thread.broadcast_by.Goals as goal

pub returns-in-A-clause-chain_thread : goal.returns-in-A-clause-chain_thread
returns-in-A-clause-chain_thread g c = plays_by_a c.args.shared.now c.args.chain_thread.now c.play_broadcast.new.seat c.requires c.play_broadcast.ensures.seat c.play_broadcast.ensures.since

pub returns-in-B-clause-chain_thread : goal.returns-in-B-clause-chain_thread
returns-in-B-clause-chain_thread g c =
    plays_by_b c.args.shared.now c.args.chain_thread.now c.play_broadcast-in-B.new.seat c.requires c.play_broadcast-in-B.ensures.seat c.play_broadcast-in-B.ensures.since
