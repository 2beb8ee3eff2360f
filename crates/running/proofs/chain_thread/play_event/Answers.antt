use Rattle.running.proofs.Same.{plays_at}
use Rattle.running.proofs.chain_thread.play_event.Goals as goal

pub returns-in-None-clause-chain_thread : goal.returns-in-None-clause-chain_thread
returns-in-None-clause-chain_thread g c = plays_at c.args.shared.now c.args.chain_thread.now c.play_mining.new.board_seat c.requires c.play_mining.ensures.board_seat
