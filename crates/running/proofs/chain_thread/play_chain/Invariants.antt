use Rattle.desk.specs.Seats.{last_in}
use Rattle.running.specs.Threads.{GoesOnPlaying}
use Rattle.running.proofs.Outcomes.{PlaysOnFrom}
use Rattle.running.proofs.chain_thread.play_chain.Given as goal

abbrev pub invariant-loop-index : goal.invariant-loop-index
invariant-loop-index g l = record {
  chain_thread : GoesOnPlaying l.shared l.initial.chain_thread l.chain_thread;
  plays : PlaysOnFrom l.events l.index (last_in l.initial.chain_thread.a) (last_in l.initial.chain_thread.b) (last_in l.chain_thread.a) (last_in l.chain_thread.b) l.outcomes.items;
}
