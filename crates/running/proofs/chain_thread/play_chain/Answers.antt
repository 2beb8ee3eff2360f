use Rattle.std.proofs.Common.{refl, arith}
use Rattle.desk.specs.Seats.{last_in}
use Rattle.running.proofs.Same.{plays_on, still_plays}
use Rattle.running.proofs.Outcomes.{chain_first, chain_next, chain_done}
use Rattle.running.proofs.chain_thread.play_chain.Goals as goal

pub loop-index-init : goal.loop-index-init
loop-index-init g c =
    let p = c.args.chain_thread.now in
    record { chain_thread = plays_on c.args.shared.now p c.requires; plays = chain_first c.args.events.now (last_in p.a) (last_in p.b) c.new-outcomes.result.items c.new-outcomes.ensures.items }

pub loop-index-preserved : goal.loop-index-preserved
loop-index-preserved g c =
    let first = c.args.chain_thread.now in
    let before = c.loop-index.chain_thread in
    let after = c.play_event.new.chain_thread in
    let was = c.loop-index.invariant in
    let on = c.play_event.ensures.chain_thread in
    record {
      chain_thread = still_plays c.args.shared.now first before after was.chain_thread on;
      plays = chain_next c.args.events.now c.loop-index.index _ _ (last_in first.a) (last_in first.b) (last_in before.a) (last_in before.b) (last_in after.a) (last_in after.b) c.in_ok-outcome.outcome c.loop-index.outcomes.items _
          (omega arith) refl on.since_a on.since_b c.in_ok-outcome.ensures.outcome c.in_ok-push.ensures.items was.plays;
    }

pub returns-clause-plays : goal.returns-clause-plays
returns-clause-plays g c =
    let first = c.args.chain_thread.now in
    let last = c.loop-index.chain_thread in
    chain_done c.args.events.now c.loop-index.index (last_in first.a) (last_in first.b) (last_in last.a) (last_in last.b) c.loop-index.outcomes.items (omega arith) c.loop-index.invariant.plays
