use Rattle.std.proofs.Common.{refl, arith}
use Rattle.running.specs.Playing.{sum_of}
use Rattle.running.proofs.Playing.{played_first, played_next, all_played}
use Rattle.running.proofs.channel_thread.play_all.Goals as goal

pub loop-index-init : goal.loop-index-init
loop-index-init g c = record { channel_thread = c.requires; few = omega arith; plays = played_first c.args.events.now c.args.channel_thread.now }

pub loop-index-preserved : goal.loop-index-preserved
loop-index-preserved g c =
    let was = c.loop-index.invariant in
    let is = c.in_ok-more.ensures in
    record {
      channel_thread = is.channel_thread;
      few = omega (arith, was.few, is.few);
      plays = played_next c.args.events.now c.loop-index.index _ _ c.args.channel_thread.now c.loop-index.channel_thread c.play_event.new.channel_thread c.loop-index.counts c.in_ok-more.more (sum_of c.loop-index.counts c.in_ok-more.more)
          (omega arith) refl is.channel is.plays refl was.plays;
    }

pub returns-clause-plays : goal.returns-clause-plays
returns-clause-plays g c = all_played c.args.events.now c.loop-index.index c.args.channel_thread.now c.loop-index.channel_thread c.loop-index.counts (omega arith) c.loop-index.invariant.plays
