use Rattle.running.proofs.Playing.{gives_back}
use Rattle.running.proofs.channel_thread.play_channel.Goals as goal

pub returns-clause-played : goal.returns-clause-played
returns-clause-played g c =
    let back = c.give_back.ensures in
    gives_back c.args.events.now c.args.mine c.play_all.new.channel_thread c.in_ok-counts.counts c.give_back.result back.counts back.a back.b c.in_ok-counts.ensures.plays
