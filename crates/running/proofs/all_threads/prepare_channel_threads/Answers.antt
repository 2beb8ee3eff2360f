use Rattle.std.proofs.Common.{◌≡◌, ◌++◌, ◌∷◌, [], List, All, sym, ◌∙◌, subst, arith}
use Rattle.std.proofs.lemmas.List.Elements.{All-push}
use Rattle.running.specs.declared.channel_thread.ChannelThread.{ChannelThread}
use Rattle.running.specs.Threads.{IsChannelThread}
use Rattle.running.specs.Playing.{IsFirstChannelThreadIn}
use Rattle.running.proofs.Seating.{channels_more}
use Rattle.running.proofs.all_threads.prepare_channel_threads.Goals as goal

pub loop-channel-preserved : goal.loop-channel-preserved
loop-channel-preserved c =
    let before = c.loop-channel.channel_threads.items in
    let channel_thread : ChannelThread = c.in_ok-prepare_channel_thread.field-0 in
    let pushed : c.push.new.self.items ≡ before ++ channel_thread ∷ [] = c.in_ok-push.ensures.items in
    let is = c.in_ok-prepare_channel_thread.ensures in
    let was = c.loop-channel.invariant in
    record {
      channel_threads = subst (λ (ls : List ChannelThread). All (IsChannelThread c.args.shared.now) ls) (sym pushed) (All-push (IsChannelThread c.args.shared.now) before channel_thread was.channel_threads is.channel_thread.0);
      first = subst (λ (ls : List ChannelThread). All (IsFirstChannelThreadIn c.args.closing_seats.now) ls) (sym pushed) (All-push (IsFirstChannelThreadIn c.args.closing_seats.now) before channel_thread was.first is.channel_thread.2);
      channels = channels_more before c.push.new.self.items c.loop-channel.channel channel_thread pushed was.channels (is.channel_thread.1 ∙ c.from.ensures);
      a = is.a;
      b = is.b;
      a_left = omega (arith, is.a_left, was.a_left);
      b_left = omega (arith, is.b_left, was.b_left);
    }
