use Rattle.std.proofs.Common.{◌≡◌, ◌≤◌, length, take, vec_len, vec_capacity}
use Rattle.chain.specs.Replays.{Replays}
use Rattle.chain.proofs.commands.replay_commands.Given as goal

abbrev pub invariant-loop-command : goal.invariant-loop-command
invariant-loop-command g l = record {
  count : vec_len l.answers ≡ l.command-index;
  room : length l.commands ≤ vec_capacity l.answers;
  replayed : Replays (g.C.Coins.standing l.fn.chain) (take l.command-index l.commands) l.answers.items (g.C.Coins.standing l.chain);
}
