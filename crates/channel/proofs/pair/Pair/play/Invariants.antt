use Rattle.std.proofs.Common.{◌≡◌, ◌≤◌, drop, length, vec_len, vec_capacity}
use Rattle.channel.specs.Tokens.{peer_tokens}
use Rattle.channel.proofs.Pairing.{IsLeft}
use Rattle.channel.proofs.pair.Pair.play.Given as goal

abbrev pub invariant-loop-next : goal.invariant-loop-next
invariant-loop-next l = record {
  count : vec_len l.outcomes ≡ l.next-index;
  room : length l.steps ≤ vec_capacity l.outcomes;
  left : IsLeft peer_tokens l.initial.self l.steps l.outcomes.items l.self (drop l.next-index l.steps);
}
