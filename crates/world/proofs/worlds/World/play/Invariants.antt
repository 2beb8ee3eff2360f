use Rattle.std.proofs.Common.{◌≡◌, ◌≤◌, length, take, vec_len, vec_capacity}
use Rattle.world.specs.Theorem.{IsPlay}
use Rattle.world.proofs.worlds.World.play.Given as goal

abbrev pub invariant-loop-event : goal.invariant-loop-event
invariant-loop-event l = record {
  count : vec_len l.outcomes ≡ l.event-index;
  room : length l.events ≤ vec_capacity l.outcomes;
  played : IsPlay l.initial.self (take l.event-index l.events) l.outcomes.items l.self;
}
