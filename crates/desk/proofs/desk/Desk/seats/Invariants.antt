use Rattle.std.proofs.Common.{◌≡◌, ◌+◌, ◌≤◌}
use Rattle.crossbeam_channel.specs.Claims.{view}
use Rattle.std.specs.Vec.{vec_capacity}
use Rattle.desk.specs.Rule.{last_view}
use Rattle.desk.specs.Seats.{IsPassOf, AreSeats}
use Rattle.desk.proofs.desk.Desk.seats.Given as goal

abbrev pub invariant-loop-k : goal.invariant-loop-k
invariant-loop-k l = record {
  pass : IsPassOf l.self l.pass;
  view_is : view l.pass ≡ last_view (l.first + l.k) (view l.initial.pass).opening;
  seats : AreSeats l.self (view l.initial.pass).opening l.first l.k l.list.items;
  room : l.count ≤ vec_capacity l.list;
}
