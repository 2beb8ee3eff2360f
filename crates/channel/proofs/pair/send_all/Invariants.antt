use Rattle.std.proofs.Common.{◌≡◌, ◌+◌, ◌≤◌, ◌++◌, map}
use Rattle.std.specs.Vec.Iter.{into_iter_items, into_iter_len}
use Rattle.std.specs.VecDeque.{deque_len, deque_capacity}
use Rattle.channel.specs.declared.reestablish.Parcel.TheVariants.{Sent}
use Rattle.channel.proofs.pair.send_all.Given as goal

abbrev pub invariant-loop-message : goal.invariant-loop-message
invariant-loop-message l = record {
  sent : l.to_peer.items ++ map Sent (into_iter_items l.message-iterator) ≡ l.initial.to_peer.items ++ map Sent l.fn.messages.items;
  room : deque_len l.to_peer + into_iter_len l.message-iterator ≤ deque_capacity l.to_peer;
}
