-- Threads that make no call.
use Rattle.std.proofs.Common.{refl, ◌∙◌}
use Rattle.board.specs.declared.board.Board.{Board}
use Rattle.board.specs.declared.board.Seat.{Seat as Place}
use Rattle.board.specs.Seats as at_board
use Rattle.desk.specs.declared.desk.Desk.{Desk}
use Rattle.desk.specs.declared.desk.Seat.{Seat}
use Rattle.desk.specs.Histories.{GoesOn}
use Rattle.desk.specs.Seats.{IsSeatOf, HasSameCalls, last_in}
use Rattle.desk.proofs.Parts.{goes_on_same, goes_on_more}
use Rattle.running.specs.declared.shared.SideState.{SideState}
use Rattle.running.specs.declared.shared.SharedState.{SharedState}
use Rattle.running.specs.declared.watching.Watcher.{Watcher}
use Rattle.running.specs.declared.chain_thread.ChainThread.{ChainThread}
use Rattle.running.specs.Threads.{IsWatcher, GoesOnWatching, IsChainThread, IsNewChainThread, GoesOnPlaying}
use Rattle.running.specs.Homes.{IsHandedBack}

pub same_calls : (desk : Desk) (s : Seat) → IsSeatOf desk s → HasSameCalls desk s s
same_calls desk s is = record { seat_of = is; number = refl; opening = refl; place = refl; heard = refl; calls = refl }

pub still_same : (desk : Desk) (r s t : Seat) → HasSameCalls desk r s → HasSameCalls desk s t → HasSameCalls desk r t
still_same desk r s t one two = record {
  seat_of = two.seat_of;
  number = two.number ∙ one.number;
  opening = two.opening ∙ one.opening;
  place = two.place ∙ one.place;
  heard = two.heard ∙ one.heard;
  calls = two.calls ∙ one.calls;
}

-- ---- watchers

pub watches_on : (side : SideState) (board : Board) (w : Watcher) → IsWatcher side board w → GoesOnWatching side board w w
watches_on side board w is = record { seat = same_calls side.desk w.seat is.seat; board_seat = is.board_seat; pass = is.pass }

pub is_watcher : (side : SideState) (board : Board) (v w : Watcher) → GoesOnWatching side board v w → IsWatcher side board w
is_watcher side board v w on = record { seat = on.seat.seat_of; board_seat = on.board_seat; pass = on.pass }

pub still_watches : (side : SideState) (board : Board) (u v w : Watcher) → GoesOnWatching side board u v → GoesOnWatching side board v w → GoesOnWatching side board u w
still_watches side board u v w one two = record { seat = still_same side.desk u.seat v.seat w.seat one.seat two.seat; board_seat = two.board_seat; pass = two.pass }

-- ---- the thread that plays the events of the chain

pub plays_on : (shared : SharedState) (p : ChainThread) → IsChainThread shared p → GoesOnPlaying shared p p
plays_on shared p is = record {
  a = same_calls shared.a.desk p.a is.a;
  b = same_calls shared.b.desk p.b is.b;
  since_a = goes_on_same (last_in p.a);
  since_b = goes_on_same (last_in p.b);
  board_seat = is.board_seat;
}

-- one of its seats goes on, or its seat at the board
pub plays_by_a : (shared : SharedState) (p : ChainThread) (s : Seat) → IsChainThread shared p → HasSameCalls shared.a.desk p.a s → GoesOn (last_in p.a) (last_in s) → GoesOnPlaying shared p (record p { a = s })
plays_by_a shared p s is same since = record { a = same; b = same_calls shared.b.desk p.b is.b; since_a = since; since_b = goes_on_same (last_in p.b); board_seat = is.board_seat }

pub plays_by_b : (shared : SharedState) (p : ChainThread) (s : Seat) → IsChainThread shared p → HasSameCalls shared.b.desk p.b s → GoesOn (last_in p.b) (last_in s) → GoesOnPlaying shared p (record p { b = s })
plays_by_b shared p s is same since = record { a = same_calls shared.a.desk p.a is.a; b = same; since_a = goes_on_same (last_in p.a); since_b = since; board_seat = is.board_seat }

pub plays_at : (shared : SharedState) (p : ChainThread) (board_seat : Place) → IsChainThread shared p → at_board.IsSeatOf shared.board board_seat → GoesOnPlaying shared p (record p { board_seat = board_seat })
plays_at shared p board_seat is at = record {
  a = same_calls shared.a.desk p.a is.a;
  b = same_calls shared.b.desk p.b is.b;
  since_a = goes_on_same (last_in p.a);
  since_b = goes_on_same (last_in p.b);
  board_seat = at;
}

pub is_chain_thread : (shared : SharedState) (p q : ChainThread) → GoesOnPlaying shared p q → IsChainThread shared q
is_chain_thread shared p q on = record { a = on.a.seat_of; b = on.b.seat_of; board_seat = on.board_seat }

pub still_plays : (shared : SharedState) (p q r : ChainThread) → GoesOnPlaying shared p q → GoesOnPlaying shared q r → GoesOnPlaying shared p r
still_plays shared p q r one two = record {
  a = still_same shared.a.desk p.a q.a r.a one.a two.a;
  b = still_same shared.b.desk p.b q.b r.b one.b two.b;
  since_a = goes_on_more (last_in p.a) (last_in q.a) (last_in r.a) one.since_a two.since_a;
  since_b = goes_on_more (last_in p.b) (last_in q.b) (last_in r.b) one.since_b two.since_b;
  board_seat = two.board_seat;
}

-- its seats after it, which made no call
pub handed_back : (shared : SharedState) (p q : ChainThread) → IsNewChainThread shared p → GoesOnPlaying shared p q → IsHandedBack shared q
handed_back shared p q new on = record {
  a = record { lone = record { seat_of = on.a.seat_of; heard = on.a.heard ∙ new.a.heard }; calls = on.a.calls ∙ new.a.calls };
  b = record { lone = record { seat_of = on.b.seat_of; heard = on.b.heard ∙ new.b.heard }; calls = on.b.calls ∙ new.b.calls };
}
