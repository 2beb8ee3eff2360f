use Rattle.std.proofs.Common.{[], ◌∷◌, ◌++◌, map}
use Rattle.running.specs.Threads.{seat_in}
use Rattle.running.specs.Homes.{channel_seats_a, channel_seats_b}
use Rattle.running.proofs.Homing.{takes_both}
use Rattle.running.proofs.returned.absorb_all_seats.Goals as goal

pub returns-clause-a : goal.returns-clause-a
returns-clause-a c =
    let desk = c.args.shared.now.a.desk in
    let r = c.args.returned in
    let side_threads = map seat_in r.side_threads_a.items in
    let chain_thread = r.played.chain_thread.a ∷ [] in
    let channels = c.absorb_channel_seats.new.closing_seats.a in
    let last = c.absorb_chain_seats.new.closing_seats.a in
    takes_both desk c.args.closing_seats.now.a channels last (channel_seats_a r.played.channels.items) (side_threads ++ chain_thread) c.absorb_channel_seats.ensures.a
    (takes_both desk channels c.absorb_side_seats.new.closing_seat last side_threads chain_thread c.absorb_side_seats.ensures c.absorb_chain_seats.ensures.a)

pub returns-clause-b : goal.returns-clause-b
returns-clause-b c =
    let desk = c.args.shared.now.b.desk in
    let r = c.args.returned in
    let side_threads = map seat_in r.side_threads_b.items in
    let chain_thread = r.played.chain_thread.b ∷ [] in
    let channels = c.absorb_channel_seats.new.closing_seats.b in
    let last = c.absorb_chain_seats.new.closing_seats.b in
    takes_both desk c.args.closing_seats.now.b channels last (channel_seats_b r.played.channels.items) (side_threads ++ chain_thread) c.absorb_channel_seats.ensures.b
    (takes_both desk channels c.absorb_side_seats-2.new.closing_seat last side_threads chain_thread c.absorb_side_seats-2.ensures c.absorb_chain_seats.ensures.b)
