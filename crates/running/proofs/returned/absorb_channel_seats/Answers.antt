use Rattle.std.proofs.Common.{rules, ◌≡◌, ◌∷◌, [], All, ap, subst, arith}
use Rattle.std.specs.Vec.Iter.{into_iter_items}
use Rattle.std.proofs.lemmas.List.{nil_from_length}
use Rattle.std.proofs.lemmas.List.Elements.{All-tail}
use Rattle.running.specs.Homes.{IsLonePair, channel_seats_a, channel_seats_b}
use Rattle.running.proofs.Homing.{taking_next, taking_done}
use Rattle.running.proofs.returned.absorb_channel_seats.Goals as goal

pub loop-channel-preserved : goal.loop-channel-preserved
loop-channel-preserved c =
    let shared = c.args.shared.now in
    let left = into_iter_items c.next.new.self in
    let e : into_iter_items c.loop-channel.channel-iterator ≡ c.in-Some.channel ∷ left = search rules in
    let was = c.loop-channel.invariant in
    record {
      lone = All-tail (IsLonePair shared) c.in-Some.channel left (subst (All (IsLonePair shared)) e was.lone);
      a = taking_next shared.a.desk c.args.closing_seats.now.a c.loop-channel.closing_seats.a c.absorb.new.seat c.in-Some.channel.a (channel_seats_a c.args.channels.items) (channel_seats_a (into_iter_items c.loop-channel.channel-iterator)) (channel_seats_a left) (ap channel_seats_a e)
          was.a c.absorb.ensures;
      b = taking_next shared.b.desk c.args.closing_seats.now.b c.loop-channel.closing_seats.b c.absorb-in-loop-channel.new.seat c.in-Some.channel.b (channel_seats_b c.args.channels.items) (channel_seats_b (into_iter_items c.loop-channel.channel-iterator)) (channel_seats_b left) (ap channel_seats_b e)
          was.b c.absorb-in-loop-channel.ensures;
    }

pub returns-clause-a : goal.returns-clause-a
returns-clause-a c =
    let rest = into_iter_items c.loop-channel.channel-iterator in
    let e : rest ≡ [] = nil_from_length rest (omega (arith, c.in-None.ensures.steps.0)) in
    taking_done c.args.shared.now.a.desk c.args.closing_seats.now.a c.loop-channel.closing_seats.a (channel_seats_a c.args.channels.items) (channel_seats_a rest) (ap channel_seats_a e) c.loop-channel.invariant.a

pub returns-clause-b : goal.returns-clause-b
returns-clause-b c =
    let rest = into_iter_items c.loop-channel.channel-iterator in
    let e : rest ≡ [] = nil_from_length rest (omega (arith, c.in-None.ensures.steps.0)) in
    taking_done c.args.shared.now.b.desk c.args.closing_seats.now.b c.loop-channel.closing_seats.b (channel_seats_b c.args.channels.items) (channel_seats_b rest) (ap channel_seats_b e) c.loop-channel.invariant.b
