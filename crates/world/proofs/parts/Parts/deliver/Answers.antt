use Rattle.std.proofs.Common.{sym, subst}
use Rattle.terms.specs.declared.sides.Side.{Side}
use Rattle.terms.specs.declared.sides.Side.TheVariants.{A, B}
use Rattle.scenario.specs.declared.events.Event.TheVariants as events
use Rattle.world.specs.Worlds.{World, with_nodes}
use Rattle.world.specs.Steps.{IsPlayed}
use Rattle.world.proofs.Played.{is_received}
use Rattle.world.proofs.parts.Parts.deliver.Goals as goal

pub returns-in-A : goal.returns-in-A
returns-in-A c =
    let i = c.self.inside in
    let w : World = record { a = i.a; b = i.b; chain = i.chain; pool = i.pool.items; released = i.released.items } in
    let new : World = with_nodes A c.deliver.new.me c.deliver.new.peer w in
    subst (λ (side : Side). IsPlayed c.args.self.now (events.Deliver side c.args.channel) c.done.result new) (sym c.in-A.is)
    (subst (λ (v : World). IsPlayed v (events.Deliver A c.args.channel) c.done.result new) c.self.view_is
    (is_received w A c.args.channel c.deliver.result c.done.result c.deliver.new.me c.deliver.new.peer c.done.ensures c.deliver.ensures.me c.deliver.ensures.peer))

pub returns-in-B : goal.returns-in-B
returns-in-B c =
    let i = c.self.inside in
    let w : World = record { a = i.a; b = i.b; chain = i.chain; pool = i.pool.items; released = i.released.items } in
    let new : World = with_nodes B c.deliver-in-B.new.me c.deliver-in-B.new.peer w in
    subst (λ (side : Side). IsPlayed c.args.self.now (events.Deliver side c.args.channel) c.done-in-B.result new) (sym c.in-B.is)
    (subst (λ (v : World). IsPlayed v (events.Deliver B c.args.channel) c.done-in-B.result new) c.self.view_is
    (is_received w B c.args.channel c.deliver-in-B.result c.done-in-B.result c.deliver-in-B.new.me c.deliver-in-B.new.peer c.done-in-B.ensures c.deliver-in-B.ensures.me c.deliver-in-B.ensures.peer))
