use Rattle.std.proofs.Common.{sym, subst}
use Rattle.terms.specs.declared.sides.Side.{Side}
use Rattle.terms.specs.declared.sides.Side.TheVariants.{A, B}
use Rattle.scenario.specs.declared.events.Event.TheVariants as events
use Rattle.world.specs.Worlds.{World, with_nodes}
use Rattle.world.specs.Steps.{IsPlayed}
use Rattle.world.proofs.Played.{is_updated}
use Rattle.world.proofs.parts.Parts.update.Goals as goal

pub returns-in-A : goal.returns-in-A
returns-in-A c =
    let i = c.self.inside in
    let w : World = record { a = i.a; b = i.b; chain = i.chain; pool = i.pool.items; released = i.released.items } in
    let new : World = with_nodes A c.update.new.me c.update.new.peer w in
    subst (λ (side : Side). IsPlayed c.args.self.now (events.Own side c.args.channel c.args.update) c.done.result new) (sym c.in-A.is)
    (subst (λ (v : World). IsPlayed v (events.Own A c.args.channel c.args.update) c.done.result new) c.self.view_is
    (is_updated w A c.args.channel c.args.update c.update.result c.done.result c.update.new.me c.update.new.peer c.done.ensures c.update.ensures.me c.update.ensures.peer))

pub returns-in-B : goal.returns-in-B
returns-in-B c =
    let i = c.self.inside in
    let w : World = record { a = i.a; b = i.b; chain = i.chain; pool = i.pool.items; released = i.released.items } in
    let new : World = with_nodes B c.update-in-B.new.me c.update-in-B.new.peer w in
    subst (λ (side : Side). IsPlayed c.args.self.now (events.Own side c.args.channel c.args.update) c.done-in-B.result new) (sym c.in-B.is)
    (subst (λ (v : World). IsPlayed v (events.Own B c.args.channel c.args.update) c.done-in-B.result new) c.self.view_is
    (is_updated w B c.args.channel c.args.update c.update-in-B.result c.done-in-B.result c.update-in-B.new.me c.update-in-B.new.peer c.done-in-B.ensures c.update-in-B.ensures.me c.update-in-B.ensures.peer))
