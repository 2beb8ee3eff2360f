use Rattle.std.proofs.Common.{sym, subst}
use Rattle.terms.specs.declared.sides.Side.{Side}
use Rattle.terms.specs.declared.sides.Side.TheVariants.{A, B}
use Rattle.scenario.specs.declared.events.Event.TheVariants as events
use Rattle.world.specs.Worlds.{World, with_node}
use Rattle.world.specs.Steps.{IsPlayed}
use Rattle.world.proofs.Played.{is_taken}
use Rattle.world.proofs.parts.Parts.take.Goals as goal

pub returns-in-A : goal.returns-in-A
returns-in-A c =
    let i = c.self.inside in
    let w : World = record { a = i.a; b = i.b; chain = i.chain; pool = i.pool.items; released = i.released.items } in
    let new : World = with_node A c.take.new.me w in
    subst (λ (side : Side). IsPlayed c.args.self.now (events.Take side c.args.count) c.done.result new) (sym c.in-A.is)
    (subst (λ (v : World). IsPlayed v (events.Take A c.args.count) c.done.result new) c.self.view_is
    (is_taken w A c.args.count c.take.result c.done.result c.take.new.me c.done.ensures c.take.ensures))

pub returns-in-B : goal.returns-in-B
returns-in-B c =
    let i = c.self.inside in
    let w : World = record { a = i.a; b = i.b; chain = i.chain; pool = i.pool.items; released = i.released.items } in
    let new : World = with_node B c.take-in-B.new.me w in
    subst (λ (side : Side). IsPlayed c.args.self.now (events.Take side c.args.count) c.done-in-B.result new) (sym c.in-B.is)
    (subst (λ (v : World). IsPlayed v (events.Take B c.args.count) c.done-in-B.result new) c.self.view_is
    (is_taken w B c.args.count c.take-in-B.result c.done-in-B.result c.take-in-B.new.me c.done-in-B.ensures c.take-in-B.ensures))
