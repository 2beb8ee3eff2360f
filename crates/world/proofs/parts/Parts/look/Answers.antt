use Rattle.std.proofs.Common.{sym, subst}
use Rattle.terms.specs.declared.sides.Side.{Side}
use Rattle.terms.specs.declared.sides.Side.TheVariants.{A, B}
use Rattle.scenario.specs.declared.events.Event.TheVariants as events
use Rattle.world.specs.Worlds.{World, with_node}
use Rattle.world.specs.Steps.{IsPlayed}
use Rattle.world.proofs.Played.{is_looked}
use Rattle.world.proofs.parts.Parts.look.Goals as goal

pub returns-in-A : goal.returns-in-A
returns-in-A c =
    let i = c.self.inside in
    let w : World = record { a = i.a; b = i.b; chain = i.chain; pool = i.pool.items; released = i.released.items } in
    let new : World = with_node A c.look.new.me w in
    subst (λ (side : Side). IsPlayed c.args.self.now (events.Look side) c.looked.result new) (sym c.in-A.is)
    (subst (λ (v : World). IsPlayed v (events.Look A) c.looked.result new) c.self.view_is
    (is_looked w A c.look.result c.looked.result c.look.new.me c.looked.ensures c.look.ensures.looks c.look.ensures.memory c.look.ensures.err))

pub returns-in-B : goal.returns-in-B
returns-in-B c =
    let i = c.self.inside in
    let w : World = record { a = i.a; b = i.b; chain = i.chain; pool = i.pool.items; released = i.released.items } in
    let new : World = with_node B c.look-in-B.new.me w in
    subst (λ (side : Side). IsPlayed c.args.self.now (events.Look side) c.looked-in-B.result new) (sym c.in-B.is)
    (subst (λ (v : World). IsPlayed v (events.Look B) c.looked-in-B.result new) c.self.view_is
    (is_looked w B c.look-in-B.result c.looked-in-B.result c.look-in-B.new.me c.looked-in-B.ensures c.look-in-B.ensures.looks c.look-in-B.ensures.memory c.look-in-B.ensures.err))
