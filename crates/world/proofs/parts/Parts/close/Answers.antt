use Rattle.std.proofs.Common.{sym, subst}
use Rattle.terms.specs.declared.sides.Side.{Side}
use Rattle.terms.specs.declared.sides.Side.TheVariants.{A, B}
use Rattle.scenario.specs.declared.events.Event.TheVariants as events
use Rattle.world.specs.Worlds.{World, with_node}
use Rattle.world.specs.Steps.{IsPlayed}
use Rattle.world.proofs.Played.{is_closed}
use Rattle.world.proofs.parts.Parts.close.Goals as goal

pub returns-in-A : goal.returns-in-A
returns-in-A c =
    let i = c.self.inside in
    let w : World = record { a = i.a; b = i.b; chain = i.chain; pool = i.pool.items; released = i.released.items } in
    let new : World = record (with_node A c.close.new.me w) { pool = c.close.new.pool.items } in
    subst (λ (side : Side). IsPlayed c.args.self.now (events.Close side c.args.channel) c.close.result new) (sym c.in-A.is)
    (subst (λ (v : World). IsPlayed v (events.Close A c.args.channel) c.close.result new) c.self.view_is
    (is_closed w A c.args.channel c.close.result c.close.new.me c.close.new.pool.items c.close.ensures))

pub returns-in-B : goal.returns-in-B
returns-in-B c =
    let i = c.self.inside in
    let w : World = record { a = i.a; b = i.b; chain = i.chain; pool = i.pool.items; released = i.released.items } in
    let new : World = record (with_node B c.close-in-B.new.me w) { pool = c.close-in-B.new.pool.items } in
    subst (λ (side : Side). IsPlayed c.args.self.now (events.Close side c.args.channel) c.close-in-B.result new) (sym c.in-B.is)
    (subst (λ (v : World). IsPlayed v (events.Close B c.args.channel) c.close-in-B.result new) c.self.view_is
    (is_closed w B c.args.channel c.close-in-B.result c.close-in-B.new.me c.close-in-B.new.pool.items c.close-in-B.ensures))
