use Rattle.std.proofs.Common.{sym, subst}
use Rattle.terms.specs.declared.sides.Side.{Side}
use Rattle.terms.specs.declared.sides.Side.TheVariants.{A, B}
use Rattle.scenario.specs.declared.events.Event.TheVariants as events
use Rattle.world.specs.Worlds.{World, with_node}
use Rattle.world.specs.Steps.{IsPlayed}
use Rattle.world.proofs.Played.{is_released}
use Rattle.world.proofs.parts.Parts.release.Goals as goal

pub returns-in-A : goal.returns-in-A
returns-in-A c =
    let i = c.self.inside in
    let w : World = record { a = i.a; b = i.b; chain = i.chain; pool = i.pool.items; released = i.released.items } in
    let new : World = record (with_node A c.release.new.me w) { pool = c.release.new.pool.items; released = c.release.new.released.items } in
    subst (λ (side : Side). IsPlayed c.args.self.now (events.Release side c.args.count) c.release.result new) (sym c.in-A.is)
    (subst (λ (v : World). IsPlayed v (events.Release A c.args.count) c.release.result new) c.self.view_is
    (is_released w A c.args.count c.release.result c.release.new.me c.release.new.pool.items c.release.new.released.items c.release.ensures))

pub returns-in-B : goal.returns-in-B
returns-in-B c =
    let i = c.self.inside in
    let w : World = record { a = i.a; b = i.b; chain = i.chain; pool = i.pool.items; released = i.released.items } in
    let new : World = record (with_node B c.release-in-B.new.me w) { pool = c.release-in-B.new.pool.items; released = c.release-in-B.new.released.items } in
    subst (λ (side : Side). IsPlayed c.args.self.now (events.Release side c.args.count) c.release-in-B.result new) (sym c.in-B.is)
    (subst (λ (v : World). IsPlayed v (events.Release B c.args.count) c.release-in-B.result new) c.self.view_is
    (is_released w B c.args.count c.release-in-B.result c.release-in-B.new.me c.release-in-B.new.pool.items c.release-in-B.new.released.items c.release-in-B.ensures))
