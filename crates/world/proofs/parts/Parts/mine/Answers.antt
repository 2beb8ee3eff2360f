use Rattle.std.proofs.Common.{◌≡◌, Ok, subst}
use Rattle.mempool.specs.Mining.{Mined, mined_by}
use Rattle.scenario.specs.declared.events.Event.TheVariants as events
use Rattle.world.specs.declared.outcomes.Outcome.TheVariants.{Mined as MinedBlocks}
use Rattle.world.specs.Worlds.{World}
use Rattle.world.specs.Steps.{IsPlayed}
use Rattle.world.proofs.Played.{is_mined}
use Rattle.world.proofs.parts.Parts.mine.Goals as goal

pub returns : goal.returns
returns c =
    let i = c.self.inside in
    let w : World = record { a = i.a; b = i.b; chain = i.chain; pool = i.pool.items; released = i.released.items } in
    let m : Mined = record { chain = c.mine.new.chain; waiting = c.in_ok-mined.mined.waiting.items; txs = c.in_ok-mined.mined.txs } in
    let new : World = record w { chain = m.chain; pool = m.waiting } in
    let is = subst (λ ts. mined_by c.args.count i.chain ts ≡ m) c.deref.ensures.value c.in_ok-mined.ensures.ok in
    subst (λ (v : World). IsPlayed v (events.Blocks c.args.count) (Ok (MinedBlocks c.height.result m.txs)) new) c.self.view_is
    (is_mined w c.args.count m c.height.result is c.height.ensures)
