use Rattle.std.proofs.Common.{◌≡◌, None, subst}
use Rattle.mempool.specs.Mining.{Mined}
use Rattle.mempool.specs.Reorganising.{reorg_refusal, IsRefusal, IsReorganised}
use Rattle.world.specs.Worlds.{World}
use Rattle.world.proofs.Played.{not_deep, is_reorganised, not_reorganised}
use Rattle.world.proofs.parts.Parts.reorganise.Goals as goal

pub settle-requires : goal.settle-requires
settle-requires c =
    let is = subst (λ (v : World). reorg_refusal v.chain c.args.depth c.args.forgotten ≡ None) c.self.view_is c.in-Ok.ensures.ok.lawful in
    not_deep c.args.self.now.chain c.args.depth c.args.forgotten is

pub returns-in-Ok : goal.returns-in-Ok
returns-in-Ok c =
    let i = c.self.inside in
    let w : World = record { a = i.a; b = i.b; chain = i.chain; pool = i.pool.items; released = i.released.items } in
    let done = c.in-Ok.done in
    let by_pool = subst (λ ts. IsReorganised i.chain ts c.deref-2.result.now c.args.depth c.args.forgotten done.chain done.pool.items done.txs) c.deref.ensures.value c.in-Ok.ensures.ok in
    let by_both = subst (λ ts. IsReorganised i.chain i.pool.items ts c.args.depth c.args.forgotten done.chain done.pool.items done.txs) c.deref-2.ensures.value by_pool in
    let is : IsReorganised c.args.self.now.chain c.args.self.now.pool c.args.self.now.released c.args.depth c.args.forgotten done.chain done.pool.items done.txs =
    subst (λ (v : World). IsReorganised v.chain v.pool v.released c.args.depth c.args.forgotten done.chain done.pool.items done.txs) c.self.view_is by_both
    in
    let m : Mined = record { chain = done.chain; waiting = done.pool.items; txs = done.txs } in
    is_reorganised c.args.self.now c.settle.new.self c.args.depth c.args.forgotten m c.settle.result is c.settle.ensures.world c.settle.ensures.outcome

pub returns-in-Err : goal.returns-in-Err
returns-in-Err c =
    let is : IsRefusal (reorg_refusal c.args.self.now.chain c.args.depth c.args.forgotten) c.in-Err.error =
    subst (λ (v : World). IsRefusal (reorg_refusal v.chain c.args.depth c.args.forgotten) c.in-Err.error) c.self.view_is c.in-Err.ensures.err
    in
    not_reorganised c.args.self.now c.args.depth c.args.forgotten c.in-Err.error c.of_reorg.result is c.of_reorg.ensures
