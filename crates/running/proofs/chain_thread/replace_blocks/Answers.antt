use Rattle.std.proofs.Common.{◌≡◌, Option, ap, sym}
use Rattle.std.proofs.lemmas.Result.{IfOk-weaker}
use Rattle.mempool.specs.declared.errors.ReorgError.{ReorgError}
use Rattle.mempool.specs.Reorganising.{IsRefusal, reorg_refusal}
use Rattle.world.specs.declared.errors.EventError.{EventError}
use Rattle.running.specs.Outcomes.{refusal_as}
use Rattle.running.proofs.chain_thread.replace_blocks.Goals as goal

pub returns-in-Ok : goal.returns-in-Ok
returns-in-Ok c = ap refusal_as (sym c.in-Ok.ensures.ok.lawful)

pub returns-in-Err : goal.returns-in-Err
returns-in-Err c =
    let r = c.args.reorg.now in
    let first = reorg_refusal c.args.pool.now.chain r.depth r.forgotten in
    IfOk-weaker c.refusal_as.result (λ outcome. (first : Option ReorgError) → IsRefusal first c.in-Err.error → outcome ≡ refusal_as first) (λ (outcome : Option EventError). outcome ≡ refusal_as first)
    (λ outcome same. same first c.in-Err.ensures.refused) c.refusal_as.ensures
