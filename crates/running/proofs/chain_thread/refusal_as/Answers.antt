use Rattle.std.proofs.Common.{ap, sym, subst}
use Rattle.mempool.specs.declared.errors.ReorgError.{ReorgError}
use Rattle.mempool.specs.Reorganising.{IsRefusal}
use Rattle.running.specs.Outcomes.{refusal_as}
use Rattle.running.proofs.chain_thread.refusal_as.Goals as goal

pub returns-in-TooDeep : goal.returns-in-TooDeep
returns-in-TooDeep c = λ first is. ap refusal_as (sym (subst (λ (e : ReorgError). IsRefusal first e) c.in-TooDeep.is is))

pub returns-in-NoSuchTx : goal.returns-in-NoSuchTx
returns-in-NoSuchTx c = λ first is. ap refusal_as (sym (subst (λ (e : ReorgError). IsRefusal first e) c.in-NoSuchTx.is is))
