use Rattle.std.proofs.Common.{arith, subst, sym, ap}
use Rattle.std.proofs.lemmas.Result.{IfOk-weaker}
use Rattle.penalty.proofs.Accepting.{open_way}
use Rattle.forms.specs.Forms.{to_local_form}
use Rattle.unilateral.proofs.Opening.{stands_for}
use Rattle.unilateral.proofs.SecondStage.{claims_delayed, as_delayed}
use Rattle.unilateral.proofs.claiming.delayed_on.Goals as goal

pub claim_of-requires-clause-form : goal.claim_of-requires-clause-form
claim_of-requires-clause-form c =
    claims_delayed c.args.keys.now.revocation.bytes c.args.delay_blocks c.args.keys.now.delayed c.in_ok-checked.checked c.args.place (omega arith) c.in_ok-checked.ensures

pub claim_of-requires-clause-way : goal.claim_of-requires-clause-way
claim_of-requires-clause-way c =
    open_way _ c.in_ok-checked.checked 1 c.args.place
    (claims_delayed c.args.keys.now.revocation.bytes c.args.delay_blocks c.args.keys.now.delayed c.in_ok-checked.checked c.args.place (omega arith) c.in_ok-checked.ensures)

pub claim_of-requires-clause-program : goal.claim_of-requires-clause-program
claim_of-requires-clause-program c =
    stands_for (to_local_form c.args.keys.now.revocation.bytes c.args.delay_blocks c.args.keys.now.delayed.bytes) c.in_ok-checked.checked c.args.place.program c.in_ok-checked.ensures c.requires

pub returns : goal.returns
returns c = IfOk-weaker c.claim_of.result _ _ (λ claim i. as_delayed c.args.keys.now c.args.delay_blocks c.in_ok-checked.checked c.args.place claim c.in_ok-checked.ensures i) c.claim_of.ensures
