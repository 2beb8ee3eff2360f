use Rattle.std.proofs.lemmas.Result.{IfOk-weaker}
use Rattle.unilateral.proofs.Opening.{open_to, as_direct}
use Rattle.unilateral.proofs.claiming.direct_on.Goals as goal

pub open_claim-requires : goal.open_claim-requires
open_claim-requires c =
    open_to c.args.channel_type c.args.keys.now c.args.htlc.now c.in_ok-checked.checked c.args.place c.direct_kind-kind.result c.requires.allowed c.requires.program c.in_ok-checked.ensures c.direct_kind-kind.ensures

pub returns : goal.returns
returns c =
    IfOk-weaker c.open_claim.result _ _
    (λ claim i. as_direct c.args.channel_type c.args.keys.now c.args.htlc.now c.in_ok-checked.checked c.args.place c.direct_kind-kind.result claim c.in_ok-checked.ensures c.direct_kind-kind.ensures i)
    c.open_claim.ensures
