use Rattle.std.proofs.Common.{ap}
use Rattle.std.proofs.lemmas.Result.{IfOk-weaker}
use Rattle.claim.specs.declared.parts.Shell.TheVariants.{Fixed}
use Rattle.commit.specs.Keys.{bytes_of}
use Rattle.penalty.proofs.Programs.{on_htlc}
use Rattle.resolve.proofs.Standing.{second_stage_way}
use Rattle.resolve.proofs.Accepting.{claims_second, claims_fixed, way_fixed, as_second}
use Rattle.resolve.proofs.claiming.second_stage_on.Goals as goal

pub claim_of-requires-clause-form : goal.claim_of-requires-clause-form
claim_of-requires-clause-form c =
    claims_fixed c.args.commitment.now c.keys-keys.result.now c.args.htlc.now c.in_ok-checked.checked c.args.place c.args.token _ _ c.second_stage_kind-kind.ensures (ap Fixed c.requires.tx)
    (claims_second c.args.commitment.now c.keys-keys.result.now c.args.htlc.now c.in_ok-checked.checked c.args.place c.args.token c.keys-keys.ensures c.requires.token c.requires.open c.requires.place c.in_ok-checked.ensures)

pub claim_of-requires-clause-way : goal.claim_of-requires-clause-way
claim_of-requires-clause-way c =
    way_fixed c.args.commitment.now c.keys-keys.result.now c.args.htlc.now c.in_ok-checked.checked c.args.place c.args.token _ _ c.second_stage_kind-kind.ensures (ap Fixed c.requires.tx)
    (second_stage_way (bytes_of c.keys-keys.result.now) c.args.commitment.now c.args.htlc.now c.in_ok-checked.checked c.args.place c.in_ok-checked.ensures c.requires.height c.requires.place)

pub claim_of-requires-clause-program : goal.claim_of-requires-clause-program
claim_of-requires-clause-program c =
    on_htlc c.args.commitment.now _ c.args.htlc.now.direction c.args.htlc.now.htlc _ _ c.keys-keys.ensures c.in_ok-checked.ensures c.requires.place.program

pub returns : goal.returns
returns c =
    IfOk-weaker c.claim_of.result _ _
    (λ claim i.
    as_second c.args.commitment.now c.keys-keys.result.now c.args.htlc.now c.in_ok-checked.checked c.args.place c.args.token _ _ claim c.keys-keys.ensures c.requires.token
    c.second_stage_kind-kind.ensures (ap Fixed c.requires.tx) c.in_ok-checked.ensures i)
    c.claim_of.ensures
