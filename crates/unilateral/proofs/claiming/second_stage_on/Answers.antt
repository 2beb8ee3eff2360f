use Rattle.std.proofs.Common.{sym, ap, ◌∙◌}
use Rattle.std.proofs.lemmas.Result.{IfOk-weaker}
use Rattle.script.specs.Spelling.{spelling}
use Rattle.commit.specs.Keys.{bytes_of}
use Rattle.revoked.specs.Programs.{form_of_htlc}
use Rattle.unilateral.proofs.Opening.{stands_for}
use Rattle.unilateral.proofs.SecondStage.{has_input, kind_with, claims_second, second_way, as_second}
use Rattle.unilateral.proofs.claiming.second_stage_on.Goals as goal

pub digest_on-digest-requires : goal.digest_on-digest-requires
digest_on-digest-requires c =
    has_input (bytes_of c.args.keys.now) c.args.delay_blocks c.args.feerate_per_kw c.args.htlc.now.direction c.args.expiry.height c.args.place c.in_ok-tx.tx c.in_ok-tx.ensures

pub claim_of-requires-clause-form : goal.claim_of-requires-clause-form
claim_of-requires-clause-form c =
    claims_second c.args.channel_type c.args.keys.now c.args.delay_blocks c.args.feerate_per_kw c.args.htlc.now c.args.expiry c.args.place c.in_ok-checked.checked c.in_ok-tx.tx c.second_stage_kind-kind.result
    (kind_with c.args.channel_type c.args.keys.now c.args.delay_blocks c.args.feerate_per_kw c.args.htlc.now c.args.expiry c.args.place c.in_ok-checked.checked c.in_ok-tx.tx c.second_stage_kind-kind.result
    c.digest_on-digest.result c.bytes.result.now c.new-token.result
    c.in_ok-checked.ensures c.in_ok-tx.ensures (sym c.bytes.ensures.spelt.same ∙ ap spelling c.script.ensures) c.digest_on-digest.ensures c.new-token.ensures c.second_stage_kind-kind.ensures)
    c.requires.fixed c.requires.allowed

pub claim_of-requires-clause-way : goal.claim_of-requires-clause-way
claim_of-requires-clause-way c =
    second_way c.args.channel_type c.args.keys.now c.args.delay_blocks c.args.feerate_per_kw c.args.htlc.now c.args.expiry c.args.place c.in_ok-checked.checked c.in_ok-tx.tx c.second_stage_kind-kind.result
    (kind_with c.args.channel_type c.args.keys.now c.args.delay_blocks c.args.feerate_per_kw c.args.htlc.now c.args.expiry c.args.place c.in_ok-checked.checked c.in_ok-tx.tx c.second_stage_kind-kind.result
    c.digest_on-digest.result c.bytes.result.now c.new-token.result
    c.in_ok-checked.ensures c.in_ok-tx.ensures (sym c.bytes.ensures.spelt.same ∙ ap spelling c.script.ensures) c.digest_on-digest.ensures c.new-token.ensures c.second_stage_kind-kind.ensures)
    c.requires.fixed

pub claim_of-requires-clause-program : goal.claim_of-requires-clause-program
claim_of-requires-clause-program c =
    stands_for (form_of_htlc c.args.channel_type (bytes_of c.args.keys.now) c.args.htlc.now) c.in_ok-checked.checked c.args.place.program c.in_ok-checked.ensures c.requires.program

pub returns : goal.returns
returns c =
    IfOk-weaker c.claim_of.result _ _
    (λ claim i.
    as_second c.args.channel_type c.args.keys.now c.args.delay_blocks c.args.feerate_per_kw c.args.htlc.now c.args.expiry c.args.place c.in_ok-checked.checked c.in_ok-tx.tx c.second_stage_kind-kind.result claim
    (kind_with c.args.channel_type c.args.keys.now c.args.delay_blocks c.args.feerate_per_kw c.args.htlc.now c.args.expiry c.args.place c.in_ok-checked.checked c.in_ok-tx.tx c.second_stage_kind-kind.result
    c.digest_on-digest.result c.bytes.result.now c.new-token.result
    c.in_ok-checked.ensures c.in_ok-tx.ensures (sym c.bytes.ensures.spelt.same ∙ ap spelling c.script.ensures) c.digest_on-digest.ensures c.new-token.ensures c.second_stage_kind-kind.ensures)
    i)
    c.claim_of.ensures
