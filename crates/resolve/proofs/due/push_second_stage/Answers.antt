use Rattle.std.proofs.Common.{◌≡◌, Some, refl, sym, ap, subst, ◌∙◌}
use Rattle.std.specs.Prelude.{slice_get, slice_index_or}
use Rattle.script.specs.Token.{token_of}
use Rattle.claim.specs.declared.parts.Place.{Place}
use Rattle.commit.specs.Commitments.{Contents, htlcs_of}
use Rattle.commit.specs.Signing.{htlc_digest}
use Rattle.penalty.specs.Sets.{IsClaimOn}
use Rattle.penalty.proofs.Pushed.{push_two}
use Rattle.penalty.proofs.Second.{there_is_one, that_one, has_output, stands, its_program, is_there}
use Rattle.resolve.specs.Due.{delayed_on, second_stage_on, delayed_second_stage}
use Rattle.resolve.proofs.Pushing.{token_is}
use Rattle.resolve.proofs.due.push_second_stage.Goals as goal

pub unreachable-requires : goal.unreachable-requires
unreachable-requires c =
    there_is_one c.commitment-commitment.result.now c.args.k c.in_ok-tx.field-0
    (is_there _ c.args.htlc.now (subst (λ (y : Contents). slice_get (htlcs_of y) c.args.k ≡ Some c.args.htlc.now) (sym c.commitment-commitment.ensures.value) c.requires.kth)) c.in_ok-tx.ensures c.in_default.is

pub first_place-requires : goal.first_place-requires
first_place-requires c =
    has_output c.commitment-commitment.result.now c.args.k c.in-Some.tx c.in_ok-tx.field-0
    (is_there _ c.args.htlc.now (subst (λ (y : Contents). slice_get (htlcs_of y) c.args.k ≡ Some c.args.htlc.now) (sym c.commitment-commitment.ensures.value) c.requires.kth)) c.in_ok-tx.ensures c.in-Some.is

pub second_stage_on-requires-clause-token : goal.second_stage_on-requires-clause-token
second_stage_on-requires-clause-token c =
    token_is c.args.own.now.commitment c.args.own.now.htlc_tokens c.args.k c.args.htlc.now c.index-values-k.result c.args.own.now.signed c.requires.kth
    (c.index-values-k.is ∙ ap (λ ts. slice_index_or ts c.args.k c.index-values-k.result) c.values.ensures)
    ∙ ap (λ (y : Contents). token_of y.keys.remote_htlc (htlc_digest y c.args.htlc.now)) (sym c.commitment-commitment.ensures.value)

pub second_stage_on-requires-clause-tx : goal.second_stage_on-requires-clause-tx
second_stage_on-requires-clause-tx c =
    that_one c.commitment-commitment.result.now c.args.k c.in-Some.tx c.args.htlc.now c.in_ok-tx.field-0
    (subst (λ (y : Contents). slice_get (htlcs_of y) c.args.k ≡ Some c.args.htlc.now) (sym c.commitment-commitment.ensures.value) c.requires.kth) c.in_ok-tx.ensures c.in-Some.is

pub delayed_on-requires : goal.delayed_on-requires
delayed_on-requires c =
    its_program c.commitment-commitment.result.now c.args.k c.in-Some.tx c.in_ok-tx.field-0 c.in_ok-second.second
    (is_there _ c.args.htlc.now (subst (λ (y : Contents). slice_get (htlcs_of y) c.args.k ≡ Some c.args.htlc.now) (sym c.commitment-commitment.ensures.value) c.requires.kth)) c.in_ok-tx.ensures c.in-Some.is
    (λ out e. c.in_ok-second.ensures out e)

pub returns : goal.returns
returns c done a =
    push_two done _ c.args.claims.now.items _ _ (second_stage_on c.args.own.now.commitment c.args.htlc.now c.args.place) (delayed_second_stage c.args.own.now.commitment c.args.htlc.now)
    c.in_ok-second_stage_on.field-0 c.in_ok-delayed_on.field-0
    (subst (λ (y : Contents). IsClaimOn (second_stage_on y c.args.htlc.now c.args.place) c.in_ok-second_stage_on.field-0) c.commitment-commitment.ensures.value c.in_ok-second_stage_on.ensures)
    (subst (λ (y : Contents). IsClaimOn (delayed_second_stage y c.args.htlc.now) c.in_ok-delayed_on.field-0) c.commitment-commitment.ensures.value
    (subst (λ (p : Place). IsClaimOn (delayed_on c.commitment-commitment.result.now p) c.in_ok-delayed_on.field-0)
    (stands c.commitment-commitment.result.now c.args.k c.in-Some.tx c.in_ok-tx.field-0 c.args.htlc.now c.in_ok-second.second
    (subst (λ (y : Contents). slice_get (htlcs_of y) c.args.k ≡ Some c.args.htlc.now) (sym c.commitment-commitment.ensures.value) c.requires.kth) c.in_ok-tx.ensures c.in-Some.is
    (λ out e. c.in_ok-second.ensures out e))
    c.in_ok-delayed_on.ensures))
    refl c.in_ok-push.ensures.items c.in_ok-push-2.ensures.items a
