use Rattle.std.proofs.Common.{subst, IfOk}
use Rattle.penalty.specs.Claimable.{penalty_on}
use Rattle.penalty.specs.Sets.{IsClaimOn}
use Rattle.penalty.proofs.Second.{there_is_one, has_output, stands, its_program}
use Rattle.penalty.proofs.building.second_stage_penalty.Goals as goal

pub unreachable-requires : goal.unreachable-requires
unreachable-requires c = there_is_one c.args.commitment.now c.args.k c.in_ok-htlc_tx.field-0 c.requires c.in_ok-htlc_tx.ensures c.in-None.is

pub first_place-requires : goal.first_place-requires
first_place-requires c = has_output c.args.commitment.now c.args.k c.in-Some.tx c.in_ok-htlc_tx.field-0 c.requires c.in_ok-htlc_tx.ensures c.in-Some.is

pub penalty_on-requires : goal.penalty_on-requires
penalty_on-requires c =
    its_program c.args.commitment.now c.args.k c.in-Some.tx c.in_ok-htlc_tx.field-0 c.in_ok-first_place-in-Some.field-0 c.requires c.in_ok-htlc_tx.ensures c.in-Some.is
    (λ out e. c.in_ok-first_place-in-Some.ensures out e)

pub returns : goal.returns
returns c h e =
    subst (λ p. IfOk c.penalty_on.result (IsClaimOn (penalty_on c.args.commitment.now p)))
    (stands c.args.commitment.now c.args.k c.in-Some.tx c.in_ok-htlc_tx.field-0 h c.in_ok-first_place-in-Some.field-0 e c.in_ok-htlc_tx.ensures c.in-Some.is
    (λ out f. c.in_ok-first_place-in-Some.ensures out f))
    c.penalty_on.ensures
