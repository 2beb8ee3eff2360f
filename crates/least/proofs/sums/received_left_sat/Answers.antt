use Rattle.std.proofs.Common.{ℕ, ◌-◌, ap, ◌∙◌}
use Rattle.std.specs.List.{filter, sum_by}
use Rattle.terms.specs.declared.htlcs.Htlc.{Htlc}
use Rattle.commit.specs.Fees.{satoshis_of}
use Rattle.worth_laws.specs.Counted.{known_by}
use Rattle.least.proofs.sums.received_left_sat.Goals as goal

pub returns-clause-sum : goal.returns-clause-sum
returns-clause-sum c =
    c.each_known_left_sat.ensures.sum ∙ ap (λ (n : ℕ). sum_by (λ (h : Htlc). satoshis_of h.amount_msat - n) (filter (known_by c.args.known.now) c.args.htlcs.now)) c.htlc_fee.ensures
