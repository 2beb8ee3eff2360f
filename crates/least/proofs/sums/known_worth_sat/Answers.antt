use Rattle.std.proofs.Common.{ℕ, ap, ◌∙◌}
use Rattle.std.specs.Prelude.{if◌then◌else◌}
use Rattle.std.specs.List.{sum_by}
use Rattle.std.proofs.lemmas.List.{take_all}
use Rattle.terms.specs.declared.htlcs.Htlc.{Htlc}
use Rattle.commit.specs.Fees.{satoshis_of}
use Rattle.worth_laws.specs.Counted.{known_by}
use Rattle.least.proofs.Known.{kept_only}
use Rattle.least.proofs.sums.known_worth_sat.Goals as goal

pub returns-clause-sum : goal.returns-clause-sum
returns-clause-sum c =
    let known = c.args.known.now in
    let sat : Htlc → ℕ = λ h. satoshis_of h.amount_msat in
    c.loop-htlc.invariant.sum
    ∙ ap (sum_by (λ (h : Htlc). if known_by known h then sat h else 0)) (take_all c.loop-htlc.htlc-index c.args.htlcs.now c.loop-htlc-test.false)
    ∙ kept_only (known_by known) sat c.args.htlcs.now
