use Rattle.std.proofs.Common.{sym, subst, ◌∙◌, ◌≤◌, List}
use Rattle.std.specs.List.{All}
use Rattle.tx.specs.declared.limits.TheConstants.{MAX_VALUE}
use Rattle.commit.specs.declared.outputs.HtlcOutput.{HtlcOutput}
use Rattle.commit.specs.Fees.{satoshis_of}
use Rattle.commit.proofs.Limited.{low_htlcs}
use Rattle.commit.proofs.commitments.Commitment.htlcs.Goals as goal

pub returns-clause-low : goal.returns-clause-low
returns-clause-low c =
    subst (λ (hs : List HtlcOutput). All (λ h. satoshis_of h.htlc.amount_msat ≤ MAX_VALUE) hs) (sym (c.values.ensures ∙ c.self.invariant.htlcs_are))
    (low_htlcs _ 0 c.self.inside.outputs c.self.invariant.outputs_are)
