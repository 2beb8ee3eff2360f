use Rattle.safety.proofs.Takers.{commitments_spend_fundings, htlc_transactions_spend_outputs}
use Rattle.safety.proofs.laws.what_commitments_spend.Goals as goal

pub returns-clause-fundings : goal.returns-clause-fundings
returns-clause-fundings c = commitments_spend_fundings

pub returns-clause-outputs : goal.returns-clause-outputs
returns-clause-outputs c = htlc_transactions_spend_outputs
