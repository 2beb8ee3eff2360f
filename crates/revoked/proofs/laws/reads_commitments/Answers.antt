use Rattle.revoked.proofs.Models.{reads, reads_htlc_tx}
use Rattle.revoked.proofs.laws.reads_commitments.Goals as goal

pub returns-clause-commitments : goal.returns-clause-commitments
returns-clause-commitments c = reads

pub returns-clause-htlc_transactions : goal.returns-clause-htlc_transactions
returns-clause-htlc_transactions c = reads_htlc_tx
