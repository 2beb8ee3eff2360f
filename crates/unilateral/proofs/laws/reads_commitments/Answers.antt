use Rattle.unilateral.proofs.Models.{reads_theirs, reads_ours, reads_htlc_txs}
use Rattle.unilateral.proofs.laws.reads_commitments.Goals as goal

pub returns-clause-theirs : goal.returns-clause-theirs
returns-clause-theirs c = reads_theirs

pub returns-clause-ours : goal.returns-clause-ours
returns-clause-ours c = reads_ours

pub returns-clause-htlc_transactions : goal.returns-clause-htlc_transactions
returns-clause-htlc_transactions c = reads_htlc_txs
