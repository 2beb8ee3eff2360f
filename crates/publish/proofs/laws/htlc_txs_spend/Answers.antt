use Rattle.publish.proofs.Opened.{htlc_txs_open}
use Rattle.publish.proofs.laws.htlc_txs_spend.Goals as goal

pub returns : goal.returns
returns c = htlc_txs_open
