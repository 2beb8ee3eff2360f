use Rattle.desk.specs.Seats.{last_in}
use Rattle.running.proofs.Broadcasting.{number_told, newest_told, htlc_told}
use Rattle.running.proofs.chain_thread.tx_by.Goals as goal

pub returns-in-Commitment-clause-tx : goal.returns-in-Commitment-clause-tx
returns-in-Commitment-clause-tx g c =
    let told = c.commitment in
    number_told (last_in told.new.seat) c.args.broadcast.now _ told.result c.in-Commitment.is told.ensures.tx

pub returns-in-Newest-clause-tx : goal.returns-in-Newest-clause-tx
returns-in-Newest-clause-tx g c =
    let told = c.commitment-in-Newest in
    newest_told (last_in told.new.seat) c.args.broadcast.now told.result c.in-Newest.is told.ensures.tx

pub returns-in-HtlcTx-clause-tx : goal.returns-in-HtlcTx-clause-tx
returns-in-HtlcTx-clause-tx g c =
    htlc_told (last_in c.htlc_tx.new.seat) c.args.broadcast.now c.in-HtlcTx.number c.in-HtlcTx.htlc _ c.htlc_tx.result c.in-HtlcTx.is c.htlc_tx.ensures.tx
