use Rattle.penalty.proofs.Second.{there_is_one, that_one, is_there}
use Rattle.commit.specs.Keys.{bytes_of}
use Rattle.publish.proofs.Kept.{low_expiry}
use Rattle.publish.proofs.Witnessed.{second_by, second_is}
use Rattle.publish.proofs.signatures.htlc_tx_with.Goals as goal

pub htlc_witness-requires-clause-height : goal.htlc_witness-requires-clause-height
htlc_witness-requires-clause-height c = low_expiry c.args.commitment.now c.args.k c.args.htlc.now c.requires.outputs c.requires.kth

pub unreachable-requires : goal.unreachable-requires
unreachable-requires c =
    there_is_one c.args.commitment.now c.args.k c.in_ok-tx.field-0 (is_there _ c.args.htlc.now c.requires.kth) c.in_ok-tx.ensures c.in-None.is

pub returns : goal.returns
returns c =
    let commitment = c.args.commitment.now in
    let h = c.args.htlc.now in
    let witness = second_by c.in_ok-witness.witness commitment (bytes_of c.keys.result.now) h c.args.remote.now c.args.local.now c.args.item c.keys.ensures c.requires.remote c.requires.local c.in_ok-witness.ensures in
    let tx = that_one commitment c.args.k c.in-Some.tx h c.in_ok-tx.field-0 c.requires.kth c.in_ok-tx.ensures c.in-Some.is in
    second_is commitment h c.args.item c.in-Some.tx c.with_witness.result c.in_ok-witness.witness tx witness c.with_witness.ensures
