use Rattle.std.proofs.Common.{ap, ◌∙◌, map}
use Rattle.tx.specs.Spelling.{transaction_id}
use Rattle.commit.specs.Keys.{bytes_of}
use Rattle.commit.specs.Commitments.{tx_output, htlcs_from}
use Rattle.commit.proofs.Limited.{transaction_is}
use Rattle.commit.proofs.commitments.Commitment.new.Goals as goal

pub invariant_of-result : goal.invariant_of-result
invariant_of-result c =
    let t = transaction_is (record { funding = c.args.funding; hidden = c.args.hidden; keys = bytes_of c.args.keys; delay_blocks = c.args.delay_blocks; feerate_per_kw = c.args.feerate_per_kw; outputs = c.args.outputs })
    c.in_ok-tx.tx (map tx_output c.values.result.now) c.in_ok-tx.ensures (ap (map tx_output) c.values.ensures) in
    record {
      transaction_is = t;
      id_is = c.txid-id.ensures ∙ ap transaction_id t;
      htlcs_are = c.in_ok-htlcs.ensures ∙ ap (htlcs_from 0) c.values-2.ensures;
      program_is = c.in_ok-second_stage_program.ensures;
      few = c.requires.few;
      outputs_are = c.requires.each;
    }
