use Rattle.std.proofs.Common.{ap, ◌∙◌}
use Rattle.std.specs.Prelude.{slice_get}
use Rattle.std.proofs.lemmas.Option.{get_or_from_slice_get}
use Rattle.script.specs.Token.{token_of}
use Rattle.commit.specs.Signing.{htlc_digest}
use Rattle.publish.proofs.Kept.{token_at}
use Rattle.publish.proofs.signatures.htlc_tx_by.Goals as goal

pub htlc_tx_with-requires-clause-remote : goal.htlc_tx_with-requires-clause-remote
htlc_tx_with-requires-clause-remote c =
    let commitment = c.args.commitment.now in
    let key = commitment.keys.remote_htlc in
    c.index-peers-k.is
    ∙ get_or_from_slice_get c.args.peers.now c.args.k (token_of key (htlc_digest commitment c.args.htlc.now)) c.index-peers-k.result
    (ap (λ ts. slice_get ts c.args.k) c.requires.peers ∙ token_at commitment key c.args.k c.args.htlc.now c.requires.kth)
