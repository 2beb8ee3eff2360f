-- A commitment of a side, with the peer's tokens on it.
use Rattle.terms.specs.declared.agreement.Terms.{Terms}
use Rattle.channel.specs.declared.commitments.CommitmentState.{CommitmentState}
use Rattle.channel.specs.Tokens.{contents_of, peer_tokens}
use Rattle.publish.specs.declared.recorded.Recorded.{Recorded}

-- what the commitment consists of, and the peer's tokens on it and on its HTLC transactions
abbrev pub recorded_of : Terms → CommitmentState → Recorded
recorded_of terms c = record { commitment = contents_of terms c; tokens = peer_tokens terms c }
