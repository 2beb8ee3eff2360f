-- What the owner's peer signs of a commitment (BOLT 2, `commitment_signed`).
use Rattle.std.specs.Prelude.{◌≡◌, ℕ, List, [], ◌∷◌, map, not, None}
use Rattle.std.specs.Str.{bytes_eq}
use Rattle.script.specs.Token.{token_of}
use Rattle.terms.specs.declared.sides.Side.{Side}
use Rattle.terms.specs.declared.agreement.Terms.{Terms}
use Rattle.terms.specs.Agreement.{party}
use Rattle.terms.specs.Sides.{other}
use Rattle.updates.specs.declared.errors.ChannelError.TheVariants.{BadSignature}
use Rattle.updates.specs.Refusals.{Test}
use Rattle.commit.specs.Commitments.{Contents, commitment_of}
use Rattle.commit.specs.Building.{refusal_of}
use Rattle.commit.specs.Signing.{commitment_digest, htlc_digests}
use Rattle.channel.specs.declared.commitments.CommitmentState.{CommitmentState}
use Rattle.updates.specs.declared.messages.Tokens.{Tokens}
use Rattle.channel.specs.Points.{point_at}
use Rattle.channel.specs.States.{first_of}

-- what the commitment consists of
abbrev pub contents_of : Terms → CommitmentState → Contents
contents_of terms c = commitment_of terms c.view c.owner c.number c.point.bytes

-- the key of the owner's peer that signs the commitment, and the one that signs its HTLC transactions
abbrev pub funding_key : Terms → CommitmentState → List ℕ
funding_key terms c = (party (other c.owner) terms).bases.funding.bytes

abbrev pub htlc_key : Terms → CommitmentState → List ℕ
htlc_key terms c = (contents_of terms c).keys.remote_htlc

-- the tokens of the owner's peer: its funding key's on the commitment, and its HTLC key's on each HTLC transaction in the order of outputs
abbrev pub peer_tokens : Terms → CommitmentState → Tokens
peer_tokens terms c = record {
  commitment = token_of (funding_key terms c) (commitment_digest terms (contents_of terms c));
  htlcs = map (token_of (htlc_key terms c)) (htlc_digests (contents_of terms c));
}

-- its transaction keeps the limits
abbrev pub IsBuilt : Terms → CommitmentState → Type 0
IsBuilt terms c = refusal_of (contents_of terms c).outputs ≡ None

-- a side takes no other token on its commitment 0 than its peer's
abbrev pub opening_tests : Terms → Side → List ℕ → List ℕ → List Test
opening_tests terms side seed token = (not (bytes_eq token (peer_tokens terms (first_of terms side (point_at seed 0))).commitment), BadSignature) ∷ []
