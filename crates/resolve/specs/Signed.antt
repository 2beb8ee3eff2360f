-- Tokens on a commitment and on its HTLC transactions.
use Rattle.std.specs.Prelude.{◌≡◌, ℕ, List, map}
use Rattle.script.specs.Token.{token_of}
use Rattle.terms.specs.declared.sides.Side.{Side}
use Rattle.terms.specs.declared.agreement.Terms.{Terms}
use Rattle.terms.specs.Agreement.{party}
use Rattle.terms.specs.Sides.{other}
use Rattle.commit.specs.Commitments.{Contents}
use Rattle.commit.specs.Signing.{commitment_digest, htlc_digests}

-- a token is that of the owner's peer on a commitment, by its funding key
abbrev pub IsCommitmentToken : Terms → Side → Contents → List ℕ → Type 0
IsCommitmentToken terms owner c token = token ≡ token_of (party (other owner) terms).bases.funding.bytes (commitment_digest terms c)

-- tokens are those of the owner's peer on the HTLC transactions of a commitment, in the order of its outputs
abbrev pub AreHtlcTokens : Contents → List (List ℕ) → Type 0
AreHtlcTokens c tokens = tokens ≡ map (token_of c.keys.remote_htlc) (htlc_digests c)
