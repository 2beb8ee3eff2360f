-- What is answered of a revoked commitment.
use Rattle.std.specs.Prelude.{◌≡◌, ℕ, map, Option}
use Rattle.tx.specs.Fields.{Transaction}
use Rattle.commit.specs.Keys.{bytes_of}
use Rattle.penalty.specs.Sets.{AreClaimsOn}
use Rattle.revoked.specs.Parts.{RevokedParts}
use Rattle.revoked.specs.Reading.{claimed_in, others_in}
use Rattle.unilateral.specs.declared.names.FundingKeys.{FundingKeys}
use Rattle.unilateral.specs.Names.{name_at}
use Rattle.spend.specs.declared.revoked_requests.RevokedRequest.{RevokedRequest}
use Rattle.spend.specs.declared.revoked_answers.RevokedAnswer.{RevokedAnswer}

-- the commitment that a request has
abbrev pub parts_of : RevokedRequest → RevokedParts
parts_of r = record { channel_type = r.commitment.channel_type; keys = bytes_of r.commitment.keys; delay_blocks = r.commitment.delay_blocks; htlcs = r.htlcs }

-- what is found of a commitment in a transaction: a claim on each output of it, and the indices and the names of the others
pub record IsFoundIn (r : RevokedParts) (funding_keys : Option FundingKeys) (t : Transaction) (confirmed_height : ℕ) (a : RevokedAnswer) : Type 0 where
  pub revoked : a.revoked ≡ r
  pub claims : AreClaimsOn (claimed_in r t) a.found.claims
  pub others : a.found.others ≡ others_in r t
  pub names : a.names ≡ map (name_at r funding_keys t) (others_in r t)
  pub height : a.confirmed_height ≡ confirmed_height

abbrev pub IsRevokedAnswer : RevokedRequest → RevokedAnswer → Type 0
IsRevokedAnswer r = IsFoundIn (parts_of r) r.commitment.funding_keys r.transaction r.confirmed_height
